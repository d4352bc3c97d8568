-- A good transmission meets the sufficient conditions of the main theorem in all its frames. So it
-- is robust, even if rows are lost.
use Rattle.std.proofs.Common.{arith, ℕ, ◌+◌, false, List, length, subst, le_refl}
use Rattle.std.proofs.lemmas.Bool.Decides.{nat_tests}
use Rattle.std.proofs.lemmas.List.{take_all}
use Rattle.ttx_packet.specs.PageHeader.{HasExactCodeWords}
use Rattle.ttx_page.specs.Noise.{ErasesPageIfHeader}
use Rattle.ttx_page.specs.PacketKind.{kind}
use Rattle.ttx_page.specs.Span.{span}
use Rattle.ttx_page.proofs.LateStart.{same_rows_have_same_codes}
use Rattle.stl_rows.specs.Programme.{ProgrammeValue}
use Rattle.sub_plan.specs.Options.{OptionsValue}
use Rattle.sub_rules.specs.Transmission.{Transmission, first_frame, last_frame, on_air_until}
use Rattle.sub_rules.specs.Good.{IsCleanSpan, KeepsRules}
use Rattle.sub_laws.specs.Laws.{LawOfGood, LawOfWindow}
use Rattle.sub_laws.specs.Sufficient.{IsSoundStretch, LawOfSufficientParts}
use Rattle.sub_laws.proofs.SoundStretchLemmas.{sound_stretch_is_repeated, window_has_header}
use Rattle.sub_laws.proofs.StretchLemmas.{law_of_stretch, law_of_full_stretch}
use Rattle.sub_laws.proofs.TransmissionLemmas.{packets_between-each}

pub sound_stretch :
    (programme : ProgrammeValue) (transmission : Transmission) (options : OptionsValue)
    → KeepsRules programme transmission options
    → IsSoundStretch transmission options (first_frame transmission) (last_frame transmission)
sound_stretch programme transmission options keeps = record {
  first = le_refl (first_frame transmission);
  rising = keeps.rising;
  sound = λ f low high.
      let whole : List (List ℕ) = on_air_until transmission f in
      let clean =
      subst (λ ps. IsCleanSpan options.page (span (kind options.page) ps))
      (take_all (length whole) whole (le_refl (length whole)))
      (keeps.spans f (length whole) high) in
      record {
        exact =
            packets_between-each HasExactCodeWords transmission (first_frame transmission) (f + 1)
            keeps.exact;
        erases =
            packets_between-each (ErasesPageIfHeader options.page) transmission
            (first_frame transmission)
            (f + 1)
            (λ k d l m e n h is. (keeps.control k d l m e n h is).erases);
        odd = clean.odd;
        same = same_rows_have_same_codes options.page _ clean.same;
      };
  repeats = keeps.repeats;
}

pub suffices : LawOfSufficientParts
suffices = grind (arith, nat_tests, sound_stretch)

pub law_of_good : LawOfGood
law_of_good programme transmission options good =
    law_of_full_stretch programme transmission options
    (grind (arith, nat_tests, law_of_stretch, suffices))

pub law_of_window : LawOfWindow
law_of_window programme transmission options g j f good listening =
    window_has_header false transmission options _ _
    (sound_stretch_is_repeated transmission options _ _ (sound_stretch programme transmission
    options good.rules)) g
    j f listening
