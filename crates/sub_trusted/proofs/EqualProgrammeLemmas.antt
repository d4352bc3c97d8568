-- Subtitles that are expected only in frames with an unknown expected page do not change the
-- expected pages of the other frames. The law of equal trust follows.
use Rattle.std.proofs.lemmas.Bool.Decides.{nat_tests}
use Rattle.std.proofs.Common.{◌≡◌, ℕ, ◌+◌, inl, inr, Bool, false}
use Rattle.std.proofs.Common.{List, [], ◌∷◌, find, Option, option_map}
use Rattle.std.proofs.Common.{ap, arith}
use Rattle.stl_file.specs.Subtitle.{SubtitleValue}
use Rattle.stl_rows.specs.DuePage.{drawn_or_blank, due, ends_at, is_due, tci_of_subtitle_ending_at}
use Rattle.stl_rows.specs.Programme.{ProgrammeValue, first_tci, last_tco}
use Rattle.sub_plan.specs.Options.{OptionsValue}
use Rattle.sub_rules.specs.FrameRules.{UnreadReason}
use Rattle.sub_laws.specs.CleanStretch.{criteria_if_unreliable}
use Rattle.sub_trusted.specs.EqualTrust.{HasOtherSubtitles, IsDueOnlyIfUndecided, LawOfEqualTrust}
use Rattle.sub_trusted.proofs.EqualLateLemmas.{HasSameCriteria}
use Rattle.sub_trusted.proofs.EqualTrustLemmas.{stretch_is_trusted_in_both}

module _ (undecided : ℕ → Bool) (f : ℕ) (known : undecided f ≡ false) where
  -- A subtitle that is expected only in frames with an unknown expected page is not expected in
  -- frame f, whose expected page is known.
  undecided_subtitle_is_not_due : (t : SubtitleValue) → IsDueOnlyIfUndecided undecided t
      → is_due f t ≡ false
  undecided_subtitle_is_not_due t is = grind (arith, nat_tests)

  undecided_subtitle_does_not_end : (t : SubtitleValue) → IsDueOnlyIfUndecided undecided t → ends_at
      (f + 1) t ≡ false
  undecided_subtitle_does_not_end t is = grind (arith, nat_tests)

  same_subtitle_is_found : (test : SubtitleValue → Bool)
      → ((t : SubtitleValue) → IsDueOnlyIfUndecided undecided t → test t ≡ false)
      → (judged all : List SubtitleValue) → HasOtherSubtitles undecided judged all
      → find test all ≡ find test judged
  same_subtitle_is_found test none judged [] is = grind (arith, nat_tests)
  same_subtitle_is_found test none judged (t ∷ all) (inl (rest, same, more)) =
      grind (arith, nat_tests, (same_subtitle_is_found test none rest all more))
  same_subtitle_is_found test none judged (t ∷ all) (inr (other, more)) =
      grind (arith, nat_tests, (same_subtitle_is_found test none judged all more))

module _ (programme : ProgrammeValue) (options : OptionsValue) (unread : Option UnreadReason)
    (any_unreliable : Bool) (undecided : ℕ → Bool) (records : List SubtitleValue)
    (others : HasOtherSubtitles undecided programme.records records) where
  equal_with :
      HasSameCriteria (criteria_if_unreliable programme options unread any_unreliable undecided)
      (due programme.drawing records) (tci_of_subtitle_ending_at records)
  unfolding due tci_of_subtitle_ending_at
  equal_with = record {
    due_eq = λ f known.
        ap (drawn_or_blank programme.drawing)
        (same_subtitle_is_found undecided f known (is_due f) (undecided_subtitle_is_not_due
        undecided f known) programme.records
        records others);
    ending_eq = λ f known.
        ap (option_map (λ (t : SubtitleValue). t.tci))
        (same_subtitle_is_found undecided f known (ends_at (f + 1)) (undecided_subtitle_does_not_end
        undecided f known)
        programme.records records others);
  }

pub law_of_equal_trust : LawOfEqualTrust
law_of_equal_trust programme options unread any_unreliable undecided records pes_packets from to b
    others
    reported
    low high whole =
    stretch_is_trusted_in_both (criteria_if_unreliable programme options unread any_unreliable
    undecided)
    (due programme.drawing records) (tci_of_subtitle_ending_at records) (first_tci records)
    (last_tco records)
    (equal_with programme options unread any_unreliable undecided records others) pes_packets from
    to
    reported b
    low
    high whole
