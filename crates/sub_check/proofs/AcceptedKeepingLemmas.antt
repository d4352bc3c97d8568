-- An option that lets repeats keep the page does not change the contents of the files. A
-- transmission that is good without this option is good with it.
use Rattle.std.proofs.Common.{ℕ, Bool, true, List, sym, subst}
use Rattle.stl_file.specs.Subtitle.{SubtitleValue}
use Rattle.stl_rows.specs.Programme.{ProgrammeValue}
use Rattle.stl_rows.specs.declared.layout.Drawing.{Drawing}
use Rattle.sub_plan.specs.Options.{OptionsValue}
use Rattle.sub_rules.specs.Repeats.{GoodWithRepeats, IsFinishedFrame, HasFinishedFrame}
use Rattle.sub_rules.specs.Transmission.{Transmission, last_frame}
use Rattle.sub_laws.proofs.RepeatLemmas.{law_of_may_keep, law_of_erasing_headers}
use Rattle.sub_check.specs.AcceptedKeeping.{LawOfAcceptedKeeping, LawOfAcceptedWithoutKeeping}
use Rattle.sub_check.specs.AcceptedKeeping.{with_keeping}
use Rattle.sub_check.specs.CheckedFiles.{FilesMeanWithin}
use Rattle.sub_check.proofs.AcceptedWithinLemmas.{accepted_answer_has_no_failure}

abbrev options_with_keeping : Bool → OptionsValue → OptionsValue
options_with_keeping may options = record options { keeps = may }

-- An option that lets repeats keep the page does not change the contents of the files.
files_mean-keeps :
    (may : Bool) (drawing : Drawing) (options : OptionsValue) (stl pes : List ℕ)
    (subtitles : List SubtitleValue) (t : Transmission)
    → FilesMeanWithin drawing options stl pes subtitles t
    → FilesMeanWithin drawing (options_with_keeping may options) stl pes subtitles t
files_mean-keeps may drawing options stl pes subtitles t files_mean = record {
  gsi = files_mean.gsi;
  subtitle_file = files_mean.subtitle_file;
  in_order = files_mean.in_order;
  drawable = files_mean.drawable;
  carries = files_mean.carries;
}

module _ (keeps may : Bool) (programme : ProgrammeValue) (t : Transmission)
    (options : OptionsValue) where
  finished-keeps : (f : ℕ)
      → IsFinishedFrame keeps programme t options f
      → IsFinishedFrame keeps programme t (options_with_keeping may options) f
  finished-keeps f is = record { whole = is.whole; ended = is.ended }

  some_finished-keeps : (a b : ℕ)
      → HasFinishedFrame keeps programme t options a b
      → HasFinishedFrame keeps programme t (options_with_keeping may options) a b
  some_finished-keeps a b (f, from, to, is) = (f, from, to, finished-keeps f is)

  good-keeps :
      GoodWithRepeats keeps programme t options → GoodWithRepeats keeps programme t
      (options_with_keeping may options)
  good-keeps good = record {
    rules = assumption good.rules;
    codes = good.codes;
    again = λ start low high. some_finished-keeps _ _ (good.again start low high);
    subtitles = λ k d within. some_finished-keeps _ _ (good.subtitles k d within);
    ends = finished-keeps (last_frame t) good.ends;
  }

pub law_of_accepted_keeping : LawOfAcceptedKeeping
law_of_accepted_keeping drawing options stl pes answer later off is is_later fine ok =
    let of = (is.accepted (accepted_answer_has_no_failure answer ok)).0 ok in
    let programme : ProgrammeValue = record { drawing = drawing; records = of.subtitles } in
    (is_later.accepted fine).1 (record {
      subtitles = of.subtitles;
      transmission = of.transmission;
      files_mean = files_mean-keeps true drawing options stl pes of.subtitles of.transmission
          of.files_mean;
      good =
          good-keeps true true programme of.transmission options
          (law_of_may_keep programme of.transmission options
          (subst (λ (k : Bool). GoodWithRepeats k programme of.transmission options) off of.good));
    })

pub law_of_accepted_without_keeping : LawOfAcceptedWithoutKeeping
law_of_accepted_without_keeping drawing options stl pes answer later off is erases is_later fine
    ok =
    let of = (is.accepted (accepted_answer_has_no_failure answer ok)).0 ok in
    let programme : ProgrammeValue = record { drawing = drawing; records = of.subtitles } in
    let files_mean =
    files_mean-keeps options.keeps drawing (with_keeping options) stl pes of.subtitles
    of.transmission
    of.files_mean in
    (is_later.accepted fine).1 (record {
      subtitles = of.subtitles;
      transmission = of.transmission;
      files_mean = files_mean;
      good =
          good-keeps options.keeps options.keeps programme of.transmission (with_keeping options)
          (subst (λ (k : Bool). GoodWithRepeats k programme of.transmission (with_keeping options))
          (sym off)
          (law_of_erasing_headers programme of.transmission (with_keeping options)
          (erases of.subtitles of.transmission files_mean) of.good));
    })
