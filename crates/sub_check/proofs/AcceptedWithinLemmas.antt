-- If the PTS of frame 0 is less than 2^33, files that a check accepts are also accepted with any
-- greater `within`, unless a source fails or memory cannot be allocated.
use Rattle.std.proofs.Common.{◌≡◌, false, refl, Result, Ok, Err, IsOk}
use Rattle.sub_io.specs.Device.{failed}
use Rattle.sub_rules.specs.Fault.{is_failure}
use Rattle.sub_rules.specs.declared.fault.CheckFault.{CheckFault}
use Rattle.sub_laws.proofs.DelayOfFilesLemmas.{carries_longer}
use Rattle.sub_laws.proofs.RepeatLemmas.{law_of_longer_delay_with_repeats}
use Rattle.sub_checker.specs.declared.accepted.Accepted.{Accepted}
use Rattle.sub_check.specs.AcceptedWithin.{LawOfAcceptedWithinMore}

pub accepted_answer_has_no_failure : (answer : Result Accepted CheckFault) → IsOk answer
    → failed is_failure answer ≡ false
accepted_answer_has_no_failure (Ok a) ok = refl
accepted_answer_has_no_failure (Err f) ok = cc

pub law_of_accepted_within_more : LawOfAcceptedWithinMore
law_of_accepted_within_more
    drawing options more stl pes answer later low longer is is_later fine ok =
    let of = (is.accepted (accepted_answer_has_no_failure answer ok)).0 ok in
    (is_later.accepted fine).1 (record {
      subtitles = of.subtitles;
      transmission = of.transmission;
      files_mean = record {
        gsi = of.files_mean.gsi;
        subtitle_file = of.files_mean.subtitle_file;
        in_order = of.files_mean.in_order;
        drawable = of.files_mean.drawable;
        carries =
            carries_longer options.within more options.origin pes of.transmission low longer
            of.files_mean.carries;
      };
      good =
          law_of_longer_delay_with_repeats options.keeps
          (record { drawing = drawing; records = of.subtitles }) of.transmission options more longer
          of.good;
    })
