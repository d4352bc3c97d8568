-- If the remaining subtitles are written after one more subtitle, the blocks of all of them are
-- written.
use Rattle.std.proofs.Common.{arith}
use Rattle.std.proofs.lemmas.Bool.Decides.{nat_tests}
use Rattle.std.proofs.lemmas.Grind.{common_steps}
use Rattle.std.proofs.lemmas.List.Folds.{concat-append}
use Rattle.stl_file.proofs.NormalCountsLemmas.{ok_result_has_ok_tail, written_subtitles_join}
use Rattle.stl_file.proofs.normal_form.write_subtitles.Goals as goal

pub subtitles-preserved : goal.subtitles-preserved
subtitles-preserved g c = grind (arith, nat_tests, ok_result_has_ok_tail, written_subtitles_join)

pub returns-in_err-write_subtitle-in-Ok-true-clause-bytes :
    goal.returns-in_err-write_subtitle-in-Ok-true-clause-bytes
returns-in_err-write_subtitle-in-Ok-true-clause-bytes g c =
    grind (arith, common_steps, concat-append)
