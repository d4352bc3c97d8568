use Rattle.stl_rows.proofs.JudgedLemmas.{faultless_file_is_decided, judged_subtitles_can_be_drawn}
use Rattle.stl_rows.proofs.loading.law_of_judged.Goals as goal

pub returns : goal.returns
returns c = record { drawn = judged_subtitles_can_be_drawn; decided = faultless_file_is_decided }
