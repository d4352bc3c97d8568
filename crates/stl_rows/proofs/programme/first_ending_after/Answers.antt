-- The TCOs of a programme do not decrease, so a binary search finds the first TCO after a frame.
use Rattle.stl_rows.proofs.DuePageLemmas.{tcos_never_decrease}
use Rattle.stl_rows.proofs.programme.first_ending_after.Goals as goal

pub count_ended_by-requires : goal.count_ended_by-requires
count_ended_by-requires c = tcos_never_decrease _ _ c.requires
