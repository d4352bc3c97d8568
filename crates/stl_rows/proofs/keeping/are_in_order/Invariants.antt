-- Loop invariant of `are_in_order`: the subtitles so far do not overlap, so the result depends only
-- on the remaining subtitles.
use Rattle.std.proofs.Common.{◌≡◌, ◌-◌, ◌≤◌, drop, length}
use Rattle.stl_rows.proofs.KeepingLemmas.{InOrderFrom}
use Rattle.stl_rows.proofs.keeping.are_in_order.Given as goal

abbrev pub invariant-loop-i : goal.invariant-loop-i
invariant-loop-i g l = record {
  inside : l.i ≤ length l.subtitles;
  same : InOrderFrom 0 l.subtitles ≡ InOrderFrom l.last (drop l.i l.subtitles);
}

abbrev pub decreases-loop-i : goal.decreases-loop-i
decreases-loop-i g l = length l.subtitles - l.i
