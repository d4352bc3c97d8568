-- Loop invariant of `trailing_count`: all cells from `left` on are in the range of codes.
use Rattle.std.proofs.Common.{◌≡◌, ◌≤◌, true, length, drop}
use Rattle.std.specs.List.{list_all}
use Rattle.stl_rows.specs.TextCode.{is_within}
use Rattle.stl_rows.proofs.prepared_line.trailing_count.Given as goal

abbrev pub invariant-loop-left : goal.invariant-loop-left
invariant-loop-left l = record {
  within : l.left ≤ length l.cells;
  all : list_all (is_within l.first l.last) (drop l.left l.cells) ≡ true;
}

abbrev pub decreases-loop-left : goal.decreases-loop-left
decreases-loop-left l = l.left
