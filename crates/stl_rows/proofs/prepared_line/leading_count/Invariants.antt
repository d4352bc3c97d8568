-- Loop invariant of `leading_count`: all cells so far are in the range of codes.
use Rattle.std.proofs.Common.{◌≡◌, ◌+◌, ◌-◌, ◌≤◌, length, drop}
use Rattle.stl_rows.specs.PreparedLine.{leading_count}
use Rattle.stl_rows.proofs.prepared_line.leading_count.Given as goal

abbrev pub invariant-loop-count : goal.invariant-loop-count
invariant-loop-count l = record {
  within : l.count ≤ length l.cells;
  value :
      leading_count l.first l.last l.cells
      ≡ l.count + leading_count l.first l.last (drop l.count l.cells);
}

abbrev pub decreases-loop-count : goal.decreases-loop-count
decreases-loop-count l = length l.cells - l.count
