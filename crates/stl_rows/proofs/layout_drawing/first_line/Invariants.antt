-- Loop invariant of `first_line`: the cells so far contain no new line.
use Rattle.std.proofs.Common.{◌≡◌, ◌-◌, ◌≤◌, length, drop, take}
use Rattle.stl_rows.specs.LineByLayout.{cut_lines}
use Rattle.stl_rows.specs.LineByLine.{cells_onto_lines}
use Rattle.stl_rows.proofs.layout_drawing.first_line.Given as goal

abbrev pub invariant-loop-at : goal.invariant-loop-at
invariant-loop-at l = record {
  within : l.at ≤ length l.cells;
  lines :
      cut_lines l.cells ≡ cells_onto_lines (take l.at l.cells) (cut_lines (drop l.at l.cells));
}

abbrev pub decreases-loop-at : goal.decreases-loop-at
decreases-loop-at l = length l.cells - l.at
