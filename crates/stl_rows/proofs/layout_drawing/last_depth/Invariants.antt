-- Loop invariant of `last_depth`: the last depth of the remaining lines is the last depth of all
-- lines.
use Rattle.std.proofs.Common.{◌≡◌, ◌+◌, ◌*◌, ◌≤◌, length}
use Rattle.stl_rows.specs.DrawnPage.{last_depth, pitch}
use Rattle.stl_rows.specs.LineByLayout.{prepared_cut_lines}
use Rattle.stl_rows.proofs.layout_drawing.last_depth.Given as goal

abbrev pub invariant-lines : goal.invariant-lines
invariant-lines l = record {
  pitch : l.pitch ≡ pitch l.items;
  few : l.depth + 2 * length l.rest ≤ 2 * length l.fn.cells;
  last : l.last ≤ l.depth;
  reported :
      last_depth l.items l.depth l.last (prepared_cut_lines l.items l.rest)
      ≡ last_depth l.items 0 0 (prepared_cut_lines l.items l.fn.cells);
}

abbrev pub decreases-lines : goal.decreases-lines
decreases-lines l = length l.rest
