-- Loop invariant of `draw_lines`: drawing the remaining lines on the current page gives the result
-- for all lines.
use Rattle.std.proofs.Common.{◌≡◌, ◌+◌, ◌*◌, ◌≤◌, length}
use Rattle.ttx_page.specs.Page.{blank}
use Rattle.stl_rows.specs.LineByLayout.{HaveSevenBitCells, cut_lines, drawn_from_place}
use Rattle.stl_rows.specs.LineByLayout.{prepared_cut_lines}
use Rattle.stl_rows.proofs.layout_drawing.draw_lines.Given as goal

abbrev pub invariant-lines : goal.invariant-lines
invariant-lines l = record {
  number : l.place.number + length l.rest ≤ length l.fn.cells;
  depth : l.place.depth ≤ 278 + 2 * l.place.number;
  codes : HaveSevenBitCells (cut_lines l.rest);
  drawn :
      drawn_from_place l.items l.jc l.row_shift l.place l.page (prepared_cut_lines l.items l.rest)
      ≡ drawn_from_place l.items l.jc l.row_shift l.fn.first blank (prepared_cut_lines l.items
      l.fn.cells);
}

abbrev pub decreases-lines : goal.decreases-lines
decreases-lines l = length l.rest
