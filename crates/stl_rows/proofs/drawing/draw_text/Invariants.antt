-- Loop invariant of `draw_text`: the page shows the complete lines so far; the cells of the current
-- line and the rest of the text are still to be drawn.
use Rattle.std.proofs.Common.{ℕ, ◌+◌, ◌-◌, ◌<◌, ◌≤◌, [], length, drop, slice_index}
use Rattle.stl_rows.specs.LineByLine.{prepared_lines}
use Rattle.stl_rows.specs.TextCode.{text_codes}
use Rattle.stl_rows.proofs.DrawnPageLemmas.{HasDrawnLines}
use Rattle.stl_rows.proofs.drawing.draw_text.Given as goal

abbrev pub invariant-loop-at : goal.invariant-loop-at
invariant-loop-at l = record {
  within : l.at ≤ length l.text;
  rows : l.row ≤ l.vp + l.at;
  codes : (k : ℕ) → slice_index l.cells.items k < 128;
  drawn :
      HasDrawnLines l.jc l.vp l.row l.page (prepared_lines [] (text_codes l.national 0 l.text))
      (prepared_lines l.cells.items (text_codes l.national l.at (drop l.at l.text)));
}

abbrev pub decreases-loop-at : goal.decreases-loop-at
decreases-loop-at l = length l.text - l.at
