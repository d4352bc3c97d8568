-- Loop invariant of `read_cells`: the cells so far, followed by the cells of the rest of the text,
-- are all cells of the text.
use Rattle.std.proofs.Common.{◌≡◌, ◌-◌, ◌≤◌, ◌++◌, length, drop}
use Rattle.stl_rows.specs.LineByLayout.{cells_and_new_lines}
use Rattle.stl_rows.specs.TextCode.{faults_of_codes, text_codes}
use Rattle.stl_rows.proofs.layout_drawing.read_cells.Given as goal

abbrev pub invariant-loop-at : goal.invariant-loop-at
invariant-loop-at l = record {
  within : l.at ≤ length l.text;
  few : length l.cells.items ≤ l.at;
  cells :
      l.cells.items ++ cells_and_new_lines (text_codes l.national l.at (drop l.at l.text))
      ≡ cells_and_new_lines (text_codes l.national 0 l.text);
  refused :
      faults_of_codes (text_codes l.national l.at (drop l.at l.text))
      ≡ faults_of_codes (text_codes l.national 0 l.text);
}

abbrev pub decreases-loop-at : goal.decreases-loop-at
decreases-loop-at l = length l.text - l.at
