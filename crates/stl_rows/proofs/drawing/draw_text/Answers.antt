-- In `draw_text`, the page shows the complete lines so far after each cell and each new line, and
-- all lines at the end of the text.
use Rattle.std.proofs.Common.{arith, length-append, ◌∷◌, ◌++◌, []}
use Rattle.std.proofs.lemmas.Bool.Decides.{nat_tests}
use Rattle.stl_rows.proofs.DrawnPageLemmas.{is_drawn-end, is_drawn-fits, is_drawn-next}
use Rattle.stl_rows.proofs.DrawnPageLemmas.{is_drawn-faultless_lines_are_on_page, is_drawn-start}
use Rattle.stl_rows.proofs.FaultlessLemmas.{line_fits_in_40_cells}
use Rattle.stl_rows.proofs.LineByLineLemmas.{appended_code_keeps_codes, prepared_lines-cell}
use Rattle.stl_rows.proofs.LineByLineLemmas.{prepared_lines-end}
use Rattle.stl_rows.proofs.LineByLineLemmas.{prepared_lines-line_end}
use Rattle.stl_rows.proofs.drawing.draw_text.Goals as goal

pub loop-at-init : goal.loop-at-init
loop-at-init c = grind (arith, nat_tests, is_drawn-start)

pub push_cell-requires : goal.push_cell-requires
push_cell-requires c =
    let cells = c.loop-at.cells.items in
    let lines = prepared_lines-cell cells c.text_code_at-code.ensures.step c.in-Cell.is in
    let on = is_drawn-faultless_lines_are_on_page (rw lines at c.loop-at.invariant.drawn)
    c.requires.whole in
    let code = c.in-Cell.cell ∷ [] in
    omega (arith, line_fits_in_40_cells _ (cells ++ code) _ on, length-append cells code)

pub loop-at-preserved-in-Cell : goal.loop-at-preserved-in-Cell
loop-at-preserved-in-Cell c =
    let i = c.loop-at.invariant in
    let code = c.text_code_at-code.ensures in
    let lines = prepared_lines-cell c.loop-at.cells.items code.step c.in-Cell.is in
    grind (arith, nat_tests, appended_code_keeps_codes)

pub draw_line-requires-clause-fits : goal.draw_line-requires-clause-fits
draw_line-requires-clause-fits c =
    let cells = c.loop-at.cells.items in
    let lines = prepared_lines-line_end cells c.text_code_at-code.ensures.step c.in-NewLine.is in
    rw c.as_slice.ensures.value
    (is_drawn-fits cells c.requires.first (rw lines at c.loop-at.invariant.drawn)
    c.requires.whole)

pub loop-at-preserved-in-NewLine : goal.loop-at-preserved-in-NewLine
loop-at-preserved-in-NewLine c =
    let i = c.loop-at.invariant in
    let code = c.text_code_at-code.ensures in
    let cells = c.loop-at.cells.items in
    let lines = prepared_lines-line_end cells code.step c.in-NewLine.is in
    grind (arith, nat_tests, is_drawn-next)

pub draw_line-requires-2-clause-fits : goal.draw_line-requires-2-clause-fits
draw_line-requires-2-clause-fits c =
    let cells = c.loop-at.cells.items in
    let lines = prepared_lines-end c.args.national cells c.loop-at.at c.args.text.now
    (omega arith) in
    rw c.as_slice-2.ensures.value
    (is_drawn-fits cells c.requires.first (rw lines at c.loop-at.invariant.drawn)
    c.requires.whole)

pub returns : goal.returns
returns c =
    let cells = c.loop-at.cells.items in
    let lines = prepared_lines-end c.args.national cells c.loop-at.at c.args.text.now
    (omega arith) in
    rw (c.draw_line-2.ensures, c.as_slice-2.ensures.value)
    (is_drawn-end
    (is_drawn-next cells c.requires.first (rw lines at c.loop-at.invariant.drawn)
    c.requires.whole))
