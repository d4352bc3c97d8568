-- `draw_with_layout` returns the fault of the first rejected byte. If no byte is rejected, the
-- lines of the text decide the result.
use Rattle.std.proofs.Common.{arith}
use Rattle.std.proofs.lemmas.Bool.Decides.{nat_tests}
use Rattle.stl_rows.proofs.CutLemmas.{cut_lines_are_seven_bit, drawn_by-cut, drawn_by-refused}
use Rattle.stl_rows.proofs.layout_drawing.draw_with_layout.Goals as goal

pub returns-in_err-read_cells : goal.returns-in_err-read_cells
returns-in_err-read_cells c = grind (arith, nat_tests, drawn_by-refused)

pub draw_lines-requires-clause-codes : goal.draw_lines-requires-clause-codes
draw_lines-requires-clause-codes c =
    grind (
      arith,
      nat_tests,
      cut_lines_are_seven_bit c.args.national c.args.items.now
          c.args.subtitle.now,
    )

pub returns : goal.returns
returns c =
    grind (arith, nat_tests, drawn_by-cut c.args.national c.args.items.now c.args.subtitle.now)
