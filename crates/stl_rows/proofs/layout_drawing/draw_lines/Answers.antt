-- `draw_lines` draws one line in each iteration, until a line has a fault or no line is left.
use Rattle.std.proofs.Common.{arith}
use Rattle.std.proofs.lemmas.Bool.Decides.{nat_tests}
use Rattle.stl_rows.proofs.DrawLinesLemmas.{following-codes, line-codes, line-end, line-fault}
use Rattle.stl_rows.proofs.DrawLinesLemmas.{line-next, place-grows}
use Rattle.stl_rows.proofs.layout_drawing.draw_lines.Goals as goal

pub returns-in-Some : goal.returns-in-Some
returns-in-Some c =
    grind (
      arith,
      nat_tests,
      line-fault c.args.items.now c.args.jc c.args.row_shift c.lines.place c.lines.page
          c.lines.rest.now
          c.first_line.result.0.now c.prepare_by.new.line.items c.first_line.result.1
          c.first_line.ensures.lines c.prepare_by.ensures,
    )

pub draw_line-requires-clause-codes : goal.draw_line-requires-clause-codes
draw_line-requires-clause-codes c =
    rw c.as_slice-in-lines.ensures.value
    (line-codes c.args.items.now c.args.jc c.args.row_shift c.lines.place c.lines.page
    c.lines.rest.now
    c.first_line.result.0.now c.prepare_by.new.line.items c.first_line.result.1
    c.first_line.ensures.lines c.prepare_by.ensures
    c.lines.invariant.codes)

pub lines-preserved : goal.lines-preserved
lines-preserved c =
    grind (
      arith,
      nat_tests,
      place-grows c.args.items.now c.lines.place,
      following-codes c.args.items.now c.args.jc c.args.row_shift c.lines.place c.lines.page
          c.lines.rest.now
          c.first_line.result.0.now c.prepare_by.new.line.items c.first_line.result.1
          c.first_line.ensures.lines c.prepare_by.ensures,
      line-next c.args.items.now c.args.jc c.args.row_shift c.lines.place c.lines.page
          c.lines.rest.now
          c.first_line.result.0.now c.prepare_by.new.line.items c.first_line.result.1
          c.first_line.ensures.lines c.prepare_by.ensures,
    )

pub returns-in-None : goal.returns-in-None
returns-in-None c =
    grind (
      arith,
      nat_tests,
      line-end,
      line-next c.args.items.now c.args.jc c.args.row_shift c.lines.place c.lines.page
          c.lines.rest.now
          c.first_line.result.0.now c.prepare_by.new.line.items c.first_line.result.1
          c.first_line.ensures.lines c.prepare_by.ensures,
    )
