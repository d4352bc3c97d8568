-- `draw_subtitle_on`: with the default layout, drawing a subtitle without faults gives the page
-- that shows its lines. With another layout, the layout's items decide how the subtitle is drawn.
use Rattle.std.proofs.Common.{arith}
use Rattle.std.proofs.lemmas.Bool.Decides.{nat_tests}
use Rattle.stl_rows.proofs.DefaultLayoutLemmas.{drawn-none, drawn-some}
use Rattle.stl_rows.proofs.DrawnPageLemmas.{drawn-page, drawn_lines_have_no_faults}
use Rattle.stl_rows.proofs.drawing.draw_subtitle_on.Goals as goal

pub draw_text-requires-clause-whole : goal.draw_text-requires-clause-whole
draw_text-requires-clause-whole c =
    grind (
      arith,
      nat_tests,
      drawn_lines_have_no_faults,
      drawn-none c.args.drawing.now
          c.args.subtitle.now,
    )

pub returns-in-None : goal.returns-in-None
returns-in-None c =
    grind (arith, nat_tests, drawn-page, drawn-none c.args.drawing.now c.args.subtitle.now)

pub unreachable-requires : goal.unreachable-requires
unreachable-requires c =
    grind (arith, nat_tests, drawn-some c.args.drawing.now c.args.subtitle.now)

pub returns-in-Ok : goal.returns-in-Ok
returns-in-Ok c = grind (arith, nat_tests, drawn-some c.args.drawing.now c.args.subtitle.now)
