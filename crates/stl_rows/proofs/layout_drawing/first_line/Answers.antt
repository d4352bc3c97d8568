-- `first_line` tests one cell in each iteration.
use Rattle.std.proofs.Common.{arith}
use Rattle.std.proofs.lemmas.Bool.Decides.{nat_tests}
use Rattle.stl_rows.proofs.FirstLineLemmas.{first_line-all, first_line-end, first_line-more}
use Rattle.stl_rows.proofs.layout_drawing.first_line.Goals as goal

pub returns-then-cells-at-clause-lines : goal.returns-then-cells-at-clause-lines
returns-then-cells-at-clause-lines c =
    grind (
      arith,
      nat_tests,
      first_line-end c.args.cells.now c.loop-at.at c.split_at-then-cells-at.result.1.now,
    )

pub loop-at-preserved : goal.loop-at-preserved
loop-at-preserved c =
    grind (arith, nat_tests, first_line-more c.args.cells.now c.loop-at.at)

pub returns-clause-lines : goal.returns-clause-lines
returns-clause-lines c =
    grind (arith, nat_tests, first_line-all c.args.cells.now c.loop-at.at)
