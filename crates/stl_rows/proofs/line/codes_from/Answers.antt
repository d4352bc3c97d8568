-- `codes_from`: copying a line onto a row of spaces gives the row that shows the line.
use Rattle.std.proofs.Common.{arith}
use Rattle.std.proofs.lemmas.Bool.Decides.{nat_tests}
use Rattle.stl_rows.proofs.LineLemmas.{row_starting_at-codes, row_starting_at-put}
use Rattle.stl_rows.proofs.line.codes_from.Goals as goal

pub returns : goal.returns
returns c =
    grind (
      arith,
      nat_tests,
      row_starting_at-put,
      row_starting_at-codes c.args.start c.args.line.now c.requires.codes,
    )
