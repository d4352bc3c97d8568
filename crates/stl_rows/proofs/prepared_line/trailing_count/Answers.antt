-- `trailing_count`: the count ends at a cell outside the range of codes, or at the start of the
-- line.
use Rattle.std.proofs.Common.{arith}
use Rattle.std.proofs.lemmas.Bool.Decides.{nat_tests}
use Rattle.stl_rows.proofs.PreparedLineLemmas.{all_within_are_trailing, trailing_ends_at_outside}
use Rattle.stl_rows.proofs.prepared_line.trailing_count.Goals as goal

pub returns-then-not-is_within-clause-value : goal.returns-then-not-is_within-clause-value
returns-then-not-is_within-clause-value c =
    grind (
      arith,
      nat_tests,
      trailing_ends_at_outside c.args.first c.args.last c.args.cells.now c.loop-left.left,
    )

pub returns-clause-value : goal.returns-clause-value
returns-clause-value c = grind (arith, nat_tests, all_within_are_trailing)
