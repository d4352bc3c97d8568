-- If a row of the page is replaced, the number of wrong cells of the page changes by as much as the
-- number of wrong cells of that row.
use Rattle.std.proofs.Common.{arith}
use Rattle.ttx_page.proofs.DifferingLemmas.{page_difference_bounds_row, differing_cells_are_bounded}
use Rattle.ttx_page.proofs.DifferingLemmas.{rows-set}
use Rattle.sub_packets.proofs.comparison.Comparison.set_row.Goals as goal

pub updated_wrong_count-self-inside-requires-clause-wrong :
    goal.updated_wrong_count-self-inside-requires-clause-wrong
updated_wrong_count-self-inside-requires-clause-wrong c = grind (
  arith,
  page_difference_bounds_row,
  differing_cells_are_bounded,
)

pub invariant_of-self : goal.invariant_of-self
invariant_of-self c = grind (arith, page_difference_bounds_row, rows-set)
