-- The number of ones of the mask is the number of differing cells of two blocks of 16.
use Rattle.std.proofs.Common.{arith}
use Rattle.std.proofs.lemmas.Bool.Decides.{nat_tests}
use Rattle.ttx_page.proofs.DifferingLemmas.{differing_columns_are_bounded}
use Rattle.ttx_page.proofs.LaneLemmas.{mask_ones_count_columns}
use Rattle.ttx_page.proofs.differing.lanes.count_differing_16.Goals as goal

pub returns : goal.returns
returns c = grind (
  arith,
  nat_tests,
  mask_ones_count_columns,
  differing_columns_are_bounded 16
      c.args.a.now c.args.b.now,
)
