use Rattle.std.proofs.Common.{refl, replicate, slice_set}
use Rattle.ttx_page.proofs.PageLemmas.{code_test_is_correct}
use Rattle.tests.proofs.pages.counts_cells.Goals as goal

pub set_row-requires-clause-codes : goal.set_row-requires-clause-codes
set_row-requires-clause-codes c after =
    code_test_is_correct (slice_set (slice_set (replicate 40 0x20) 0 0x0D) 39 0x0A) refl

pub set_row-requires-2-clause-codes : goal.set_row-requires-2-clause-codes
set_row-requires-2-clause-codes c after =
    code_test_is_correct (slice_set (slice_set (replicate 40 0x20) 0 0x0D) 39 0x0A) refl
