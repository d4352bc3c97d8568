use Rattle.std.proofs.Common.{refl, replicate, slice_set}
use Rattle.ttx_page.proofs.PageLemmas.{code_test_is_correct}
use Rattle.tests.proofs.pages.sets_and_compares_rows.Goals as goal

pub set_row-requires-clause-codes : goal.set_row-requires-clause-codes
set_row-requires-clause-codes c after =
    code_test_is_correct (slice_set (replicate 40 0x20) 16 0x0D) refl

pub set_row-requires-2-clause-codes : goal.set_row-requires-2-clause-codes
set_row-requires-2-clause-codes c after = code_test_is_correct (replicate 40 0x7F) refl
