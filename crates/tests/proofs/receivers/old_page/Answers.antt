use Rattle.std.proofs.Common.{refl, replicate}
use Rattle.ttx_page.proofs.PageLemmas.{code_test_is_correct}
use Rattle.tests.proofs.receivers.old_page.Goals as goal

pub set_row-requires-clause-codes : goal.set_row-requires-clause-codes
set_row-requires-clause-codes c = code_test_is_correct (replicate 40 0x3F) refl
