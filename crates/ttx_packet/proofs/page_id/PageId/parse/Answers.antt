use Rattle.std.proofs.Common.{arith, ok_or}
use Rattle.std.proofs.lemmas.Bool.Decides.{nat_tests}
use Rattle.ttx_packet.proofs.PageIdLemmas.{page_of_text-other_length}
use Rattle.ttx_packet.proofs.page_id.PageId.parse.Goals as goal

pub returns-then-text-ne3 : goal.returns-then-text-ne3
returns-then-text-ne3 c = grind (arith, nat_tests, ok_or, page_of_text-other_length)
