use Rattle.ttx_pes.proofs.RefusalLemmas.{refusal_is_first_failed_check}
use Rattle.ttx_pes.proofs.laws.law_of_refusal.Goals as goal

pub returns : goal.returns
returns c = refusal_is_first_failed_check
