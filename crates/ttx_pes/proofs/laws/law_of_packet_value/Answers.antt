use Rattle.ttx_pes.proofs.PesGrammarLemmas.{packet_value_is_valid}
use Rattle.ttx_pes.proofs.laws.law_of_packet_value.Goals as goal

pub returns : goal.returns
returns c = packet_value_is_valid
