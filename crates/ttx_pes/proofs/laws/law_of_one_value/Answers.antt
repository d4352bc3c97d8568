use Rattle.ttx_pes.proofs.ReadingLemmas.{packet_has_one_value}
use Rattle.ttx_pes.proofs.laws.law_of_one_value.Goals as goal

pub returns : goal.returns
returns c = packet_has_one_value
