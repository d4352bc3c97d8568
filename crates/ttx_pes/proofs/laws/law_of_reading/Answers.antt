use Rattle.ttx_pes.proofs.ReadingLemmas.{valid_packet_is_read}
use Rattle.ttx_pes.proofs.laws.law_of_reading.Goals as goal

pub returns : goal.returns
returns c = valid_packet_is_read
