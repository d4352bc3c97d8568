use Rattle.ttx_packet.proofs.EncodedPacketLemmas.{law_of_row_packet}
use Rattle.ttx_packet.proofs.laws.law_of_row_packet.Goals as goal

pub returns : goal.returns
returns c = law_of_row_packet
