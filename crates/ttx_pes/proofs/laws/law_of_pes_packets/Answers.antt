use Rattle.ttx_pes.proofs.PesPacketListLemmas.{pes_packets_split_bytes}
use Rattle.ttx_pes.proofs.laws.law_of_pes_packets.Goals as goal

pub returns : goal.returns
returns c = pes_packets_split_bytes
