use Rattle.sub_packets.proofs.RepeatedPacketLemmas.{law_of_repeated_packets}
use Rattle.sub_packets.proofs.laws.law_of_repeated_packets.Goals as goal

pub returns : goal.returns
returns c = law_of_repeated_packets
