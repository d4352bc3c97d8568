use Rattle.sub_packets.proofs.PacketRuleLemmas.{wrong_address_test_is_exact}
use Rattle.sub_packets.proofs.packet_rules.has_wrong_address.Goals as goal

pub returns : goal.returns
returns c = wrong_address_test_is_exact c.args.packet.now _ c.is_clean_address.ensures
