use Rattle.std.proofs.Common.{sym, ◌∙◌}
use Rattle.sub_packets.proofs.PacketRuleLemmas.{unknown_subcode_passes_test}
use Rattle.sub_packets.proofs.PacketRuleLemmas.{known_subcode_test_is_exact}
use Rattle.sub_packets.proofs.packet_rules.is_same_subcode.Goals as goal

pub returns-in-Some : goal.returns-in-Some
returns-in-Some c o is = known_subcode_test_is_exact o c.args.header.now c.in-Some.subcode
    (sym c.in-Some.is ∙ is)

pub returns-in-None : goal.returns-in-None
returns-in-None c o is = unknown_subcode_passes_test o c.args.header.now (sym c.in-None.is ∙ is)
