use Rattle.std.proofs.Common.{arith}
use Rattle.sub_packets.proofs.PacketRuleLemmas.{rules_are}
use Rattle.sub_packets.proofs.listener.Listener.broken_rules.Goals as goal

pub returns : goal.returns
returns c heard known =
    let is = rules_are c.args.self.now.watched heard c.args.packet.now c.args.self.now.serial
    known.serial_eq in
    let later = c.broken_rules_from_control.ensures.rules heard known in
    rw is (grind arith)
