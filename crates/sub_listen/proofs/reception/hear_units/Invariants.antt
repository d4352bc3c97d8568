-- Loop invariant of `hear_units`: if the receiver now receives the packets that remain of the PES
-- packet, its state is that after all packets of the PES packet.
use Rattle.std.proofs.Common.{◌≡◌, ◌+◌, drop}
use Rattle.sub_rules.specs.PacketRules.{packets_of_units}
use Rattle.ttx_page.specs.Screen.{Display, display}
use Rattle.sub_listen.specs.Reception.{ReceivesPackets, packets_used_by}
use Rattle.sub_listen.proofs.reception.hear_units.Given as goal

abbrev pub invariant-loop-k : goal.invariant-loop-k
invariant-loop-k g l = record {
  tuned : g.R.Receiver.tuned_to l.receiver ≡ g.R.Receiver.tuned_to l.fn.receiver;
  run :
      (end : Display)
      → ReceivesPackets l.listening g.R.Receiver.leaves
      (g.R.Receiver.tuned_to l.fn.receiver)
      (display (g.R.Receiver.state l.receiver) l.screen)
      (packets_used_by l.listening (l.fn.number + l.k) (drop l.k (packets_of_units l.units))) end
      → ReceivesPackets l.listening g.R.Receiver.leaves
      (g.R.Receiver.tuned_to l.fn.receiver)
      (display (g.R.Receiver.state l.fn.receiver) l.fn.screen)
      (packets_used_by l.listening l.fn.number (packets_of_units l.units)) end;
}
