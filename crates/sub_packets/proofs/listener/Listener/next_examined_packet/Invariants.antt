-- Each packet examined so far can be skipped.
use Rattle.std.proofs.Common.{ℕ, ◌≤◌, ◌<◌, [], get_or}
use Rattle.sub_packets.specs.Listener.{CanAlwaysBeSkipped}
use Rattle.sub_rules.specs.PacketRules.{packets_of_units}
use Rattle.sub_packets.proofs.listener.Listener.next_examined_packet.Given as goal

abbrev pub invariant-loop-k : goal.invariant-loop-k
invariant-loop-k l =
    (j : ℕ) → l.from ≤ j → j < l.k
    → CanAlwaysBeSkipped (get_or (packets_of_units l.units) j []) l.self
