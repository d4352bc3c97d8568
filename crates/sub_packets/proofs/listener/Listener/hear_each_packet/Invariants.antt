-- The broken rules of the packets so far were reported, and the listener's state agrees with these
-- packets.
use Rattle.std.proofs.Common.{◌≡◌, ◌≤◌, ◌<◌, ℕ, List, [], ◌++◌, take, get_or, length}
use Rattle.std.proofs.Common.{◌-◌, true}
use Rattle.ttx_page.specs.PacketKind.{begins_text, kind}
use Rattle.sub_io.specs.Reporting.{Reports}
use Rattle.sub_rules.specs.Events.{numbered_packet_events}
use Rattle.sub_packets.specs.Listener.{BreakNoRule, Knows, frame_has_text_beginning}
use Rattle.sub_rules.specs.PacketRules.{header_count, packets_of_units}
use Rattle.sub_packets.proofs.listener.Listener.hear_each_packet.Given as goal

abbrev pub decreases-loop-k : goal.decreases-loop-k
decreases-loop-k g l = length l.units - l.k

abbrev pub invariant-loop-k : goal.invariant-loop-k
invariant-loop-k g l = record {
  same : l.self.watched ≡ l.initial.self.watched;
  due : l.self.comparison.due ≡ l.initial.self.comparison.due;
  within : l.k ≤ length l.units;
  few : l.headers ≤ l.k;
  header :
      l.headers ≡ header_count l.initial.self.watched.page (take l.k (packets_of_units l.units));
  first :
      l.first ≡ true
      → (0 < l.k)
      × (begins_text l.initial.self.watched.keeps
      (kind l.initial.self.watched.page (get_or (packets_of_units l.units) 0 []))
      ≡ true);
  begun :
      l.begun
      ≡ frame_has_text_beginning l.initial.self.watched l.from l.initial.self.begun
      (take l.k (packets_of_units l.units));
  known :
      (heard : List (List ℕ))
      → Knows heard l.initial.self
      → Knows (heard ++ take l.k (packets_of_units l.units)) l.self
      × Reports g.A.Taker.is_reported l.initial.taker l.taker
      (numbered_packet_events l.initial.self.watched l.frame l.from heard (packets_of_units l.units)
      l.k)
      × (l.is_clean ≡ true
      → BreakNoRule l.initial.self.watched heard (packets_of_units l.units) l.k);
}
