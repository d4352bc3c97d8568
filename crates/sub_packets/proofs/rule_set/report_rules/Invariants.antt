-- The events reported so far, followed by those of the remaining rules, are the events of all rules
-- in the set.
use Rattle.std.proofs.Common.{◌≡◌, Bool, drop, map}
use Rattle.std.specs.List.{filter}
use Rattle.sub_io.specs.Reporting.{Reports}
use Rattle.sub_rules.specs.Events.{packet_fault}
use Rattle.sub_packets.specs.Listener.{rule_set}
use Rattle.sub_rules.specs.PacketTests.{packet_rules}
use Rattle.sub_rules.specs.declared.event.Event.{Event}
use Rattle.sub_rules.specs.declared.event.Event.TheVariants.{Reported}
use Rattle.sub_rules.specs.declared.packet_rule.PacketRule.{PacketRule}
use Rattle.sub_packets.proofs.rule_set.report_rules.Given as goal

abbrev pub invariant-loop-rule : goal.invariant-loop-rule
invariant-loop-rule g l =
    let report : PacketRule → Event = λ r. Reported (packet_fault r l.frame l.packet) in
    record {
      reported :
          (test : PacketRule → Bool)
          → l.fn.rules.0 ≡ rule_set test packet_rules
          → (l.left ≡ rule_set test (drop l.rule-index packet_rules))
          × ((new : g.row.A.Denot)
          → Reports g.A.Taker.is_reported l.taker new
          (map report (filter test (drop l.rule-index packet_rules)))
          → Reports g.A.Taker.is_reported l.fn.taker new (map report (filter test packet_rules)));
    }
