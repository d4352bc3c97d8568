-- The events reported so far, followed by those of the remaining rules, are the events of all rules
-- that are checked at the end of a frame.
use Rattle.std.proofs.Common.{List, drop, flat_map}
use Rattle.sub_io.specs.Reporting.{Reports}
use Rattle.sub_rules.specs.Events.{place_of_broken_rule, end_rules, rule_events}
use Rattle.sub_rules.specs.declared.end_rule.EndRule.{EndRule}
use Rattle.sub_rules.specs.declared.event.Event.{Event}
use Rattle.sub_checker.proofs.rule_changes.report_change.Given as goal

abbrev pub invariant-loop-rule : goal.invariant-loop-rule
invariant-loop-rule g l =
    let report : EndRule → List Event =
    λ rule. rule_events rule (place_of_broken_rule rule l.fn.old) l.fn.before
    (place_of_broken_rule rule l.fn.new)
    l.fn.frame in
    record {
      reported :
          (new : g.row.A.Denot)
          → Reports g.A.Taker.is_reported l.taker new
          (flat_map report (drop l.rule-index end_rules))
          → Reports g.A.Taker.is_reported l.fn.taker new (flat_map report end_rules);
    }
