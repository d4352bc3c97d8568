use Rattle.std.proofs.Common.{◌≡◌, ap, sym, ◌∙◌, arith, eqb-true}
use Rattle.sub_io.proofs.ReportingLemmas.{Reports-none, Reports-trans}
use Rattle.sub_packets.proofs.RuleSetLemmas.{empty_rule_set_filters_nothing}
use Rattle.sub_packets.proofs.RuleSetLemmas.{next_bit_gives_next_report}
use Rattle.sub_rules.specs.Events.{packet_fault}
use Rattle.sub_rules.specs.PacketTests.{packet_rules}
use Rattle.sub_rules.specs.declared.event.Event.{Event}
use Rattle.sub_rules.specs.declared.event.Event.TheVariants.{Reported}
use Rattle.sub_rules.specs.declared.packet_rule.PacketRule.{PacketRule}
use Rattle.sub_packets.proofs.rule_set.report_rules.Goals as goal

pub returns-then-has_none : goal.returns-then-has_none
returns-then-has_none g c test e =
    let empty = eqb-true c.args.rules.0 0 (sym c.has_none.ensures ∙ c.if-has_none.true) in
    rw (empty_rule_set_filters_nothing test packet_rules (sym e ∙ empty))
    (Reports-none c.args.taker.now)

pub loop-rule-init : goal.loop-rule-init
loop-rule-init g c = record { reported = λ test e. (e, λ new reported. reported) }

pub loop-rule-preserved : goal.loop-rule-preserved
unfolding packet_rules
loop-rule-preserved g c = record {
  reported = λ test e.
      let report : PacketRule → Event = λ r. Reported (packet_fault r c.args.frame c.args.packet) in
      let here = c.loop-rule.invariant.reported test e in
      let next = next_bit_gives_next_report report test packet_rules c.loop-rule.rule-index
      _ c.loop-rule.left _
      (omega arith) (ap (λ f. Reported f) c.fault_of.ensures) here.0 in (
        next.1,
        λ new reported. here.1 new
            (rw next.0 (Reports-trans _ _ _ _ _ c.report_if.ensures reported)),
      );
}

pub returns : goal.returns
unfolding packet_rules
returns g c test e =
    let all : c.loop-rule.rule-index ≡ 7 = omega arith in
    (c.loop-rule.invariant.reported test e).1 _ (rw all (Reports-none c.loop-rule.taker))
