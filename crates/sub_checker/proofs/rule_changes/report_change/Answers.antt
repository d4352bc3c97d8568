use Rattle.std.proofs.Common.{◌≡◌, ℕ, ◌+◌, ◌<◌, ◌++◌, List, arith, ap, drop, drop-cons}
use Rattle.std.proofs.Common.{flat_map, get_or, length, suc, ◌∙◌}
use Rattle.sub_io.proofs.ReportingLemmas.{Reports-none, Reports-trans}
use Rattle.sub_rules.specs.Events.{place_of_broken_rule, end_events, end_rules, rule_events}
use Rattle.sub_rules.specs.declared.end_rule.EndRule.{EndRule}
use Rattle.sub_rules.specs.declared.event.Event.{Event}
use Rattle.sub_checker.proofs.rule_changes.report_change.Goals as goal

reported_first : (report : EndRule → List Event) (rules : List EndRule) (i : ℕ) (d : EndRule)
    → i < length rules
    → flat_map report (drop i rules) ≡ report (get_or rules i d) ++ flat_map report
    (drop (i + 1) rules)
reported_first report rules i d l =
    let next : suc i ≡ i + 1 = omega arith in
    ap (flat_map report) (drop-cons rules i d l)
    ∙ ap (λ k. report (get_or rules i d) ++ flat_map report (drop k rules)) next

pub loop-rule-init : goal.loop-rule-init
unfolding end_events
loop-rule-init g c = record { reported = λ new reported. reported }

pub loop-rule-preserved : goal.loop-rule-preserved
unfolding end_rules
loop-rule-preserved g c =
    let report : EndRule → List Event =
    λ rule. rule_events rule (place_of_broken_rule rule c.args.old.now) c.args.before
    (place_of_broken_rule rule c.args.new.now) c.args.frame in
    let next = reported_first report end_rules c.loop-rule.rule-index _ (omega arith) in
    record {
      reported = λ new reported.
          c.loop-rule.invariant.reported new
          (rw next (Reports-trans _ _ _ _ _ c.report_rule_change.ensures reported));
    }

pub returns : goal.returns
unfolding end_rules end_events
returns g c =
    let all : c.loop-rule.rule-index ≡ 5 = omega arith in
    c.loop-rule.invariant.reported _ (rw all (Reports-none c.loop-rule.taker))
