use Rattle.std.proofs.Common.{◌≡◌, ◌∙◌, ◌+◌, ◌-◌, ℕ, length, suc, map, ap, arith, subst, sym}
use Rattle.std.proofs.lemmas.List.{length-map}
use Rattle.sub_rules.specs.Events.{numbered_packet_events}
use Rattle.sub_rules.specs.FrameRules.{packets_before}
use Rattle.sub_rules.specs.PacketRules.{packets_of_units}
use Rattle.sub_rules.specs.Trusted.CheckStep.{Emits}
use Rattle.sub_checker.specs.Checker.{CheckerValue, HasHeard}
use Rattle.sub_checker.proofs.MorePacketsLemmas.{packet_steps_agree}
use Rattle.sub_checker.proofs.ReporterLemmas.{equal_steps_are_relayed}
use Rattle.sub_checker.proofs.BetweenPesPacketsLemmas.{added_packets_keep_open_frame}
use Rattle.sub_checker.proofs.checker.Checker.take_more.Goals as goal

pub returns-clause-reported : goal.returns-clause-reported
returns-clause-reported g c = λ criteria sent last keeps again.
    let opened = c.requires.opened in
    let some = keeps.some opened in
    let opens = keeps.opens opened in
    let all : length sent ≡ suc (length sent - 1) = omega (arith, some) in
    let ps = packets_of_units c.args.units.now in
    let heard =
    c.hear.ensures.reported (packets_before sent (suc (length sent - 1))) last
    opens.heard.known.knows again in
    let steps = packet_steps_agree criteria sent (length sent - 1) last ps c.args.self.now opens all
    in
    let from = ap (λ (v : CheckerValue). v.counts.packets) c.self.view_is in (
      equal_steps_are_relayed
          (steps ∙ ap (λ (k : ℕ). map Emits (numbered_packet_events c.args.self.now.listener.watched
          c.args.self.now.frame k (packets_before sent (suc (length sent - 1))) ps (length ps)))
          (sym from)) heard.0,
      added_packets_keep_open_frame criteria sent last ps c.args.self.now c.hear.new.self _ _ keeps
          opened
          (subst (λ (k : ℕ). HasHeard k (packets_before sent (suc (length sent - 1))) ps
          c.args.self.now c.hear.new.self) from heard.1)
          (ap (λ (v : CheckerValue). record v {
            counts = record v.counts { packets = v.counts.packets + c.len.result };
          }) c.self-2.view_is)
          (ap (λ (k : ℕ). c.hear.new.self.counts.packets + k)
          (c.len.ensures.value ∙ sym (length-map _ _))),
    )
