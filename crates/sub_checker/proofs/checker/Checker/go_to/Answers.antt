use Rattle.std.proofs.Common.{◌∙◌, ap, map, refl, sym, subst}
use Rattle.sub_rules.specs.Trusted.CheckStep.{Emits}
use Rattle.sub_checker.specs.CheckedFrames.{AfterEnd, BeforePackets}
use Rattle.sub_checker.proofs.CheckedFramesLemmas.{arrives_next, order_are}
use Rattle.sub_checker.proofs.ReporterLemmas.{emitted_events_are_relayed}
use Rattle.sub_checker.proofs.ReporterLemmas.{appended_steps_are_relayed}
use Rattle.sub_checker.proofs.checker.Checker.go_to.Goals as goal

pub returns-clause-reported : goal.returns-clause-reported
returns-clause-reported g c = λ criteria frames n last follows some is.
    let here = subst (AfterEnd criteria frames n last) (sym c.self.view_is) follows in
    let order =
    order_are criteria frames n c.args.frame _ _ _ some is (here.last_is some) here.number refl in
    let gap = c.end_gap_frames.ensures.reported criteria frames n last follows some is in (
      appended_steps_are_relayed refl (emitted_events_are_relayed (ap (map Emits) order)
          c.report_if.ensures) gap.0,
      subst (BeforePackets criteria frames n last) (sym c.arrive.ensures)
          (arrives_next criteria frames n c.args.frame last _ gap.1 is
          (c.end_gap_frames.ensures.latest_frame ∙ follows.latest_is some)),
    )
