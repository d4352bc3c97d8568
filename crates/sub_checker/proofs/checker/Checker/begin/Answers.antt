use Rattle.std.proofs.Common.{sym, subst}
use Rattle.sub_checker.specs.CheckedFrames.{AfterEnd, BeforePackets}
use Rattle.sub_checker.proofs.CheckedFramesLemmas.{arrives_first, first_reaching}
use Rattle.sub_checker.proofs.ReporterLemmas.{emitted_events_are_relayed}
use Rattle.sub_checker.proofs.checker.Checker.begin.Goals as goal

pub returns-clause-reported : goal.returns-clause-reported
returns-clause-reported g c = λ criteria frames last follows is.
    let here = subst (AfterEnd criteria frames 0 last) (sym c.self.view_is) follows in (
      emitted_events_are_relayed (first_reaching criteria frames c.args.frame last _ _ _ here is
          c.first_tci.ensures.value c.is_early-is_reported.ensures) c.report_if.ensures,
      subst (BeforePackets criteria frames 0 last) (sym c.start.ensures)
          (arrives_first criteria frames c.args.frame last _ follows is),
    )
