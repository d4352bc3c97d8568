use Rattle.sub_checker.proofs.FrameEndLemmas.{undelayed_end_steps}
use Rattle.sub_checker.proofs.ReporterLemmas.{emitted_events_are_relayed}
use Rattle.sub_checker.proofs.checker.Checker.end_without_delay.Goals as goal

pub returns-clause-reported : goal.returns-clause-reported
returns-clause-reported g c =
    emitted_events_are_relayed (undelayed_end_steps _ c.args.self.now _ c.self.view_is
    c.requires.each
    (c.active_faults_now-active_faults.ensures)) c.report_change.ensures
