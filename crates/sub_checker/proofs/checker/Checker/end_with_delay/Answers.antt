use Rattle.std.proofs.Common.{ap, refl}
use Rattle.sub_checker.specs.Checker.{back_steps}
use Rattle.sub_checker.proofs.FrameEndLemmas.{delayed_end_steps}
use Rattle.sub_checker.proofs.ReporterLemmas.{going_back_is_relayed, silent_step_is_relayed}
use Rattle.sub_checker.proofs.ReporterLemmas.{emitted_events_are_relayed}
use Rattle.sub_checker.proofs.ReporterLemmas.{appended_steps_are_relayed}
use Rattle.sub_checker.proofs.checker.Checker.end_with_delay.Goals as goal

pub returns-clause-reported : goal.returns-clause-reported
returns-clause-reported g c =
    let end = c.state_at_end-end.ensures in
    appended_steps_are_relayed
    (delayed_end_steps _ c.args.self.now _ _ _ c.self.view_is c.requires.within
    (end.active_faults) (end.first_unfinished) (end.late))
    (appended_steps_are_relayed refl (going_back_is_relayed _ _ _ (ap back_steps c.self.view_is)
    c.go_back.ensures.back)
    (silent_step_is_relayed refl c.at_end.ensures refl))
    (emitted_events_are_relayed refl c.report_change.ensures)
