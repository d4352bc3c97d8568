-- A frame without faults has no events; if `within` is not 0, its end still has steps.
use Rattle.std.proofs.Common.{arith, refl}
use Rattle.sub_checker.proofs.FrameEndLemmas.{undelayed_clean_end_has_no_steps}
use Rattle.sub_checker.proofs.FrameEndLemmas.{delayed_clean_end_steps}
use Rattle.sub_checker.proofs.ReporterLemmas.{going_back_is_relayed, no_steps_are_relayed}
use Rattle.sub_checker.proofs.ReporterLemmas.{silent_step_is_relayed, appended_steps_are_relayed}
use Rattle.sub_checker.proofs.checker.Checker.end_without_faults.Goals as goal

pub returns-then-self-gt0-clause-reported : goal.returns-then-self-gt0-clause-reported
returns-then-self-gt0-clause-reported g c =
    appended_steps_are_relayed
    (delayed_clean_end_steps _ c.args.self.now c.self.view_is c.if-self-gt0.true
    c.requires.fault_free)
    (going_back_is_relayed _ _ _ refl c.go_back.ensures.back)
    (silent_step_is_relayed refl c.at_end.ensures refl)

pub returns-else-self-gt0-clause-reported : goal.returns-else-self-gt0-clause-reported
returns-else-self-gt0-clause-reported g c =
    let each = c.if-self-gt0.false in
    no_steps_are_relayed
    (undelayed_clean_end_has_no_steps _ c.args.self.now c.self.view_is (omega (arith, each))
    c.requires.fault_free)
