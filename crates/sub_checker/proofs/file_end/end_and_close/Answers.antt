use Rattle.std.proofs.Common.{refl}
use Rattle.sub_io.proofs.ReportingLemmas.{ReportsSome-trans}
use Rattle.sub_checker.proofs.ReporterLemmas.{appended_steps_are_relayed}
use Rattle.sub_checker.proofs.file_end.end_and_close.Goals as goal

pub returns-clause-some : goal.returns-clause-some
returns-clause-some g c = λ criteria list last keeps.
    let end = c.end_pending_frame.ensures.reported criteria list last keeps in
    ReportsSome-trans _ _ _ (record { items = _; reported = end.0.reported }) c.close.ensures.some

pub returns-clause-reported : goal.returns-clause-reported
returns-clause-reported g c = λ criteria list last keeps is.
    let end = c.end_pending_frame.ensures.reported criteria list last keeps in
    appended_steps_are_relayed refl end.0 (c.close.ensures.reported criteria list last end.1 is)
