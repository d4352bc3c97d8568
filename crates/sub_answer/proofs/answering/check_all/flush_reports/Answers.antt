-- Flushing the device does not change which events were reported.
use Rattle.std.proofs.Common.{◌∙◌, inl, inr, refl, rules, true}
use Rattle.sub_io.proofs.FlushingLemmas.{keeps-reported}
use Rattle.sub_answer.proofs.FailedReadLemmas.{not_ok_is_err}
use Rattle.sub_answer.proofs.answering.check_all.flush_reports.Goals as goal

pub returns-then-not-has_pending-clause-reported : goal.returns-then-not-has_pending-clause-reported
returns-then-not-has_pending-clause-reported g c =
    keeps-reported _ _ _ _ _ g.met.A.LiveReportSink.flush_keeps_reports _ _ true (inl (refl, refl))

pub returns-clause-reported : goal.returns-clause-reported
returns-clause-reported g c =
    keeps-reported _ _ _ _ _ g.met.A.LiveReportSink.flush_keeps_reports _ _ _
    (inr (search rules, c.flush_pending.ensures.call))

pub returns-clause-stopped : goal.returns-clause-stopped
returns-clause-stopped g c =
    g.met.A.LiveReportSink.flush_keeps_reports.stopped _ _ _ c.flush_pending.ensures.call ∙
    not_ok_is_err _
