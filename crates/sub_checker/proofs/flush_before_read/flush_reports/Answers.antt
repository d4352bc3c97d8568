-- Flushing neither repeats nor adds an event. If it fails, the check is stopped.
use Rattle.std.proofs.Common.{◌∙◌, sym}
use Rattle.sub_io.proofs.FlushingLemmas.{keeps-reported, error_is_not_ok}
use Rattle.sub_checker.proofs.FusedAudienceLemmas.{flush_stops_device_if_it_fails}
use Rattle.sub_checker.proofs.flush_before_read.flush_reports.Goals as goal

pub invariant_of-fused : goal.invariant_of-fused
invariant_of-fused g c = record {
  agrees =
      flush_stops_device_if_it_fails g.met.A.LiveReportSink.flush_keeps_reports
      _ _ _ c.flush_first-flushed.ensures.call
      (c.args.fused.now.agrees ∙ c.requires)
      ∙ error_is_not_ok c.flush_first-flushed.result _ (sym c.is_err-fused.ensures.value);
}

pub returns-clause-reported : goal.returns-clause-reported
returns-clause-reported g c =
    keeps-reported _ _ _ _ _ g.met.A.LiveReportSink.flush_keeps_reports _ _ _
    c.flush_first-flushed.ensures.call
