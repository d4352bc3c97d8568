use Rattle.std.proofs.Common.{[], ◌∷◌, ◌++◌, ◌∙◌, subst, sym}
use Rattle.sub_io.proofs.ReportingLemmas.{Reports-trans}
use Rattle.sub_io.specs.Reporting.{Reports, first_as_list}
use Rattle.sub_rules.specs.Trusted.CheckStep.{Emits}
use Rattle.sub_checker.specs.FusedAudience.{ReportsUnlessStopped}
use Rattle.sub_checker.specs.StoredSkippedRun.{skipped_run_of}
use Rattle.sub_checker.proofs.RelayLemmas.{announcing_appends_one_event}
use Rattle.sub_checker.proofs.RelayLemmas.{skipped_run_is_kept_after_event}
use Rattle.sub_checker.proofs.RelayLemmas.{reporting_one_step_relays_it}
use Rattle.sub_checker.proofs.RelayLemmas.{emitted_event_reports_trusted_frames}
use Rattle.sub_checker.proofs.reporter.Reporter.relay.Goals as goal

pub returns : goal.returns
returns g c =
    let run = skipped_run_of c.args.self.now.relay.run in
    reporting_one_step_relays_it g.A.ReportSink.is_reported c.args.self.now _ (Emits c.args.event)
    (first_as_list c.note_event-first.result ++ c.with_pes_number-event.result ∷ [])
    (emitted_event_reports_trusted_frames c.args.self.now.relay.tracker c.note_event-first.new.self
    c.args.event
    c.with_pes_number-event.result c.note_event-first.result c.note_event-first.ensures.before
    c.note_event-first.ensures.kept
    c.with_pes_number-event.ensures)
    c.note_event-first.ensures.kept
    (subst (Reports (ReportsUnlessStopped g.A.ReportSink.is_reported) c.args.self.now.fused _)
    (sym (announcing_appends_one_event run c.announce_if_present.new.run
    (first_as_list c.note_event-first.result)
    c.with_pes_number-event.result c.announce_if_present.ensures.kept))
    (Reports-trans _ _ _ _ _ c.announce_if_present.ensures.reported c.announce.ensures.reported))
    (c.announce.ensures.kept
    ∙ skipped_run_is_kept_after_event run c.announce_if_present.new.run
    (first_as_list c.note_event-first.result)
    c.with_pes_number-event.result c.announce_if_present.ensures.kept)
