use Rattle.std.proofs.Common.{◌∙◌, ◌++◌, ap, sym, List}
use Rattle.sub_io.proofs.ReportingLemmas.{ReportsSome-trans}
use Rattle.sub_rules.specs.PesPacketEvents.{run_ending_events}
use Rattle.sub_rules.specs.declared.event.Event.{Event}
use Rattle.sub_checker.specs.CheckedFrames.{steps_at_end_of_file}
use Rattle.sub_checker.specs.Relay.{relayed_events}
use Rattle.sub_checker.specs.StoredSkippedRun.{skipped_run_of}
use Rattle.sub_checker.specs.declared.reporter.Relay.{Relay}
use Rattle.sub_checker.proofs.FusedAudienceLemmas.{reported_events_are_received}
use Rattle.sub_checker.proofs.FusedAudienceLemmas.{some_reported_events_are_received}
use Rattle.sub_checker.proofs.EventPartsLemmas.{reports_of_append}
use Rattle.sub_checker.proofs.file_end.finish.Goals as goal

pub returns-then-reporter-clause-same : goal.returns-then-reporter-clause-same
returns-then-reporter-clause-same g c = λ criteria list last keeps.
    let some =
    ReportsSome-trans _ _ _ (c.end_and_close.ensures.some criteria list last keeps)
    (record { items = _; reported = c.report_if_present.ensures }) in
    (some_reported_events_are_received g.A.ReportSink.is_reported _ _ some).0

pub returns-then-reporter-clause-some : goal.returns-then-reporter-clause-some
returns-then-reporter-clause-some g c = λ criteria list last keeps.
    let some =
    ReportsSome-trans _ _ _ (c.end_and_close.ensures.some criteria list last keeps)
    (record { items = _; reported = c.report_if_present.ensures }) in
    (some_reported_events_are_received g.A.ReportSink.is_reported _ _ some).1

pub returns-then-reporter-clause-reported : goal.returns-then-reporter-clause-reported
returns-then-reporter-clause-reported g c = λ criteria list last keeps is.
    let first = c.end_and_close.ensures.reported criteria list last keeps is in
    (reported_events_are_received g.A.ReportSink.is_reported _ _ _
    (reports_of_append _ _ _ _ _ _
    (ap (λ (es : List Event). relayed_events c.args.reporter.now.relay
    (steps_at_end_of_file criteria list c.args.pes)
    ++ es) (sym (c.ended.ensures ∙ ap (λ (p : Relay). run_ending_events (skipped_run_of p.run))
    first.kept)))
    first.reported c.report_if_present.ensures)).cut

pub returns-clause-same : goal.returns-clause-same
returns-clause-same g c = λ criteria list last keeps.
    let some =
    ReportsSome-trans _ _ _ (c.end_and_close.ensures.some criteria list last keeps)
    (record { items = _; reported = c.report_if_present.ensures }) in
    (some_reported_events_are_received g.A.ReportSink.is_reported _ _ some).0

pub returns-clause-some : goal.returns-clause-some
returns-clause-some g c = λ criteria list last keeps.
    let some =
    ReportsSome-trans _ _ _ (c.end_and_close.ensures.some criteria list last keeps)
    (record { items = _; reported = c.report_if_present.ensures }) in
    (some_reported_events_are_received g.A.ReportSink.is_reported _ _ some).1

pub returns-clause-reported : goal.returns-clause-reported
returns-clause-reported g c = λ criteria list last keeps is.
    let first = c.end_and_close.ensures.reported criteria list last keeps is in
    (reported_events_are_received g.A.ReportSink.is_reported _ _ _
    (reports_of_append _ _ _ _ _ _
    (ap (λ (es : List Event). relayed_events c.args.reporter.now.relay
    (steps_at_end_of_file criteria list c.args.pes)
    ++ es) (sym (c.ended.ensures ∙ ap (λ (p : Relay). run_ending_events (skipped_run_of p.run))
    first.kept)))
    first.reported c.report_if_present.ensures)).whole c.if-reporter.false
