use Rattle.std.proofs.Common.{◌≡◌, ◌∙◌, refl, sym, subst, arith, ℕ, List, Option, false}
use Rattle.std.proofs.lemmas.Bool.{true≢false}
use Rattle.std.specs.Prelude.{◌≤◌}
use Rattle.stl_rows.specs.EveryFault.{faults}
use Rattle.stl_rows.specs.Judged.{JudgesFile}
use Rattle.stl_rows.specs.declared.fault.LoadFault.{LoadFault}
use Rattle.sub_io.proofs.FlushingLemmas.{ok_property_applies}
use Rattle.sub_io.specs.Reporting.{Reports}
use Rattle.sub_listing.specs.EventLines.{subtitle_event}
use Rattle.sub_listing.specs.Printer.{PrinterValue, PrintsEvent, printer_value}
use Rattle.sub_listing.specs.declared.printer.Printer.{Printer}
use Rattle.sub_answer.proofs.EveryFaultLemmas.{loading_error_is_reported}
use Rattle.sub_answer.proofs.EveryFaultLemmas.{refused_subtitles_are_reported}
use Rattle.sub_answer.proofs.EveryFaultLemmas.{judged_transmission_is_reported}
use Rattle.sub_answer.proofs.EveryFaultLemmas.{unreported_faults_are_reported}
use Rattle.sub_answer.proofs.EveryFaultLemmas.{reported_faults_are_flushed}
use Rattle.sub_answer.proofs.EveryFaultLemmas.{reported_faults_were_printed}
use Rattle.sub_answer.proofs.EveryFaultLemmas.{stopped_printing_has_failed}
use Rattle.sub_answer.proofs.EveryFaultLemmas.{error_result_satisfies}
use Rattle.sub_answer.proofs.PesEventLemmas.{decided}
use Rattle.sub_listing.proofs.PrinterLemmas.{device_has_not_failed, counted-few}
use Rattle.sub_listing.proofs.PrinterLemmas.{reported_items_are_printed, reporting_keeps_name}
use Rattle.sub_listing.proofs.PrinterLemmas.{continues_without_failure}
use Rattle.sub_answer.proofs.answering.check_all.report_every_fault.Goals as goal

abbrev value_of : {K : Type 0} → (K → Option (List ℕ)) → (K → ℕ) → Printer K → PrinterValue
value_of contents count p =
    printer_value (contents p.out.now) (count p.out.now) p.fault_count p.failed p.first

abbrev IsReportedFault : {K : Type 0} → (K → Option (List ℕ)) → (K → ℕ) → (K → ℕ)
    → Printer K → LoadFault → Printer K → Type 0
IsReportedFault contents count buffered s x t = (t.out.ghost_name ≡ s.out.ghost_name)
    × PrintsEvent (value_of contents count s) (subtitle_event x) (value_of contents count t)
    × (t.pending ≡ false → buffered t.out.now ≡ 0)

pub returns-in-Err-clause-same : goal.returns-in-Err-clause-same
returns-in-Err-clause-same g c =
    reporting_keeps_name (IsReportedFault g.K.Sink.contents g.K.Sink.failure_count
    g.K.Flush.buffered)
    (λ (p : Printer g.row.K.Denot). p.out.ghost_name) (λ s t x h. h.0) _ _
    c.in-Err.ensures.reported_before_failure

pub returns-in-Err-clause-reported : goal.returns-in-Err-clause-reported
returns-in-Err-clause-reported g c =
    let e = c.in-Err.ensures in
    loading_error_is_reported (IsReportedFault g.K.Sink.contents g.K.Sink.failure_count
    g.K.Flush.buffered)
    (value_of g.K.Sink.contents g.K.Sink.failure_count) (λ s t x h. h.1)
    _ _ _ _ _ _ c.args.printer.now c.load_all.new.report_sink c.requires.continues
    (omega (arith, c.requires.none)) refl (omega arith)
    c.in-Err.fault.block c.in-Err.fault.kind
    (device_has_not_failed _ _ (λ h. let r = e.stopped h in cc))
    e.kinds e.reported_before_failure e.count e.memory e.read

pub returns-in-Ok-None-clause-same : goal.returns-in-Ok-None-clause-same
returns-in-Ok-None-clause-same g c =
    let some = c.in-Ok-None.ensures.some (let is = c.in-Ok-None.field-0-is in cc) in
    reporting_keeps_name (IsReportedFault g.K.Sink.contents g.K.Sink.failure_count
    g.K.Flush.buffered)
    (λ (p : Printer g.row.K.Denot). p.out.ghost_name) (λ s t x h. h.0) _ _
    (record { items = some.faults; reported = some.reported })

pub returns-in-Ok-None-clause-reported : goal.returns-in-Ok-None-clause-reported
returns-in-Ok-None-clause-reported g c =
    let e = c.in-Ok-None.ensures in
    refused_subtitles_are_reported (IsReportedFault g.K.Sink.contents g.K.Sink.failure_count
    g.K.Flush.buffered)
    (value_of g.K.Sink.contents g.K.Sink.failure_count) (λ s t x h. h.1)
    _ _ _ _ _ _ c.args.printer.now c.load_all.new.report_sink c.requires.continues
    (omega (arith, c.requires.none)) refl (omega arith) _
    (λ holds same. continues_without_failure _ _ _ c.requires.out holds same)
    (e.some (let is = c.in-Ok-None.field-0-is in cc))
    (λ file reported. e.reported file reported (let is = c.in-Ok-None.field-0-is in cc))
    (λ file reported. e.not_judged file reported (let is = c.in-Ok-None.field-0-is in cc)) e.count

pub returns-then-is_err-clause-same : goal.returns-then-is_err-clause-same
returns-then-is_err-clause-same g c =
    let any = rw c.in-Ok-Some.field-0-is at c.in-Ok-Some.ensures.any in
    reporting_keeps_name (IsReportedFault g.K.Sink.contents g.K.Sink.failure_count
    g.K.Flush.buffered)
    (λ (p : Printer g.row.K.Denot). p.out.ghost_name) (λ s t x h. h.0) _ _
    (record {
      items = any.faults;
      reported = c.flush_reports.ensures.reported.kept _ any.faults c.requires.still any.reported;
    })

pub returns-then-is_err-clause-reported : goal.returns-then-is_err-clause-reported
returns-then-is_err-clause-reported g c =
    let e = c.in-Ok-Some.ensures in
    let any = rw c.in-Ok-Some.field-0-is at e.any in
    let IsReported = IsReportedFault g.K.Sink.contents g.K.Sink.failure_count g.K.Flush.buffered in
    let value = value_of g.K.Sink.contents g.K.Sink.failure_count in
    let fs =
    decided (Reports IsReported c.args.printer.now c.load_all.new.report_sink)
    (g.S.Source.remaining c.args.stl.now) (faults c.args.drawing) any.faults any.reported
    (λ file reported. rw c.in-Ok-Some.field-0-is at (e.reported_all file reported)) in
    let reported = c.flush_reports.ensures.reported.kept c.args.printer.now fs.0 c.requires.still
    fs.1 in
    let is_err = sym c.is_err.ensures.value ∙ c.if-is_err.true in
    let few : (value c.args.printer.now).fault_count ≤ 0xFFFF_FFFF_FFFF_FFFF =
    omega (arith, c.requires.none) in
    let failing =
    stopped_printing_has_failed _ _ _
    (reported_items_are_printed IsReported value subtitle_event (λ s t x h. h.1) _ _ fs.0
    c.requires.continues few
    reported)
    c.requires.out (c.flush_reports.ensures.stopped ∙ is_err) in
    unreported_faults_are_reported IsReported value (λ s t x h. h.1)
    _ c.args.options.now _ _ _ _ c.args.printer.now c.flush_reports.new.report_sink
    c.requires.continues
    few refl (omega arith) fs.0 failing reported
    (reported_faults_were_printed IsReported (λ (p : Printer g.row.K.Denot). p.pending) _ _ fs.0
    fs.1
    c.requires.still
    (error_result_satisfies _ is_err c.flush_reports.ensures.had_pending_reports)) fs.2 e.count

pub report_transmission-requires-clause-few : goal.report_transmission-requires-clause-few
report_transmission-requires-clause-few g c =
    let any = rw c.in-Ok-Some.field-0-is at c.in-Ok-Some.ensures.any in
    let IsReported = IsReportedFault g.K.Sink.contents g.K.Sink.failure_count g.K.Flush.buffered in
    let value = value_of g.K.Sink.contents g.K.Sink.failure_count in
    let few : (value c.args.printer.now).fault_count ≤ 0xFFFF_FFFF_FFFF_FFFF =
    omega (arith, c.requires.none) in
    let goes : c.flush_reports.new.report_sink.failed ≡ false =
    device_has_not_failed _ _
    (λ h. true≢false
    (sym h ∙ c.flush_reports.ensures.stopped ∙ sym c.is_err.ensures.value ∙ c.if-is_err.false)) in
    let printed =
    reported_items_are_printed IsReported value subtitle_event (λ s t x h. h.1) c.args.printer.now
    c.flush_reports.new.report_sink any.faults c.requires.continues few
    (c.flush_reports.ensures.reported.kept _ any.faults c.requires.still any.reported) in
    rw (printed.counts_faults goes) (counted-few _ _)

pub returns-else-is_err-clause-same : goal.returns-else-is_err-clause-same
returns-else-is_err-clause-same g c =
    let any = rw c.in-Ok-Some.field-0-is at c.in-Ok-Some.ensures.any in
    c.report_transmission.ensures.same
    ∙ reporting_keeps_name
    (IsReportedFault g.K.Sink.contents g.K.Sink.failure_count g.K.Flush.buffered)
    (λ (p : Printer g.row.K.Denot). p.out.ghost_name) (λ s t x h. h.0) _ _
    (record {
      items = any.faults;
      reported = c.flush_reports.ensures.reported.kept _ any.faults c.requires.still any.reported;
    })

pub returns-else-is_err-clause-reported : goal.returns-else-is_err-clause-reported
returns-else-is_err-clause-reported g c =
    let e = c.in-Ok-Some.ensures in
    let any = rw c.in-Ok-Some.field-0-is at e.any in
    let IsReported = IsReportedFault g.K.Sink.contents g.K.Sink.failure_count g.K.Flush.buffered in
    let value = value_of g.K.Sink.contents g.K.Sink.failure_count in
    let fs =
    decided (Reports IsReported c.args.printer.now c.load_all.new.report_sink)
    (g.S.Source.remaining c.args.stl.now) (faults c.args.drawing) any.faults any.reported
    (λ file reported. rw c.in-Ok-Some.field-0-is at (e.reported_all file reported)) in
    let reported = c.flush_reports.ensures.reported.kept c.args.printer.now fs.0 c.requires.still
    fs.1 in
    let few : (value c.args.printer.now).fault_count ≤ 0xFFFF_FFFF_FFFF_FFFF =
    omega (arith, c.requires.none) in
    let goes =
    device_has_not_failed _ _
    (λ h. true≢false
    (sym h ∙ c.flush_reports.ensures.stopped ∙ sym c.is_err.ensures.value ∙ c.if-is_err.false)) in
    judged_transmission_is_reported c.args.drawing c.args.options.now
    _ _ _ _ (value c.args.printer.now)
    (value c.flush_reports.new.report_sink) _ c.judging.result fs.0 goes
    (reported_items_are_printed IsReported value subtitle_event (λ s t x h. h.1) _ _ fs.0
    c.requires.continues few
    reported)
    e.count
    (λ file heard.
    subst (JudgesFile c.args.drawing file) (sym c.judging.ensures)
    (rw c.in-Ok-Some.field-0-is at (e.exact file heard)))
    fs.2 _ c.report_transmission.ensures.reported

pub returns-else-is_err-clause-flushed_at_failure :
    goal.returns-else-is_err-clause-flushed_at_failure
returns-else-is_err-clause-flushed_at_failure g c = λ none.
    let any = rw c.in-Ok-Some.field-0-is at c.in-Ok-Some.ensures.any in
    c.report_transmission.ensures.flushed_at_failure
    (ok_property_applies _ (sym c.is_err.ensures.value ∙ c.if-is_err.false)
    (c.flush_reports.ensures.buffered
    (reported_faults_are_flushed (IsReportedFault g.K.Sink.contents g.K.Sink.failure_count
    g.K.Flush.buffered)
    (λ (p : Printer g.row.K.Denot). p.pending)
    (λ (p : Printer g.row.K.Denot). g.K.Flush.buffered p.out.now) (λ s t x h. h.2) _ _ any.faults
    (λ still. none) any.reported.one_by_one)))
