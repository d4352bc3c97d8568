use Rattle.std.proofs.Common.{◌≡◌, ◌∙◌, refl, sym, arith, ℕ, ◌+◌, List, [], false, inl, inr, Err}
use Rattle.std.proofs.lemmas.Bool.{true≢false}
use Rattle.ttx_pes.specs.declared.fault.PesFault.TheVariants.{Read}
use Rattle.sub_rules.specs.declared.fault.CheckFault.TheVariants as fault
use Rattle.sub_listing.proofs.FirstPacketLemmas.{unchanged_bytes_allow_pes_failure}
use Rattle.sub_listing.proofs.FirstPacketLemmas.{keeping_preserves_pes_failure}
use Rattle.sub_listing.proofs.FirstPacketLemmas.{keeping_preserves_known_bytes}
use Rattle.sub_rules.specs.declared.event.Event.{Event}
use Rattle.sub_listing.specs.DeviceCall.{read_call}
use Rattle.sub_listing.specs.FirstPacket.{first_number}
use Rattle.sub_listing.specs.Printer.{PrinterValue, PrintsEvent, printer_value}
use Rattle.std.proofs.Common.{Option}
use Rattle.sub_listing.specs.declared.printer.Printer.{Printer}
use Rattle.sub_answer.proofs.PesEventLemmas.{pes_events_are_reported, first_event_decides_answer}
use Rattle.sub_answer.proofs.PesEventLemmas.{printer_start_number_is_free}
use Rattle.sub_answer.proofs.FailedReadLemmas.{failed_result_is_error}
use Rattle.sub_answer.proofs.FailedReadLemmas.{failed_first_read_reports_nothing}
use Rattle.sub_listing.proofs.PrinterLemmas.{has_stopped, reporting_keeps_name}
use Rattle.sub_listing.proofs.PrinterLemmas.{continues_without_failure}
use Rattle.sub_answer.proofs.answering.check_all.report_transmission.Goals as goal

abbrev value_of : {K : Type 0} → (K → Option (List ℕ)) → (K → ℕ) → Printer K → PrinterValue
value_of contents count p =
    printer_value (contents p.out.now) (count p.out.now) p.fault_count p.failed p.first

abbrev IsReportedEvent : {K : Type 0} → (K → Option (List ℕ)) → (K → ℕ) → (K → ℕ)
    → Printer K → Event → Printer K → Type 0
IsReportedEvent contents count buffered s x t = (t.out.ghost_name ≡ s.out.ghost_name)
    × PrintsEvent (value_of contents count s) x (value_of contents count t)
    × (t.pending ≡ false → buffered t.out.now ≡ 0)

pub returns-in-Ok-clause-same : goal.returns-in-Ok-clause-same
returns-in-Ok-clause-same g c =
    reporting_keeps_name (IsReportedEvent g.K.Sink.contents g.K.Sink.failure_count
    g.K.Flush.buffered)
    (λ (p : Printer g.row.K.Denot). p.out.ghost_name) (λ s t x h. h.0) _ _
    c.check_all_pes_packets.ensures.some

pub returns-in-Ok-clause-reported : goal.returns-in-Ok-clause-reported
returns-in-Ok-clause-reported g c =
    let n = c.in-Ok.first in
    let start : Printer g.row.K.Denot = record c.args.printer.now { first = n } in
    let found = c.in-Ok.ensures in
    let counted = found.count in
    let same : g.P.PesPackets.failure_count c.find_first.new.self
    ≡ g.P.PesPackets.failure_count c.args.pes.now = omega (arith, counted) in
    let e = c.check_all_pes_packets.ensures in
    printer_start_number_is_free _ _ _ _ (value_of g.K.Sink.contents g.K.Sink.failure_count
    c.args.printer.now) _ n _
    (pes_events_are_reported (IsReportedEvent g.K.Sink.contents g.K.Sink.failure_count
    g.K.Flush.buffered)
    (value_of g.K.Sink.contents g.K.Sink.failure_count) (λ s t x h. h.1)
    c.args.judging.now c.args.options.now
    (read_call g.P.PesPackets.remaining g.P.PesPackets.left g.P.PesPackets.failure_count
    c.args.pes.now
    c.check_all_pes_packets.new.source)
    (first_number g.P.NumberedPesPackets.first g.P.NumberedPesPackets.skipped c.args.pes.now
    c.check_all_pes_packets.new.source)
    start c.check_all_pes_packets.new.report_sink c.requires.continues c.requires.few
    (λ k is. inl (found.first k is))
    c.check_all_pes_packets.result _ (has_stopped _ _)
    (λ holds fault_free. continues_without_failure _ _ _ c.requires.out holds fault_free)
    e.some (λ bytes reported. e.reported bytes (keeping_preserves_known_bytes _ _ bytes found.kept
    reported))
    (first_event_decides_answer c.args.judging.now _ _ c.check_all_pes_packets.result
    (λ programme is bytes reported.
    e.first_by programme is bytes (keeping_preserves_known_bytes _ _ bytes found.kept reported))
    (λ programme is none zero bytes reported.
    e.first programme is none zero bytes (keeping_preserves_known_bytes _ _ bytes found.kept
    reported)))
    e.stopped e.continues e.only (rw same at e.count)
    (λ index is. keeping_preserves_pes_failure index _ _ _ found.kept (e.read index is)))

pub returns-in-Ok-clause-flushed_at_failure : goal.returns-in-Ok-clause-flushed_at_failure
returns-in-Ok-clause-flushed_at_failure g c = λ none.
    failed_result_is_error _ _ _ (c.check_all_pes_packets.ensures.flushed_at_failure none)

pub returns-in-Err-clause-reported : goal.returns-in-Err-clause-reported
returns-in-Err-clause-reported g c =
    let n = c.in-Err.at.pes in
    let start : Printer g.row.K.Denot = record c.args.printer.now { first = n } in
    let found = c.in-Err.ensures in
    let counted = found.count in
    let risen : g.P.PesPackets.failure_count c.find_first.new.self
    ≡ g.P.PesPackets.failure_count c.args.pes.now + 1 = omega (arith, counted) in
    printer_start_number_is_free _ _ _ _ (value_of g.K.Sink.contents g.K.Sink.failure_count
    c.args.printer.now) _ n _
    (pes_events_are_reported (IsReportedEvent g.K.Sink.contents g.K.Sink.failure_count
    g.K.Flush.buffered)
    (value_of g.K.Sink.contents g.K.Sink.failure_count) (λ s t x h. h.1)
    c.args.judging.now c.args.options.now
    (read_call g.P.PesPackets.remaining g.P.PesPackets.left g.P.PesPackets.failure_count
    c.args.pes.now c.find_first.new.self)
    (first_number g.P.NumberedPesPackets.first g.P.NumberedPesPackets.skipped
    c.args.pes.now c.find_first.new.self)
    start start c.requires.continues c.requires.few
    (λ k is. inr (found.before k is, found.failed, found.left k is, (risen, found.unread)))
    (Err (fault.Pes 0 Read)) false
    (λ fails. absurd (true≢false (sym fails ∙ c.requires.continues)))
    (λ holds fault_free. refl)
    (record { items = []; reported = record { one_by_one = refl } })
    (λ bytes reported. failed_first_read_reports_nothing _ c.args.judging.now c.args.options.now
    bytes start)
    (λ bytes reported programme is. tt) tt refl refl risen
    (λ index is.
    let first : index ≡ 0 = cc in rw first (unchanged_bytes_allow_pes_failure _ _ found.unread)))
