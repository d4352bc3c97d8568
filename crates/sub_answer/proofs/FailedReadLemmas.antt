-- If the source of a PES file fails, the failure is reported last, after the events of earlier PES
-- packets.
use Rattle.std.proofs.lemmas.Bool.Decides.{nat_tests}
use Rattle.std.proofs.Common.{◌≡◌, refl, sym, subst, arith, ℕ, ◌<◌}
use Rattle.std.proofs.Common.{List, [], Bool, true, Option}
use Rattle.std.proofs.Common.{Result, Ok, Err}
use Rattle.std.proofs.lemmas.Bool.{true≢false}
use Rattle.std.specs.Prelude.{IfErr, IsOk, is_err, is_ok, not}
use Rattle.sub_io.specs.Device.{CountRisesIf, failed}
use Rattle.ttx_pes.specs.declared.fault.PesFault.TheVariants as pes_fault
use Rattle.stl_rows.specs.Judged.{JudgedValue}
use Rattle.stl_rows.specs.Programme.{ProgrammeValue}
use Rattle.stl_rows.specs.declared.layout.Drawing.{Drawing}
use Rattle.sub_plan.specs.Options.{OptionsValue}
use Rattle.sub_check.specs.CheckedFiles.{ReportsEvents}
use Rattle.sub_check.specs.CheckedFiles.{first_judged_events, events_of_first_pes_packets}
use Rattle.sub_rules.specs.Fault.{is_pes_read_failure}
use Rattle.sub_rules.specs.PesPacketEvents.{announced_events, events_of_pes_packets, steps_of_each}
use Rattle.sub_rules.specs.Trusted.{events_reported_after}
use Rattle.sub_checker.specs.declared.accepted.Accepted.{Accepted}
use Rattle.sub_rules.specs.declared.event.Event.{Event}
use Rattle.sub_rules.specs.declared.fault.CheckFault.{CheckFault}
use Rattle.sub_rules.specs.declared.fault.CheckFault.TheVariants as fault
use Rattle.sub_listing.specs.FirstPacket.{FirstNumber}
use Rattle.sub_listing.specs.DeviceCall.{SourceCall}
use Rattle.sub_listing.specs.Faults.{check_line}
use Rattle.sub_listing.specs.LastLine.{BuffersLastLineOnly, PutsLine}
use Rattle.sub_listing.specs.FaultLine.{text_of_fault_line, counted_from}
use Rattle.sub_answer.specs.EveryFault.{ReportsBoth}
use Rattle.sub_listing.specs.Printer.{PrinterValue}

pub no_packets_have_no_events : (programme : ProgrammeValue) (options : OptionsValue)
    (bytes : List ℕ)
    → events_of_first_pes_packets programme options bytes 0 ≡ []
unfolding events_of_pes_packets announced_events events_reported_after steps_of_each
no_packets_have_no_events programme options bytes = refl

judged_empty_run_has_no_events : (judged : JudgedValue) (options : OptionsValue) (bytes : List ℕ)
    → first_judged_events judged options bytes 0 ≡ []
unfolding events_of_pes_packets announced_events events_reported_after steps_of_each
judged_empty_run_has_no_events judged options bytes = refl

pub failed_first_read_reports_nothing : {D : Type 0} (IsReported : D → Event → D → Type 0)
    (judged : JudgedValue)
    (options : OptionsValue) (bytes : List ℕ) (old : D)
    → ReportsEvents judged options bytes IsReported old old (Err (fault.Pes 0 pes_fault.Read))
failed_first_read_reports_nothing IsReported judged options bytes old = grind
    (arith, nat_tests, judged_empty_run_has_no_events)

pub not_ok_is_err : {X E : Type 0} (r : Result X E) → not (is_ok r) ≡ is_err r
not_ok_is_err (Ok x) = refl
not_ok_is_err (Err e) = refl

pub failed_result_is_error : {X E : Type 0} (Q : Type 0) (is_one : E → Bool) (r : Result X E)
    → IfErr r (λ _. Q)
    → failed is_one r ≡ true
    → Q
failed_result_is_error Q is_one (Ok x) holds is = absurd (true≢false (sym is))
failed_result_is_error Q is_one (Err e) holds is = holds

accepted_means_no_failure : (answer : Result (Option Accepted) CheckFault) (old new : ℕ)
    → IsOk answer
    → CountRisesIf old (failed is_pes_read_failure answer) new
    → old < new
    → ⊥
accepted_means_no_failure (Ok a) old new ok same risen = omega (arith, same, risen)
accepted_means_no_failure (Err f) old new ok same risen = absurd (true≢false (sym ok))

pub failed_printer_stops_reading : {drawing : Drawing} {options : OptionsValue}
    {stl pes : SourceCall}
    {first : FirstNumber} {Untouched : Type 0} {old new : PrinterValue}
    {given : Result (Option Accepted) CheckFault}
    → ReportsBoth drawing options stl pes first Untouched old new given
    → new.failed ≡ true
    → pes.old_count < pes.new_count
    → ⊥
failed_printer_stops_reading reported failing risen =
    accepted_means_no_failure reported.answer _ _ (reported.cut failing)
    reported.sources.pes_failure_count risen

pub failure_line_is_last : {K : Type 0} (contents : K → Option (List ℕ)) (buffered : K → ℕ)
    (IsPush : K → List ℕ → Option ℕ → K → Type 0) (before new end : K) (number : ℕ)
    (answer : Result (Option Accepted) CheckFault)
    → failed is_pes_read_failure answer ≡ true
    → buffered before ≡ 0
    → IfErr answer (λ f.
    PutsLine contents IsPush before (text_of_fault_line (counted_from number (check_line f))) new)
    → end ≡ new
    → BuffersLastLineOnly contents buffered IsPush end
failure_line_is_last contents buffered IsPush before new end number (Ok a) is none line same =
    absurd (true≢false (sym is))
failure_line_is_last contents buffered IsPush before new end number (Err f) is none line
    same = record {
      before = before;
      settled = none;
      reported = counted_from number (check_line f);
      line = subst
          (PutsLine contents IsPush before
          (text_of_fault_line (counted_from number (check_line f))))
          (sym same)
          line;
    }
