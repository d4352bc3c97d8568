-- The events of a PES file are reported to a printer, and these events determine the result of the
-- check.
use Rattle.std.proofs.Common.{◌≡◌, ◌∙◌, ap, refl, sym, subst, arith, ℕ, ◌+◌, ◌≤◌}
use Rattle.std.proofs.Common.{zero, suc, List, take, length, Bool, true, false, Option}
use Rattle.std.proofs.Common.{Some, None, Result, Ok, Err, ◌-◌}
use Rattle.std.proofs.lemmas.Bool.{true≢false}
use Rattle.std.proofs.lemmas.Bool.Decides.{nat_tests}
use Rattle.std.specs.Prelude.{IfOk, IfErr, IfSome, IsFalse, is_none}
use Rattle.sub_io.specs.Device.{CountRisesIf, failed}
use Rattle.sub_io.specs.Reading.{IfKnown}
use Rattle.sub_io.specs.Reporting.{Reports, ReportsSome}
use Rattle.ttx_packet.specs.PageId.{PageIdValue}
use Rattle.ttx_pes.specs.declared.fault.PesFault.TheVariants as pes_fault
use Rattle.stl_rows.specs.Judged.{JudgedValue, known}
use Rattle.stl_rows.specs.Programme.{ProgrammeValue}
use Rattle.sub_plan.specs.FrameTime.{clock_of}
use Rattle.sub_plan.specs.Options.{OptionsValue}
use Rattle.sub_check.specs.CheckedFiles.{IsChecked, IsCheckedBy, ReportsEvents}
use Rattle.sub_check.specs.CheckedFiles.{all_judged_events}
use Rattle.sub_check.specs.CheckedFiles.{all_events_of, first_judged_events, first_answer}
use Rattle.sub_check.specs.CheckedFiles.{frames_read}
use Rattle.sub_checker.specs.ReadCounts.{AreCountsOfFrames}
use Rattle.sub_rules.specs.Events.{latest_frame}
use Rattle.sub_rules.specs.Fault.{is_pes_read_failure}
use Rattle.sub_rules.specs.FrameRules.{frame_at, packets_before}
use Rattle.sub_rules.specs.PacketRules.{header_count}
use Rattle.sub_rules.specs.PesPackets.{FailsAtPesPacket, pes_packet_file_of}
use Rattle.sub_rules.specs.Transmission.{Transmission}
use Rattle.sub_checker.specs.declared.accepted.Accepted.{Accepted}
use Rattle.sub_rules.specs.declared.event.Event.{Event}
use Rattle.sub_rules.specs.declared.fault.CheckFault.{CheckFault}
use Rattle.sub_rules.specs.declared.fault.CheckFault.TheVariants as fault
use Rattle.sub_listing.specs.DeviceCall.{SourceCall}
use Rattle.sub_listing.specs.FirstPacket.{FirstNumber, StartsAt}
use Rattle.sub_answer.specs.EveryFault.{IsCheckAnswer}
use Rattle.sub_answer.specs.EveryFault.{ReportsPes}
use Rattle.sub_listing.specs.EventLines.{max_fault_count}
use Rattle.sub_listing.specs.Printer.{PrinterValue, PrintsEvent, PrintsEvents}
use Rattle.sub_listing.proofs.PrinterLemmas.{mapped_events_are_printed, prints-taken}
use Rattle.sub_listing.proofs.PrinterLemmas.{reported_items_are_printed}

pub decided : {A : Type 0} (Q : A → Type 0) (reported : Option (List ℕ)) (given : List ℕ → A)
    (some : A)
    → Q some
    → IfKnown reported (λ bytes. Q (given bytes))
    → (x : A) × Q x × IfKnown reported (λ bytes. x ≡ given bytes)
decided Q None given some holds reported = (some, holds, λ bytes heard. cc)
decided Q (Some bytes) given some holds reported = (
  given bytes,
  reported bytes refl,
  λ other heard. let same : bytes ≡ other = cc in ap given
      same,
)

latest_frame-first : (frames : Transmission) (n : ℕ)
    → frame_at frames 0 ≤ latest_frame frames (suc n)
unfolding latest_frame
latest_frame-first frames zero = grind (arith, nat_tests)
latest_frame-first frames (suc n) =
    let before = latest_frame-first frames n in grind (arith, nat_tests)

every_length_has_counts : (page : PageIdValue) (frames : Transmission) (n : ℕ) → length frames ≡ n
    → (a : Accepted) × AreCountsOfFrames page frames a
every_length_has_counts page frames zero is = (
  record {
    frames = 0;
    headers = header_count page (packets_before frames (length frames));
  },
  record {
    none = λ none. refl;
    frames_are = λ some. absurd (omega (arith, is, some));
    headers_eq = refl;
  },
)
every_length_has_counts page frames (suc n) is =
    let first = latest_frame-first frames n in (
      record {
        frames = (latest_frame frames (suc n) + 1) - frame_at frames 0;
        headers = header_count page (packets_before frames (length frames));
      },
      record {
        none = λ none. absurd (omega (arith, is, none));
        frames_are = λ some. rw is (omega (arith, first));
        headers_eq = refl;
      },
    )

-- A fault that reports a failed source of the PES file names a PES packet. This is a separate lemma
-- because the tactic `cc` is slow when more facts are known.
failed_read_has_number : (f : CheckFault)
    → is_pes_read_failure f ≡ true
    → (n : ℕ) × (f ≡ fault.Pes n pes_fault.Read)
failed_read_has_number (fault.Pes n pes_fault.Read) is = (n, refl)
failed_read_has_number f is = cc

pub first_event_decides_answer : (judged : JudgedValue) (options : OptionsValue)
    (pes : Option (List ℕ))
    (r : Result (Option Accepted) CheckFault)
    → ((programme : ProgrammeValue)
    → judged ≡ known programme
    → IfKnown pes (λ bytes. IfOk r (λ counts. IfSome counts (λ a. IsCheckedBy programme options
    bytes (first_answer (all_events_of programme options bytes) a)))))
    → ((programme : ProgrammeValue)
    → judged ≡ known programme
    → IsFalse options.keeps
    → options.within ≡ 0
    → IfKnown pes (λ bytes. IfOk r (λ counts. IfSome counts (λ a. IsChecked programme options
    bytes (first_answer (all_events_of programme options bytes) a)))))
    → IfKnown pes (λ bytes.
    (programme : ProgrammeValue)
    → judged ≡ known programme
    → IfOk r (λ counts. IfSome counts (λ a. IsCheckAnswer programme options
    bytes (first_answer (all_events_of programme options bytes) a))))
first_event_decides_answer judged options pes (Ok (Some a)) by at_once bytes heard programme is = (
  by programme is bytes heard,
  λ none whole. at_once programme is none whole bytes heard,
)
first_event_decides_answer judged options pes (Ok None) by at_once bytes heard programme is = tt
first_event_decides_answer judged options pes (Err f) by at_once bytes heard programme is = tt

known_programme_gives_events : (judged : JudgedValue) (programme : ProgrammeValue)
    (options : OptionsValue)
    (bytes : List ℕ)
    → judged ≡ known programme
    → all_judged_events judged options bytes ≡ all_events_of programme options bytes
known_programme_gives_events judged programme options bytes is =
    ap (λ (j : JudgedValue). all_judged_events j options bytes) is

module _ {D : Type 0} (IsReported : D → Event → D → Type 0) (value : D → PrinterValue)
    (one : (s t : D) (x : Event) → IsReported s x t → PrintsEvent (value s) x (value t))
    (judged : JudgedValue) (options : OptionsValue) (pes : SourceCall) (first : FirstNumber)
    (old new : D)
    (goes : (value old).failed ≡ false) (few : (value old).fault_count ≤ max_fault_count)
    (starts : StartsAt first pes (value old).first) where
  put : (items : List Event) → Reports IsReported old new items
      → PrintsEvents (value old) items (value new)
  put items reported =
      mapped_events_are_printed (value old) (value new) items
      (reported_items_are_printed IsReported value (λ (e : Event). e) one old new items goes few
      reported)

  failed_pes_read_is_reported : (f : CheckFault)
      → is_pes_read_failure f ≡ true
      → (value new).failed ≡ false
      → ReportsSome IsReported old new
      → IfKnown pes.known (λ bytes. ReportsEvents judged options bytes IsReported old new (Err f))
      → CountRisesIf pes.old_count (is_pes_read_failure f) pes.new_count
      → ((index : ℕ)
      → (let r : Result (Option Accepted) CheckFault = Err f in r)
      ≡ Err (fault.Pes index pes_fault.Read)
      → FailsAtPesPacket index pes.known pes.left)
      → ReportsPes judged options pes first (value old) (value new) (Err f)
  failed_pes_read_is_reported f is fault_free some reported count fails = go
      (failed_read_has_number f is).0 (failed_read_has_number f is).1
    where
      go : (n : ℕ) → f ≡ fault.Pes n pes_fault.Read
          → ReportsPes judged options pes first (value old) (value new) (Err f)
      go n same =
          let events =
          decided (λ (es : List Event). Reports IsReported old new es) pes.known
          (λ bytes. first_judged_events judged options bytes n) some.items some.reported
          (λ bytes heard.
          let here = reported bytes heard in
          let at : here.0 ≡ n = let e = here.2 in cc in
          subst (λ (m : ℕ). Reports IsReported old new
          (first_judged_events judged options bytes m)) at here.3) in
          let are : IfKnown pes.known (λ bytes.
          (n ≤ length (pes_packet_file_of (clock_of options) bytes).pes_packets)
          × (events.0 ≡ first_judged_events judged options bytes n)) =
          λ bytes heard.
          let here = reported bytes heard in
          let at : here.0 ≡ n = let e = here.2 in cc in (
            subst (λ (m : ℕ). m ≤ length (pes_packet_file_of (clock_of options) bytes).pes_packets)
                at here.1,
            events.2 bytes heard,
          ) in
          record {
            events = events.0;
            answer = Err n;
            same = λ holds. rw same refl;
            number = (value old).first;
            starts = starts;
            prints = put events.0 events.1;
            count =
                subst (λ (g : CheckFault). CountRisesIf pes.old_count (is_pes_read_failure g)
                pes.new_count)
                same
                count;
            read = λ m e.
                let at : n ≡ m = cc in
                subst (λ (k : ℕ). FailsAtPesPacket k pes.known pes.left) at
                (fails n
                (ap (λ g. let r : Result (Option Accepted) CheckFault = Err g in r) same));
            cut = λ failing. absurd (true≢false (sym failing ∙ fault_free));
            checked = λ holds bytes known programme a given e. cc;
            listed = are;
          }

  complete_pes_file_is_reported : (items : List Event) (a : Accepted)
      (given : Result (Option Accepted) CheckFault)
      → PrintsEvents (value old) items (value new)
      → ((value new).failed ≡ false → Ok (Some a) ≡ given)
      → CountRisesIf pes.old_count false pes.new_count
      → IfKnown pes.known (λ bytes. (items ≡ all_judged_events judged options bytes)
      × AreCountsOfFrames options.page (frames_read options bytes) a)
      → ((value new).failed ≡ false
      → IfKnown pes.known (λ bytes.
      (programme : ProgrammeValue)
      → judged ≡ known programme
      → IsCheckAnswer programme options bytes (first_answer items a)))
      → ReportsPes judged options pes first (value old) (value new) given
  complete_pes_file_is_reported items a given prints same count are verdict = record {
    events = items;
    answer = Ok a;
    same = same;
    number = (value old).first;
    starts = starts;
    prints = prints;
    count = count;
    read = λ n is. cc;
    cut = λ failing. refl;
    checked = λ holds bytes heard programme b is e.
        let one : a ≡ b = cc in
        subst (λ (c : Accepted). IsCheckAnswer programme options bytes (first_answer items c)) one
        (verdict holds bytes heard programme is);
    listed = are;
  }

  all_events_are_reported : (given : Accepted)
      → ReportsSome IsReported old new
      → IfKnown pes.known (λ bytes. ReportsEvents judged options bytes IsReported old new
      (Ok (Some given)))
      → IfKnown pes.known (λ bytes.
      (programme : ProgrammeValue)
      → judged ≡ known programme
      → IsCheckAnswer programme options bytes
      (first_answer (all_events_of programme options bytes) given))
      → CountRisesIf pes.old_count false pes.new_count
      → ReportsPes judged options pes first (value old) (value new) (Ok (Some given))
  all_events_are_reported given some reported first_is count =
      let events =
      decided (λ (es : List Event). Reports IsReported old new es) pes.known
      (all_judged_events judged options) some.items some.reported
      (λ bytes heard. (reported bytes heard).0)
      in
      complete_pes_file_is_reported events.0 given (Ok (Some given)) (put events.0 events.1)
      (λ holds. refl) count
      (λ bytes heard. (events.2 bytes heard, (reported bytes heard).1))
      (λ fault_free bytes heard programme is.
      subst (λ (es : List Event). IsCheckAnswer programme options bytes (first_answer es given))
      (sym (events.2 bytes heard ∙ known_programme_gives_events judged programme options bytes is))
      (first_is bytes heard programme is))

  stopped_printer_is_reported : (value new).failed ≡ true
      → ReportsSome IsReported old new
      → IfKnown pes.known (λ bytes. ReportsEvents judged options bytes IsReported old new (Ok None))
      → CountRisesIf pes.old_count false pes.new_count
      → ReportsPes judged options pes first (value old) (value new) (Ok None)
  stopped_printer_is_reported failing some reported count =
      let counts = λ (bytes : List ℕ).
      every_length_has_counts options.page (frames_read options bytes)
      (length (frames_read options bytes)) refl
      in
      let events =
      decided (λ (x : List Event × Accepted). PrintsEvents (value old) x.0 (value new)) pes.known
      (λ bytes. (all_judged_events judged options bytes, (counts bytes).0))
      (some.items, record { frames = 0; headers = 0 }) (put some.items some.reported)
      (λ bytes heard.
      let p = reported bytes heard in
      let whole = all_judged_events judged options bytes in
      mapped_events_are_printed (value old) (value new) whole
      (prints-taken (λ (e : Event). e) (value old) (value new) p.0 whole failing
      (reported_items_are_printed IsReported value (λ (e : Event). e) one old new (take p.0 whole)
      goes few p.2)))
      in
      complete_pes_file_is_reported events.0.0 events.0.1 (Ok None) events.1
      (λ holds. absurd (true≢false (sym failing ∙ holds))) count
      (λ bytes heard.
      rw (events.2 bytes heard) (refl, (counts bytes).1))
      (λ fault_free. absurd (true≢false (sym failing ∙ fault_free)))

  pub pes_events_are_reported : (r : Result (Option Accepted) CheckFault) (stopped : Bool)
      → ((value new).failed ≡ true → stopped ≡ true)
      → ((value new).failed ≡ false → (value new).count ≡ (value old).count → stopped ≡ false)
      → ReportsSome IsReported old new
      → IfKnown pes.known (λ bytes. ReportsEvents judged options bytes IsReported old new r)
      → IfKnown pes.known (λ bytes.
      (programme : ProgrammeValue)
      → judged ≡ known programme
      → IfOk r (λ counts. IfSome counts (λ a. IsCheckAnswer programme options
      bytes (first_answer (all_events_of programme options bytes) a))))
      → IfOk r (λ counts. stopped ≡ is_none counts)
      → IfErr r (λ f. stopped ≡ false)
      → IfErr r (λ f. is_pes_read_failure f ≡ true)
      → CountRisesIf pes.old_count (failed is_pes_read_failure r) pes.new_count
      → ((index : ℕ)
      → r ≡ Err (fault.Pes index pes_fault.Read)
      → FailsAtPesPacket index pes.known pes.left)
      → ReportsPes judged options pes first (value old) (value new) r
  pes_events_are_reported (Ok (Some a)) stopped stops fault_free some reported first_is is continues
      only count
      fails =
      all_events_are_reported a some reported first_is count
  pes_events_are_reported (Ok None) stopped stops fault_free some reported first_is is continues
      only count
      fails =
      stopped_printer_is_reported (failing (value new).failed refl) some reported count
    where
      failing : (b : Bool) → (value new).failed ≡ b → (value new).failed ≡ true
      failing true e = e
      failing false e =
          absurd (true≢false (sym is ∙ fault_free e
          ((put some.items some.reported).keeps_failure_count e)))
  pes_events_are_reported (Err f) stopped stops fault_free some reported first_is is continues only
      count fails =
      failed_pes_read_is_reported f only (printer_has_not_failed (value new).failed refl) some
      reported count fails
    where
      printer_has_not_failed : (b : Bool) → (value new).failed ≡ b → (value new).failed ≡ false
      printer_has_not_failed true e = absurd (true≢false (sym (stops e) ∙ continues))
      printer_has_not_failed false e = e

pub printer_start_number_is_free : (judged : JudgedValue) (options : OptionsValue)
    (pes : SourceCall)
    (first : FirstNumber) (old new : PrinterValue) (number : ℕ)
    (given : Result (Option Accepted) CheckFault)
    → ReportsPes judged options pes first (record old { first = number }) new given
    → ReportsPes judged options pes first old new given
printer_start_number_is_free judged options pes first old new number given t = grind
    (arith, nat_tests)
