-- The events that are reported to a printer determine the output and the status of `check --all`.
-- Each source fails at most once.
use Rattle.std.proofs.Common.{◌≡◌, ◌≢◌, ◌∙◌, ap, refl, sym, subst, arith, inl, inr, ℕ, ◌+◌, ◌==◌}
use Rattle.std.proofs.Common.{List, [], ◌++◌, Bool, true, false, Option, Some, None, Result, Ok}
use Rattle.std.proofs.Common.{Err, min, ◌∷◌}
use Rattle.std.proofs.lemmas.Bool.{true≢false}
use Rattle.std.proofs.lemmas.Bool.Decides.{nat_tests}
use Rattle.std.specs.Prelude.{◌↔◌, IfErr, is_none, ◌<◌}
use Rattle.std.specs.Io.KnownBytes.{Appends}
use Rattle.std.proofs.KnownBytes.{Appends-trans}
use Rattle.sub_io.proofs.DeviceLemmas.{AppendsPrefix-first, AppendsPrefix-second}
use Rattle.sub_io.specs.Device.{AppendsPrefix, CountRisesIf, failed}
use Rattle.sub_io.specs.Reading.{IfKnown}
use Rattle.stl_rows.specs.EveryFault.{faults, load_fault}
use Rattle.stl_rows.specs.Judged.{JudgedValue}
use Rattle.stl_rows.specs.Loading.{LawOfLoading, loaded_programme}
use Rattle.stl_rows.specs.Programme.{ProgrammeValue}
use Rattle.stl_rows.proofs.LoadingLaw.{loaded_file_has_no_faults}
use Rattle.stl_rows.specs.declared.fault.LoadFault.{LoadFault}
use Rattle.stl_rows.specs.declared.fault.LoadFaultKind.TheVariants as load
use Rattle.stl_rows.specs.declared.layout.Drawing.{Drawing}
use Rattle.sub_plan.specs.Options.{OptionsValue}
use Rattle.sub_check.specs.CheckedFiles.{all_judged_events, all_events_of, answer_unless_fault}
use Rattle.sub_check.specs.CheckedFiles.{first_answer}
use Rattle.sub_rules.specs.Events.{first_reported_fault}
use Rattle.sub_check.proofs.FilesLemmas.{accepted-described_files_load, accepted-loads_by}
use Rattle.sub_check.proofs.RuleReportedLemmas.{first_reported_breaks_rule}
use Rattle.sub_check.proofs.FirstReportedLemmas.{rule_fault_is_proved}
use Rattle.sub_rules.specs.declared.event.Event.TheVariants.{Ended, SkippedUntil, Reported, Trusted}
use Rattle.sub_rules.specs.Fault.{is_failure}
use Rattle.sub_checker.specs.declared.accepted.Accepted.{Accepted}
use Rattle.sub_rules.specs.declared.event.Event.{Event}
use Rattle.sub_rules.specs.declared.fault.CheckFault.{CheckFault}
use Rattle.sub_rules.specs.declared.fault.CheckFault.TheVariants as fault
use Rattle.sub_listing.specs.FirstPacket.{FirstNumber}
use Rattle.sub_listing.specs.DeviceCall.{Counts, SinkCall, SourceCall}
use Rattle.sub_answer.specs.EveryFault.{AnswersCheckAll, ListsAllEvents, PrintsMemoryLast}
use Rattle.sub_answer.specs.EveryFault.{ReportsBoth}
use Rattle.sub_answer.specs.FaultListing.{check_all_listing, last_listing}
use Rattle.sub_listing.specs.EventLines.{event_lines, max_fault_count, fault_count_of_events}
use Rattle.sub_listing.specs.EventLines.{subtitle_events}
use Rattle.sub_listing.specs.Faults.{kind_of_failure}
use Rattle.sub_listing.specs.Listing.{Listing, PrintsOrFails, followed}
use Rattle.sub_listing.specs.Printer.{PrinterValue, counted}
use Rattle.sub_listing.specs.FaultLine.{status_of}
use Rattle.sub_listing.specs.declared.status.Status.{Status}
use Rattle.sub_listing.specs.declared.status.Status.TheVariants.{Done, Fault, Refused}
use Rattle.sub_listing.proofs.PrintingLemmas.{printed-status}
use Rattle.sub_answer.proofs.BothFilesLemmas.{AcceptsExactly, exactly-accepted}
use Rattle.sub_answer.proofs.BothFilesLemmas.{exactly-is_accepted_within}
use Rattle.sub_answer.proofs.BothFilesLemmas.{pes-fails, status-reported, stl-fails}

abbrev sink : Option (List ℕ) → ℕ → Option (List ℕ) → ℕ → SinkCall
sink old old_count new new_count = record {
  old = old;
  new = new;
  old_count = old_count;
  new_count = new_count;
}

printed-after : (old mid new : Option (List ℕ)) (m n p : ℕ) (text : List ℕ) (listing : Listing)
    (status : Status)
    → Appends old mid text
    → n ≡ m
    → PrintsOrFails (sink mid n new p) listing status
    → PrintsOrFails (sink old m new p) (followed text listing) status
unfolding PrintsOrFails
printed-after old mid new m n p text listing status put same (inl (kept, whole, is)) =
    inl (kept ∙ same, Appends-trans old mid new text listing.text put whole, is)
printed-after old mid new m n p text listing status put same (inr (risen, part, is)) =
    inr (
      risen ∙ ap (λ x. x + 1) same,
      AppendsPrefix-second old mid new text listing.text put part,
      is,
    )

printed-cut : (old new : Option (List ℕ)) (m n : ℕ) (text : List ℕ) (listing : Listing)
    → AppendsPrefix old new text
    → n ≡ m + 1
    → PrintsOrFails (sink old m new n) (followed text listing) Fault
unfolding PrintsOrFails
printed-cut old new m n text listing part risen =
    inr (risen, AppendsPrefix-first old new text listing.text part, refl)

none-first : (events : List Event)
    → (min (fault_count_of_events events) max_fault_count == 0) ≡ is_none
    (first_reported_fault events)
none-first [] = refl
none-first (Reported f ∷ events) = grind (arith, nat_tests)
none-first (Ended rule frame ∷ events) = let rest = none-first events in grind (arith, nat_tests)
none-first (SkippedUntil f ∷ events) = let rest = none-first events in grind (arith, nat_tests)
none-first (Trusted from to ∷ events) = let rest = none-first events in grind (arith, nat_tests)

abbrev status_by_first_fault : Option CheckFault → Status
status_by_first_fault None = Done
status_by_first_fault (Some f) = Refused

last-status : (first n : ℕ) (a : Accepted) (o : Option CheckFault) → (n == 0) ≡ is_none o
    → (last_listing first n (Ok (Some a))).status ≡ status_by_first_fault o
last-status first n a None is = rw is refl
last-status first n a (Some f) is = rw is refl

read-status : (first : ℕ) (events : List Event) (a : Accepted)
    → (check_all_listing first events (Ok (Some a))).status ≡ status_by_first_fault
    (first_reported_fault events)
read-status first events a =
    last-status first (min (fault_count_of_events events) max_fault_count) a
    (first_reported_fault events)
    (none-first events)

never-fault : (o : Option CheckFault) → status_by_first_fault o ≢ Fault
never-fault None e = cc
never-fault (Some f) e = cc

answer-fails : (first : ℕ) (events : List Event) (answer : Result (Option Accepted) CheckFault)
    → IfErr answer (λ f. is_failure f ≡ true)
    → (check_all_listing first events answer).status ≡ Fault
    → failed is_failure answer ≡ true
answer-fails first events answer ended is = grind (arith, nat_tests, never-fault, read-status)

memory-last : (drawing : Drawing) (options : OptionsValue) (reported pes old new : Option (List ℕ))
    (first : ℕ) (events : List Event) (answer : Result (Option Accepted) CheckFault) (block : ℕ)
    → answer ≡ Err (fault.Subtitles (load_fault block load.Memory))
    → IfKnown reported (λ file. ListsAllEvents drawing options file pes events answer)
    → Appends old new (check_all_listing first events answer).text
    → PrintsMemoryLast drawing reported old new
memory-last drawing options reported pes old new first events answer block memory listed text = (
  first,
  events,
  block,
  rw memory at text,
  λ file heard.
      subst (ListsAllEvents drawing options file pes events) memory (listed file heard),
)

no_report_means_no_faults : (fs : List LoadFault) (more : List Event)
    → first_reported_fault (subtitle_events fs ++ more) ≡ None
    → fs ≡ []
no_report_means_no_faults [] more none = refl
no_report_means_no_faults (f ∷ fs) more none = cc

done-exactly :
    (drawing : Drawing) (options : OptionsValue) (file bytes : List ℕ) (pes : Option (List ℕ))
    (first : ℕ) (events : List Event) (answer : Result (Option Accepted) CheckFault)
    (Means : Type 0)
    → pes ≡ Some bytes
    → (check_all_listing first events answer).status ≢ Fault
    → IfErr answer (λ f. is_failure f ≡ true)
    → ListsAllEvents drawing options file pes events answer
    → ((a : Accepted) → answer ≡ Ok (Some a)
    → AcceptsExactly drawing file (first_answer events a) Means)
    → (Means → (programme : ProgrammeValue) × (loaded_programme drawing file ≡ Ok programme))
    → ((check_all_listing first events answer).status ≡ Done) ↔ Means
done-exactly drawing options file bytes pes first events (Err f) Means known runs ended are exact
    described_files_load =
    absurd (runs (ap (λ b. status_of (kind_of_failure b)) ended))
done-exactly drawing options file bytes pes first events (Ok None) Means known runs ended are exact
    described_files_load = (
      λ done. cc,
      λ is.
          let given = described_files_load is in
          let none : events ≡ [] =
          are.0 ∙ ap subtitle_events (loaded_file_has_no_faults drawing file given.0 given.1) in
          let some : 0 < 0 = rw none at are.1 in
          absurd (omega (arith, some)),
    )
done-exactly drawing options file bytes pes first events (Ok (Some a)) Means known runs ended are
    exact described_files_load =
    rw (read-status first events a) (go (first_reported_fault events) refl (exact a refl))
  where
    go : (o : Option CheckFault) → first_reported_fault events ≡ o
        → AcceptsExactly drawing file (answer_unless_fault o a) Means
        → (status_by_first_fault o ≡ Done) ↔ Means
    go None is exactly = (
      λ done.
          let none = no_report_means_no_faults (faults drawing file) are.more
          (ap first_reported_fault (sym are.both) ∙
          is) in
          (exactly.exactly are.judged.programme (are.by.whole none).0 refl refl).0 refl,
      λ is. refl,
    )
    go (Some f) is exactly = (
      λ done. cc,
      λ accepted.
          let given = described_files_load accepted in
          let none = loaded_file_has_no_faults drawing file given.0 given.1 in
          let whole = are.by.whole none in
          let p = are.judged.programme in
          let alone : events ≡ are.more =
          are.both ∙ ap (λ fs. subtitle_events fs ++ are.more) none in
          let reported : all_events_of p options bytes ≡ events =
          sym (ap (λ (j : JudgedValue). all_judged_events j options bytes) whole.1)
          ∙ sym (are.listed bytes known).0
          ∙ sym alone in
          let own = rule_fault_is_proved f (first_reported_breaks_rule p options bytes f
          (ap first_reported_fault reported ∙ is)) in
          let ok =
          (exactly.exactly p whole.0 own.is_no_subtitle_fault own.is_no_read_failure).1 accepted in
          cc,
    )

-- If the sink failed while events were reported, the printed text is a prefix of the complete
-- output of `check --all`.
pub answers_cut :
    (drawing : Drawing) (options : OptionsValue) (stl pes : SourceCall) (first : FirstNumber)
    (Untouched : Type 0) (old new : PrinterValue) (given : Result (Option Accepted) CheckFault)
    → ReportsBoth drawing options stl pes first Untouched old new given
    → new.failed ≡ true
    → AnswersCheckAll drawing options stl pes first Untouched
    (sink old.contents old.count new.contents new.count) Fault
answers_cut drawing options stl pes first Untouched old new given t failing =
    grind (arith, nat_tests, printed-cut)

-- If all events were reported, the complete output of `check --all` was printed, or the sink failed
-- at the last line and received a prefix of it.
pub answers_end :
    (drawing : Drawing) (options : OptionsValue) (stl pes : SourceCall) (first : FirstNumber)
    (Untouched : Type 0) (old new : PrinterValue) (given : Result (Option Accepted) CheckFault)
    (end : Option (List ℕ)) (end_count : ℕ) (status : Status)
    → LawOfLoading
    → ReportsBoth drawing options stl pes first Untouched old new given
    → new.failed ≡ false
    → old.fault_count ≡ 0
    → PrintsOrFails (sink new.contents new.count end end_count)
    (last_listing new.first new.fault_count given) status
    → AnswersCheckAll drawing options stl pes first Untouched
    (sink old.contents old.count end end_count) status
unfolding counted
answers_end
    drawing options stl pes first Untouched old new given end end_count status loading t holds none
    last =
    let refused : new.fault_count ≡ min (fault_count_of_events t.events) max_fault_count =
    t.prints.counts_faults holds ∙ ap
    (λ n. min (n + fault_count_of_events t.events) max_fault_count) none
    ∙ (let none_before : 0 + fault_count_of_events t.events ≡ fault_count_of_events t.events = omega
    arith in
    ap (λ n. min n max_fault_count) none_before) in
    let line : PrintsOrFails (sink new.contents new.count end end_count)
    (last_listing t.number (min (fault_count_of_events t.events) max_fault_count) t.answer) status =
    rw (sym refused, t.same holds, sym t.prints.keeps_first_number) last in
    let printed =
    printed-after old.contents new.contents end old.count new.count end_count
    (event_lines t.number t.events)
    (last_listing t.number (min (fault_count_of_events t.events) max_fault_count) t.answer) status
    (t.prints.put holds)
    (t.prints.keeps_failure_count holds) line in
    record {
      events = t.events;
      answer = t.answer;
      number = t.number;
      starts = t.starts;
      printed = printed;
      sources = t.sources;
      listed = t.listed;
      no_transmission_is_judged = λ other. t.no_transmission_is_judged holds;
      checked = λ other. t.checked holds;
      ends = status-reported drawing options stl pes (sink old.contents old.count end end_count)
          (check_all_listing t.number t.events t.answer) status t.answer _ printed t.sources
          (λ none at_once runs file heard bytes known.
          done-exactly drawing options file bytes pes.known t.number t.events t.answer _ known runs
          t.ended
          (t.listed file heard)
          (λ a is.
          exactly-accepted drawing options file bytes (first_answer t.events a) loading
          (λ p loads. ((rw is at (t.checked holds file heard bytes known)) p loads).1 none at_once))
          (accepted-described_files_load drawing options file bytes loading))
          (λ runs file heard bytes known.
          done-exactly drawing options file bytes pes.known t.number t.events t.answer _ known runs
          t.ended
          (t.listed file heard)
          (λ a is.
          exactly-is_accepted_within drawing options file bytes (first_answer t.events a) loading
          (λ p loads. ((rw is at (t.checked holds file heard bytes known)) p loads).0))
          (accepted-loads_by drawing options file bytes loading))
          (answer-fails t.number t.events t.answer t.ended)
          (λ block memory text.
          memory-last drawing options stl.known pes.known old.contents end t.number t.events
          t.answer
          block memory t.listed text);
    }

pub answers_at :
    (drawing : Drawing) (options : OptionsValue) (stl pes : SourceCall) (first : FirstNumber)
    (Untouched : Type 0) (old mid new : Option (List ℕ)) (m n p : ℕ) (status : Status)
    → AnswersCheckAll drawing options stl pes first Untouched (sink old m mid n) status
    → new ≡ mid
    → p ≡ n
    → AnswersCheckAll drawing options stl pes first Untouched (sink old m new p) status
answers_at drawing options stl pes first Untouched old mid new m n p status answers same counted =
    rw (same, counted) answers

pub count_rises_only_with_fault : (b : Bool) (old new : ℕ) (status : Status)
    → CountRisesIf old b new
    → (b ≡ true → status ≢ Fault → ⊥)
    → Counts old status new
count_rises_only_with_fault true old new status rises is = grind (arith, is)
count_rises_only_with_fault false old new status rises is = grind (arith, nat_tests)

-- If each fault that passes the test `is_one` is a failure, an answer with such a fault has the
-- status `Fault`.
fault-status : (is_one : CheckFault → Bool)
    → ((f : CheckFault) → is_one f ≡ true → is_failure f ≡ true)
    → (first : ℕ) (events : List Event) (answer : Result (Option Accepted) CheckFault)
    → failed is_one answer ≡ true
    → (check_all_listing first events answer).status ≡ Fault
fault-status is_one fails first events (Ok a) is = absurd (true≢false (sym is))
fault-status is_one fails first events (Err f) is = ap (λ b. status_of (kind_of_failure b))
    (fails f is)

pub counts : (drawing : Drawing) (options : OptionsValue) (stl pes : SourceCall)
    (first : FirstNumber) (Untouched : Type 0) (out : SinkCall) (status : Status)
    → AnswersCheckAll drawing options stl pes first Untouched out status
    → Counts stl.old_count status stl.new_count × Counts pes.old_count status pes.new_count
counts drawing options stl pes first Untouched out status a =
    grind (
      arith,
      nat_tests,
      printed-status,
      count_rises_only_with_fault,
      fault-status,
      stl-fails,
      pes-fails,
    )
