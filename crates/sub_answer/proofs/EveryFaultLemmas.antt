-- The events of a subtitle file, and then those of a PES file, are reported to a printer, and these
-- events determine the result of the check.
use Rattle.std.proofs.lemmas.Bool.Decides.{nat_tests}
use Rattle.std.proofs.Common.{◌≡◌, ◌∙◌, ap, refl, sym, subst, arith, inl, inr, ℕ, ◌<◌, ◌≤◌}
use Rattle.std.proofs.Common.{List, [], ◌∷◌, take, length, Bool, true, false, Option}
use Rattle.std.proofs.Common.{Some, None, Result, Ok, Err, ◌++◌}
use Rattle.std.proofs.lemmas.Bool.{true≢false}
use Rattle.std.specs.Prelude.{◌⊎◌, ◌||◌, not, is_err, IfErr}
use Rattle.std.specs.List.{filter}
use Rattle.sub_io.specs.Device.{CountRisesIf}
use Rattle.sub_io.specs.Reading.{IfKnown}
use Rattle.sub_io.specs.Reporting.{Reports, ReportsInOrder, ReportsSome}
use Rattle.ttx_pes.specs.declared.fault.PesFault.TheVariants as pes_fault
use Rattle.stl_file.specs.declared.fault.StlFault.TheVariants as stl_fault
use Rattle.stl_rows.specs.EveryFault.{FailsReporting, ReportsFaults, ReportsSomeFileFaults}
use Rattle.stl_rows.specs.EveryFault.{RunsOutOfMemory}
use Rattle.stl_rows.specs.EveryFault.{faults}
use Rattle.stl_rows.specs.EveryFault.{is_reported_before, load_fault}
use Rattle.stl_rows.specs.Judged.{JudgedValue, JudgesFile, can_judge, known}
use Rattle.stl_rows.proofs.LoadingLaw.{loaded_file_has_no_faults}
use Rattle.stl_rows.specs.Fault.{is_load_read_failure, is_read_failure_kind}
use Rattle.stl_rows.specs.Loading.{loaded_programme}
use Rattle.stl_rows.specs.Programme.{ProgrammeValue}
use Rattle.stl_rows.specs.declared.fault.LoadFault.{LoadFault}
use Rattle.stl_rows.specs.declared.fault.LoadFaultKind.{LoadFaultKind}
use Rattle.stl_rows.specs.declared.fault.LoadFaultKind.TheVariants as load
use Rattle.stl_rows.specs.declared.layout.Drawing.{Drawing}
use Rattle.sub_plan.specs.Options.{OptionsValue}
use Rattle.sub_check.specs.CheckedFiles.{first_answer}
use Rattle.sub_rules.specs.Fault.{is_failure_kind}
use Rattle.sub_rules.specs.PesPackets.{FailsAtPesPacket}
use Rattle.sub_checker.specs.declared.accepted.Accepted.{Accepted}
use Rattle.sub_rules.specs.declared.event.Event.{Event}
use Rattle.sub_rules.specs.declared.fault.CheckFault.{CheckFault}
use Rattle.sub_rules.specs.declared.fault.CheckFault.TheVariants as fault
use Rattle.sub_listing.specs.FirstPacket.{FirstNumber}
use Rattle.sub_listing.specs.DeviceCall.{SourceCall}
use Rattle.sub_answer.specs.EveryFault.{ListsFaultsBefore, ListsPesEvents, FailsAtBlock}
use Rattle.sub_answer.specs.EveryFault.{IsCheckAnswer}
use Rattle.sub_answer.specs.EveryFault.{ListsBothFiles, ReportsBoth, ReportsPes, read_answer}
use Rattle.sub_listing.specs.EventLines.{max_fault_count, fault_count_of_events, subtitle_event}
use Rattle.sub_listing.specs.EventLines.{subtitle_events}
use Rattle.sub_listing.specs.Printer.{PrinterValue, PrintsEvent, PrintsEvents, can_fail}
use Rattle.sub_listing.proofs.PrinterLemmas.{prints-renumbered, prints-taken, prints-two}
use Rattle.sub_listing.proofs.PrinterLemmas.{reported_items_are_printed, continues_without_failure}
use Rattle.sub_answer.proofs.PesEventLemmas.{decided}

fault_count_of_events-subtitles : (fs : List LoadFault) → fault_count_of_events (subtitle_events fs)
    ≡ length fs
fault_count_of_events-subtitles [] = refl
fault_count_of_events-subtitles (f ∷ fs) = let rest = fault_count_of_events-subtitles fs in omega
    (arith, rest)

named : (f g : LoadFault)
    → (let r : Result (Option Accepted) CheckFault = Err (fault.Subtitles f) in r)
    ≡ Err (fault.Subtitles g)
    → f ≡ g
named f g is = cc

module _ {D : Type 0} (IsReported : D → LoadFault → D → Type 0) (value : D → PrinterValue)
    (one : (s t : D) (x : LoadFault) → IsReported s x t
    → PrintsEvent (value s) (subtitle_event x) (value t))
    (drawing : Drawing) (options : OptionsValue) (stl pes : SourceCall) (first : FirstNumber)
    (Untouched : Type 0) (old new : D)
    (goes : (value old).failed ≡ false) (few : (value old).fault_count ≤ max_fault_count)
    (untouched : Untouched) (pes_failure_count : CountRisesIf pes.old_count false pes.new_count)
  where
    abbrev printed : (items : List LoadFault) → Reports IsReported old new items
        → PrintsEvents (value old) (subtitle_events items) (value new)
    printed items reported = reported_items_are_printed IsReported value subtitle_event one old new
        items goes few
        reported

    loading_error_lists_faults : (block : ℕ) (kind : LoadFaultKind) (items : List LoadFault)
        → (value new).failed ≡ false
        → Reports IsReported old new items
        → CountRisesIf stl.old_count (is_read_failure_kind kind) stl.new_count
        → (is_read_failure_kind kind ≡ true → FailsAtBlock stl.known stl.left block)
        → is_failure_kind kind ≡ true
        → IfKnown stl.known (λ file.
        ListsFaultsBefore drawing file (subtitle_events items) block kind)
        → ReportsBoth drawing options stl pes first Untouched (value old) (value new)
        (Err (fault.Subtitles (load_fault block kind)))
    loading_error_lists_faults block kind items fault_free reported count fails ended are = record {
      events = subtitle_events items;
      answer = Err (fault.Subtitles (load_fault block kind));
      same = λ holds. refl;
      number = (value old).first;
      starts = λ is. cc;
      prints = printed items reported;
      sources = record {
        stl_failure_count = count;
        pes_failure_count = pes_failure_count;
        stl_failure_is_at_block = λ f is.
            subst (λ (g : LoadFault). is_load_read_failure g ≡ true → FailsAtBlock stl.known
            stl.left
            g.block)
            (named _ f is) fails;
        pes_failure_is_at_packet = λ index is. cc;
        before = λ is. untouched;
      };
      ended = ended;
      cut = λ failing. absurd (true≢false (sym failing ∙ fault_free));
      no_transmission_is_judged = λ holds is. cc;
      checked = λ holds file heard bytes known. tt;
      listed = are;
    }

    refused_memory_lists_faults : (block : ℕ)
        → (value new).failed ≡ false
        → ReportsSome IsReported old new
        → CountRisesIf stl.old_count (is_load_read_failure (load_fault block load.Memory))
        stl.new_count
        → IfKnown stl.known (λ file. RunsOutOfMemory drawing file IsReported old new block)
        → ReportsBoth drawing options stl pes first Untouched (value old) (value new)
        (Err (fault.Subtitles (load_fault block load.Memory)))
    refused_memory_lists_faults block fault_free some count wants =
        let items =
        decided (Reports IsReported old new) stl.known
        (λ file. filter (is_reported_before block) (faults drawing file)) some.items some.reported
        (λ file reported. (wants file reported).reported) in
        loading_error_lists_faults block load.Memory items.0 fault_free items.1 count
        (λ is. cc) refl
        (λ file reported. (ap subtitle_events (items.2 file reported), (wants file reported).ends))

    failed_read_lists_faults : (block : ℕ)
        → (value new).failed ≡ false
        → ReportsSome IsReported old new
        → CountRisesIf stl.old_count
        (is_load_read_failure (load_fault block (load.File stl_fault.Read)))
        stl.new_count
        → FailsReporting drawing stl.known stl.left IsReported old new block
        → ReportsBoth drawing options stl pes first Untouched (value old) (value new)
        (Err (fault.Subtitles (load_fault block (load.File stl_fault.Read))))
    failed_read_lists_faults block fault_free some count f =
        let items =
        decided (Reports IsReported old new) stl.known
        (λ file. filter (is_reported_before block) (faults drawing file)) some.items some.reported
        f.reported in
        loading_error_lists_faults block (load.File stl_fault.Read) items.0 fault_free items.1 count
        (λ is. record { bytes = f.bytes; consumed = f.consumed; block_eq = f.block_eq }) refl
        (λ file reported. ap subtitle_events (items.2 file reported))

    pub loading_error_is_reported : (block : ℕ) (kind : LoadFaultKind)
        → (value new).failed ≡ false
        → (kind ≡ load.Memory) ⊎ (kind ≡ load.File stl_fault.Read)
        → ReportsSome IsReported old new
        → CountRisesIf stl.old_count (is_load_read_failure (load_fault block kind)) stl.new_count
        → IfKnown stl.known (λ file.
        kind ≡ load.Memory → RunsOutOfMemory drawing file IsReported old new block)
        → (is_load_read_failure (load_fault block kind) ≡ true
        → FailsReporting drawing stl.known stl.left IsReported old new block)
        → ReportsBoth drawing options stl pes first Untouched (value old) (value new)
        (Err (fault.Subtitles (load_fault block kind)))
    loading_error_is_reported block kind fault_free kinds some count memory read =
        grind (arith, nat_tests, refused_memory_lists_faults, failed_read_lists_faults)

    prints-faults : (items : List LoadFault) (stopped b : Bool)
        → (value new).failed ≡ b
        → (b ≡ false → stopped ≡ false)
        → ReportsFaults IsReported old new stopped items
        → PrintsEvents (value old) (subtitle_events items) (value new) × (0 < length items)
    prints-faults items stopped b is fault_free reported =
        let p = reported.prefix in
        let least : 0 < p.0 = p.1 in
        let most : p.0 ≤ length items = p.2 in
        (go b is fault_free, omega (arith, least, most))
      where
        go : (b : Bool) → (value new).failed ≡ b → (b ≡ false → stopped ≡ false)
            → PrintsEvents (value old) (subtitle_events items) (value new)
        go false is fault_free = printed items (reported.all (fault_free refl))
        go true is fault_free =
            let p = reported.prefix in
            prints-taken subtitle_event (value old) (value new) p.0 items is
            (printed (take p.0 items) p.3)

    pub refused_subtitles_are_reported : (stopped : Bool)
        → ((value new).failed ≡ false → (value new).count ≡ (value old).count → stopped ≡ false)
        → ReportsSomeFileFaults IsReported old new
        → IfKnown stl.known (λ file. ReportsFaults IsReported old new stopped (faults drawing file))
        → IfKnown stl.known (λ file. (stopped ≡ true) ⊎ (can_judge drawing file ≡ false))
        → CountRisesIf stl.old_count false stl.new_count
        → ReportsBoth drawing options stl pes first Untouched (value old) (value new) (Ok None)
    refused_subtitles_are_reported stopped fault_free some reported
        no_transmission_is_judged count =
        let here = printed some.faults some.reported in
        let items =
        decided (λ (fs : List LoadFault). PrintsEvents (value old) (subtitle_events fs) (value new)
        × (0 < length fs)) stl.known (faults drawing) some.faults (here, some.some)
        (λ file heard. prints-faults (faults drawing file) stopped (value new).failed refl
        (λ holds. fault_free holds (here.keeps_failure_count holds)) (reported file heard)) in
        record {
          events = subtitle_events items.0;
          answer = Ok None;
          same = λ holds. refl;
          number = (value old).first;
          starts = λ is. cc;
          prints = items.1.0;
          sources = record {
            stl_failure_count = count;
            pes_failure_count = pes_failure_count;
            stl_failure_is_at_block = λ f is. cc;
            pes_failure_is_at_packet = λ index is. cc;
            before = λ is. untouched;
          };
          ended = tt;
          cut = λ failing. refl;
          no_transmission_is_judged = λ holds is file heard. elim (no_transmission_is_judged file
              heard) [
                | inl stopping ↦
                    absurd (true≢false (sym stopping ∙ fault_free holds
                    (here.keeps_failure_count holds)))
                | inr unread ↦ unread
              ];
          checked = λ holds file heard bytes known. tt;
          listed = λ file heard. (
            ap subtitle_events (items.2 file heard),
            rw (fault_count_of_events-subtitles items.0)
                items.1.1,
          );
        }

    pub unreported_faults_are_reported : (fs : List LoadFault)
        → (value new).failed ≡ true
        → Reports IsReported old new fs
        → 0 < length fs
        → IfKnown stl.known (λ file. fs ≡ faults drawing file)
        → CountRisesIf stl.old_count false stl.new_count
        → ReportsBoth drawing options stl pes first Untouched (value old) (value new) (Ok None)
    unreported_faults_are_reported fs failing reported some are count = record {
      events = subtitle_events fs;
      answer = Ok None;
      same = λ holds. refl;
      number = (value old).first;
      starts = λ is. cc;
      prints = printed fs reported;
      sources = record {
        stl_failure_count = count;
        pes_failure_count = pes_failure_count;
        stl_failure_is_at_block = λ f is. cc;
        pes_failure_is_at_packet = λ index is. cc;
        before = λ is. untouched;
      };
      ended = tt;
      cut = λ _. refl;
      no_transmission_is_judged = λ holds. absurd (true≢false (sym failing ∙ holds));
      checked = λ holds file heard bytes known. tt;
      listed = λ file heard.
          (ap subtitle_events (are file heard), rw (fault_count_of_events-subtitles fs) some);
    }

pub stopped_printing_has_failed : (old new : PrinterValue) (events : List Event)
    → PrintsEvents old events new
    → old.count < 0xFFFF_FFFF_FFFF_FFFF
    → (new.failed || not (can_fail new.count)) ≡ true
    → new.failed ≡ true
stopped_printing_has_failed old new events prints room stopped = grind
    (arith, nat_tests, continues_without_failure)

pub reported_faults_were_printed : {D : Type 0} (IsReported : D → LoadFault → D → Type 0)
    (has_pending : D → Bool)
    (old new : D) (fs : List LoadFault)
    → Reports IsReported old new fs
    → has_pending old ≡ false
    → has_pending new ≡ true
    → 0 < length fs
reported_faults_were_printed IsReported has_pending old new [] reported still pending =
    absurd (true≢false (sym pending ∙ ap has_pending reported.one_by_one ∙ still))
reported_faults_were_printed IsReported has_pending old new (f ∷ fs) reported still pending = omega
    arith

pub reported_faults_are_flushed : {D : Type 0} (IsReported : D → LoadFault → D → Type 0)
    (has_pending : D → Bool)
    (buffered : D → ℕ)
    (one : (s t : D) (f : LoadFault) → IsReported s f t → has_pending t ≡ false → buffered t ≡ 0)
    (old new : D) (fs : List LoadFault)
    → (has_pending old ≡ false → buffered old ≡ 0)
    → ReportsInOrder IsReported old new fs
    → has_pending new ≡ false
    → buffered new ≡ 0
reported_faults_are_flushed IsReported has_pending buffered one old new [] holds reported =
    subst (λ d. has_pending d ≡ false → buffered d ≡ 0) (sym reported) holds
reported_faults_are_flushed IsReported has_pending buffered one old new (f ∷ fs) holds
    (mid, first, rest) =
    reported_faults_are_flushed IsReported has_pending buffered one mid new fs (one old mid f first)
    rest

pub error_result_satisfies : {X E : Type 0} {Q : Type 0} (r : Result X E) → is_err r ≡ true → IfErr
    r (λ _. Q) → Q
error_result_satisfies (Ok x) is holds = absurd (true≢false (sym is))
error_result_satisfies (Err e) is holds = holds

module _ (drawing : Drawing) (options : OptionsValue) (stl pes : SourceCall) (first : FirstNumber)
    (Untouched : Type 0) (old mid new : PrinterValue) (judged : JudgedValue)
    (fs : List LoadFault)
    (goes : mid.failed ≡ false)
    (before : PrintsEvents old (subtitle_events fs) mid)
    (stl_failure_count : CountRisesIf stl.old_count false stl.new_count)
    (by : IfKnown stl.known (λ file. JudgesFile drawing file judged))
    (are : IfKnown stl.known (λ file. fs ≡ faults drawing file)) where
  both_event_lists_are_printed : (number : ℕ) (events : List Event)
      → PrintsEvents (record mid { first = number }) events new
      → PrintsEvents (record old { first = number }) (subtitle_events fs ++ events) new
  both_event_lists_are_printed number events more =
      prints-two (record old { first = number }) (record mid { first = number }) new
      (subtitle_events fs) events (prints-renumbered number old mid fs before) goes more

  both_event_lists_are_expected : (events : List Event) (answer : Result Accepted ℕ)
      → IfKnown pes.known (λ bytes. ListsPesEvents judged options bytes events answer)
      → IfKnown stl.known (λ file.
      ListsBothFiles drawing options file pes.known (subtitle_events fs ++ events) answer)
  both_event_lists_are_expected events answer listed file heard = record {
    judged = judged;
    by = by file heard;
    more = events;
    both = ap (λ gs. subtitle_events gs ++ events) (are file heard);
    listed = listed;
  }

  -- If the subtitle file contains a programme, it has no events, so the events of the PES file
  -- determine the answer of `check`.
  verdict : (events : List Event) (a : Accepted)
      → IfKnown pes.known (λ bytes.
      (programme : ProgrammeValue)
      → judged ≡ known programme
      → IsCheckAnswer programme options bytes (first_answer events a))
      → IfKnown stl.known (λ file.
      IfKnown pes.known (λ bytes.
      (programme : ProgrammeValue)
      → loaded_programme drawing file ≡ Ok programme
      → IsCheckAnswer programme options bytes (first_answer (subtitle_events fs ++ events) a)))
  verdict events a checked file heard bytes reported programme loads =
      let none = loaded_file_has_no_faults drawing file programme loads in
      let whole = (by file heard).whole none in
      let one : judged.programme ≡ programme = let both = sym whole.0 ∙ loads in cc
      in
      let nothing : fs ≡ [] = are file heard ∙ none in
      subst (λ gs. IsCheckAnswer programme options bytes
      (first_answer (subtitle_events gs ++ events) a))
      (sym nothing) (checked bytes reported programme (whole.1 ∙ ap known one))

  pub judged_transmission_is_reported : (given : Result (Option Accepted) CheckFault)
      → ReportsPes judged options pes first mid new given
      → ReportsBoth drawing options stl pes first Untouched old new given
  judged_transmission_is_reported given t = go t.answer refl
    where
      go : (r : Result Accepted ℕ) → t.answer ≡ r
          → ReportsBoth drawing options stl pes first Untouched old new given
      go (Ok a) is = record {
        events = subtitle_events fs ++ t.events;
        answer = Ok (Some a);
        same = λ holds. ap read_answer (sym is) ∙ t.same holds;
        number = t.number;
        starts = λ own. t.starts;
        prints = both_event_lists_are_printed t.number t.events t.prints;
        sources = record {
          stl_failure_count = stl_failure_count;
          pes_failure_count = rw is at t.count;
          stl_failure_is_at_block = λ f e. cc;
          pes_failure_is_at_packet = λ index e. cc;
          before = λ e. cc;
        };
        ended = tt;
        cut = λ failing. refl;
        no_transmission_is_judged = λ holds e. cc;
        checked = λ holds.
            verdict t.events a
            (λ bytes reported programme is_known.
            t.checked holds bytes reported programme a is_known is);
        listed = both_event_lists_are_expected t.events (Ok a) (λ bytes reported. rw is at
            (t.listed bytes reported));
      }
      go (Err n) is = record {
        events = subtitle_events fs ++ t.events;
        answer = Err (fault.Pes n pes_fault.Read);
        same = λ holds. ap read_answer (sym is) ∙ t.same holds;
        number = t.number;
        starts = λ own. t.starts;
        prints = both_event_lists_are_printed t.number t.events t.prints;
        sources = record {
          stl_failure_count = stl_failure_count;
          pes_failure_count = rw is at t.count;
          stl_failure_is_at_block = λ f e. cc;
          pes_failure_is_at_packet = λ index e.
              let at : n ≡ index = cc in
              subst (λ (m : ℕ). FailsAtPesPacket m pes.known pes.left) at (t.read n is);
          before = λ e. cc;
        };
        ended = refl;
        cut = λ failing. let ok = rw is at (t.cut failing) in cc;
        no_transmission_is_judged = λ holds e. cc;
        checked = λ holds file heard bytes reported. tt;
        listed = both_event_lists_are_expected t.events (Err n)
            (λ bytes reported. rw is at (t.listed bytes reported));
      }
