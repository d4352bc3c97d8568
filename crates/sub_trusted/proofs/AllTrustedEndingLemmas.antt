-- After the steps at the end of a frame, each range of frames that could be trusted was reported as
-- trusted from a header that erases the page on, or can still be reported. If trusted frames are
-- reported at the end of the file, a range that can still be reported is among them.
use Rattle.std.proofs.lemmas.Bool.Decides.{nat_tests}
use Rattle.std.proofs.Common.{◌≡◌, ℕ, suc, ◌+◌, ◌-◌, ◌<◌, ◌≤◌, inl, inr, Bool, true, false}
use Rattle.std.proofs.Common.{◌||◌, List, [], ◌∷◌, ◌++◌, length, map, Option, Some, None, is_some}
use Rattle.std.proofs.Common.{not, refl, sym, ap, ◌∙◌, arith, le_refl, Contains}
use Rattle.std.proofs.Common.{if◌then◌else◌, unwrap_or, is_none, subst}
use Rattle.std.proofs.lemmas.Bool.{cases_lt, true≢false}
use Rattle.std.proofs.lemmas.Option.{none-some}
use Rattle.std.specs.List.{list_any}
use Rattle.ttx_page.specs.PacketKind.{kind}
use Rattle.ttx_page.specs.Span.{has_text_beginning}
use Rattle.sub_rules.specs.Events.{previous_end_frame, events_at_end, first_header_events}
use Rattle.sub_rules.specs.Events.{active_faults_at}
use Rattle.sub_rules.specs.Events.{active_faults_before}
use Rattle.sub_rules.specs.FrameRules.{Criteria, UnreadReason, frame_at, packets_of_frame}
use Rattle.sub_rules.specs.PesPacketEvents.{closing_events_of_pes_packets, steps_at_end}
use Rattle.sub_rules.specs.PesPacketEvents.{steps_of_closing}
use Rattle.sub_rules.specs.PesPacketEvents.{steps_of_ending}
use Rattle.sub_rules.specs.Transmission.{Transmission}
use Rattle.sub_rules.specs.Trusted.CheckStep.{AtPes, Closes, Ends, Emits}
use Rattle.sub_rules.specs.declared.event.Event.{Event}
use Rattle.sub_rules.specs.declared.event.Event.TheVariants.{Trusted}
use Rattle.sub_trusted.proofs.TrustedEndingLemmas.{ending}
use Rattle.sub_trusted.proofs.TrackerStateLemmas.{HasEndedFrames, HasBegunNextFrame}
use Rattle.sub_trusted.proofs.TrackerStateLemmas.{begun_frame_continues_after_events}
use Rattle.sub_trusted.proofs.TrackerStateLemmas.{run_continues_or_begins}
use Rattle.sub_trusted.proofs.TrackerStateLemmas.{run_starts_by_last_frame}
use Rattle.sub_trusted.proofs.TrackerStateLemmas.{no_faults_before}
use Rattle.sub_trusted.proofs.TrackerStateLemmas.{tracked_run_has_its_facts}
use Rattle.sub_trusted.proofs.TrackerStateLemmas.{correct_frame_continues_or_begins}
use Rattle.sub_trusted.proofs.FrameEndStateLemmas.{IsWrongSince, ChecksFrameEnd}
use Rattle.sub_trusted.proofs.FrameEndStateLemmas.{end_steps_are_followed}
use Rattle.sub_trusted.proofs.AllTrustedStretchLemmas.{Fits, frame_before_is_an_end}
use Rattle.sub_trusted.proofs.AllTrustedStretchLemmas.{own_frame_is_an_end}
use Rattle.sub_trusted.proofs.LateInvalidationLemmas.{end_events_invalidate_run}
use Rattle.sub_trusted.proofs.LateInvalidationLemmas.{header_fault_invalidates_nothing}
use Rattle.sub_trusted.proofs.AllTrustedLeadLemmas.{IsReported, LeadsToReportOfRun}
use Rattle.sub_trusted.proofs.AllTrustedLeadLemmas.{LeadsToReportOfRun-append}
use Rattle.sub_trusted.proofs.AllTrustedLeadLemmas.{LeadsToReportOfRun-both}
use Rattle.sub_trusted.proofs.AllTrustedLeadLemmas.{LeadsToReportOfRun-cons}
use Rattle.sub_trusted.proofs.AllTrustedLeadLemmas.{LeadsToReportOfRun-nil}
use Rattle.sub_trusted.proofs.AllTrustedLeadLemmas.{trusted_frames_contain_run}
use Rattle.sub_trusted.proofs.AllTrustedLeadLemmas.{report_is_in_left_events}
use Rattle.sub_trusted.proofs.EmittedStepLemmas.{AreEmitted, first_invalidated_frame}
use Rattle.sub_trusted.proofs.EmittedStepLemmas.{is_order_fault}
use Rattle.sub_trusted.proofs.EmittedStepLemmas.{kept_run_was_valid}
use Rattle.sub_trusted.proofs.EmittedStepLemmas.{emits_steps_emit_events}
use Rattle.sub_trusted.proofs.AllTrustedKeptLemmas.{FollowsRange}
use Rattle.sub_trusted.proofs.AllTrustedKeptLemmas.{invalidation_reports_trusted_frames}
use Rattle.sub_trusted.proofs.AllTrustedKeptLemmas.{following_continues_after_end}
use Rattle.sub_trusted.proofs.AllTrustedKeptLemmas.{end_events_have_no_order_fault}
use Rattle.sub_trusted.proofs.AllTrustedKeptLemmas.{invalidated_frame_is_after_stretch}
use Rattle.sub_trusted.proofs.AllTrustedKeptLemmas.{following_continues_after_events, top}
use Rattle.sub_trusted.proofs.AllTrustedKeptLemmas.{correct_frame_is_kept}
use Rattle.sub_trusted.proofs.AllTrustedKeptLemmas.{finished_frame_is_correct}
use Rattle.sub_trusted.proofs.AllTrustedStepLemmas.{FollowsInOpenFrame, FollowsAfterFrameEnds}
use Rattle.sub_trusted.proofs.AllTrustedStepLemmas.{Sending, no_invalidation_keeps_clean}
use Rattle.sub_trusted.proofs.AllTrustedStepLemmas.{run_frame_is_in_rising_part}
use Rattle.sub_trusted.proofs.AllTrustedStepLemmas.{later_frame_is_in_stretch}
use Rattle.sub_trusted.proofs.AllTrustedStepLemmas.{packet_events_lead_to_report}
use Rattle.sub_trusted.proofs.TrustedFrameLemmas.{rising_count_is_the_greatest, rising_frame_count}
use Rattle.sub_trusted.proofs.TrustedFrameLemmas.{rising_count_is_at_most_length}
use Rattle.sub_rules.proofs.TrustedLemmas.{history_after}
use Rattle.sub_rules.specs.Trusted.{CheckStep, back_frame_of, first_untrusted_at_close, is_emitted}
use Rattle.sub_rules.specs.Trusted.{last_packet_frame}
use Rattle.sub_rules.specs.Trusted.{late_run_start}
use Rattle.sub_rules.specs.Trusted.{stays_fault_free}
use Rattle.sub_laws.specs.CleanStretch.{IsEnd}
use Rattle.sub_trusted.specs.TrustedFrames.{rising_part}
use Rattle.sub_rules.specs.Trusted.{run_of}
use Rattle.sub_rules.specs.Trusted.{first_unfinished_of, has_no_active_faults, reports_order_fault}
use Rattle.sub_rules.specs.Trusted.{reports_no_event, events_reported_after}
use Rattle.sub_rules.specs.Trusted.{events_reported_at_step, trusted, first_finished_of}
use Rattle.std.specs.Option.{option_or}

run_is_reported_if_condition : (c : Bool) (run whole : Option ℕ) (x from w : ℕ) → c ≡ true → run ≡
    Some from
    → whole ≡ Some w
    → w < x
    → Contains (if c then trusted run whole x else []) (Trusted from (x - 1))
run_is_reported_if_condition c run whole x from w is run_eq first_finished_eq l =
    rw is (trusted_frames_contain_run run whole x from w run_eq first_finished_eq l)

header_events_have_no_order_fault : (g : Criteria) (frames : Transmission) (n : ℕ)
    → list_any is_order_fault (first_header_events g frames n) ≡ false
unfolding first_header_events is_order_fault reports_order_fault
header_events_have_no_order_fault g frames n = grind (arith, nat_tests)

closing_frame_is_after_stretch : (first_unfinished back : Option ℕ) (left : Bool) (last b : ℕ)
    → ((r : ℕ) → first_unfinished ≡ Some r → b < r)
    → (b < last → (r : ℕ) → back ≡ Some r → b < r)
    → b ≤ last
    → (left ≡ true → b < last)
    → b < unwrap_or first_unfinished (if left then unwrap_or back last else suc last)
closing_frame_is_after_stretch first_unfinished back left last b h k low unread = grind
    (arith, nat_tests)

correct_frame_is_in_run : (run whole : Option ℕ) (w : ℕ) → (if is_none run then None else whole) ≡
    Some w
    → (from : ℕ) × (run ≡ Some from) × (whole ≡ Some w)
correct_frame_is_in_run None whole w e = absurd (none-some w e)
correct_frame_is_in_run (Some from) whole w e = (from, refl, e)

run_starts_at_header : (run : Option ℕ) (has : Bool) (f : ℕ) → has ≡ true
    → ((from : ℕ) → run ≡ Some from → from ≤ f)
    → (from : ℕ) × (from ≤ f) × (option_or run (if has then Some f else None) ≡ Some from)
run_starts_at_header None has f header low = (f, le_refl f, rw header refl)
run_starts_at_header (Some from) has f header low = (from, low from refl, refl)

module _ (g : Criteria) (frames : Transmission) (a b i : ℕ)
    (fits : Fits g frames a b i) where
  abbrev FollowsStretch : ℕ → ℕ → List CheckStep → Type 0
  FollowsStretch n p t = FollowsRange g frames a b i fits n p t

  abbrev LeadsToReport : (List CheckStep → Type 0) → List CheckStep → List CheckStep → Type 0
  LeadsToReport S t ms = LeadsToReportOfRun (top g frames a b i fits) b S t ms

  abbrev HasReceivedAllPackets : ℕ → List CheckStep → Type 0
  HasReceivedAllPackets n t = FollowsInOpenFrame g frames a b i fits n (packets_of_frame frames n) t

  -- After the events at the end of frame n of the transmission, the range of frames can still be
  -- reported as trusted: no event so far invalidated a frame of the range from frame i on.
  record IsAfterEndEvents (n : ℕ) (t : List CheckStep) : Type 0 where
    follows : FollowsStretch n (frame_at frames n + 1) t
    clean : i ≤ n → stays_fault_free t ≡ true
    fault_free : i ≤ n → has_no_active_faults
        (active_faults_at g frames (suc n) (frame_at frames n)) ≡ true
    own : i ≡ n → b ≤ frame_at frames n → first_unfinished_of t ≡ None
    low : (from : ℕ) → run_of t ≡ Some from → from ≤ frame_at frames n

  abbrev has : ℕ → Bool
  has n = has_text_beginning g.watched.keeps (kind g.watched.page) (packets_of_frame frames n)

  abbrev fault_free_at : ℕ → Bool
  fault_free_at n = has_no_active_faults (active_faults_at g frames (suc n) (frame_at frames n))

  here : (n : ℕ) → i ≡ n → frame_at frames i ≡ frame_at frames n
  here n same = ap (frame_at frames) same

  no_fault_before_own_frame : (n from : ℕ) (t : List CheckStep) → n < length frames
      → HasBegunNextFrame g frames 0 n (packets_of_frame frames n) t
      → run_of t ≡ Some from
      → has_no_active_faults (active_faults_before g frames n (frame_at frames n)) ≡ true
  no_fault_before_own_frame n from t there opens is = grind
      (arith, nat_tests, tracked_run_has_its_facts, no_faults_before)

  previous_frame_is_an_end : (n : ℕ) (t : List CheckStep) → n < length frames →
      HasReceivedAllPackets n t → i < n
      → IsEnd (rising_part frames) n (frame_at frames n - 1)
  previous_frame_is_an_end n t there (opens, sending) l =
      let (from, low, run) = sending.follows.run l in
      let h = tracked_run_has_its_facts g frames 0 n (frame_at frames n) from t opens.keeps
      opens.rises run in
      let up = h.up in
      frame_before_is_an_end frames n (frame_at frames n) h.some (run_frame_is_in_rising_part g
      frames a b i fits n there h)
      (omega arith) (omega arith)

  end_steps_finish_frame : (n : ℕ) (t u v : List CheckStep) → n < length frames →
      HasReceivedAllPackets n t
      → ChecksFrameEnd g frames (suc n) (frame_at frames n) t u
      → IsWrongSince g frames n (frame_at frames n) u
      → AreEmitted u v (events_at_end g frames n (suc n) (frame_at frames n))
      → (i ≤ n → first_invalidated_frame u (events_at_end g frames n (suc n) (frame_at frames n)) ≡
      None)
      → IsAfterEndEvents n v
  end_steps_finish_frame n t u v there (opens, sending) looks backs so none =
      let f : ℕ = frame_at frames n in
      let es : List Event = events_at_end g frames n (suc n) f in
      record {
        follows =
            following_continues_after_events g frames a b i fits n (f + 1) u v es
            (following_continues_after_end g frames a b i fits n (suc n) f (f + 1) t u looks backs
            refl
            sending.follows
            (λ l. own_frame_is_an_end frames n (later_frame_is_in_stretch g frames a b i fits n
            (packets_of_frame frames n) t there (opens, sending) l).0)
            (previous_frame_is_an_end n t there (opens, sending))) so
            (λ l. end_events_have_no_order_fault (active_faults_before g frames n f)
            (previous_end_frame frames n f)
            (active_faults_at g frames (suc n) f) f)
            (λ l. none (omega arith));
        clean = λ l.
            so.clean_flags_agree
            ∙ no_invalidation_keeps_clean (stays_fault_free u) (first_invalidated_frame u es)
            (looks.clean_flags_agree ∙ sending.clean l)
            (none l);
        fault_free = λ l. elim (cases_lt i n) [
          | inl below ↦
              let (from, low, is) = sending.follows.run below in
              (end_events_invalidate_run u (previous_end_frame frames n f) f
              (active_faults_before g frames n f)
              (active_faults_at g frames (suc n) f)).fault_free (none l) (no_fault_before_own_frame
              n from t
              there opens is)
          | inr not_below ↦
              let at = here n (omega arith) in
              let low = fits.low in
              let high = fits.high in
              let in_it = fits.there in
              fits.ends (suc n) f (own_frame_is_an_end frames n (omega arith)) (omega arith)
              (omega arith)
        ];
        own = λ same past.
            let at = here n same in
            let high = fits.high in
            let in_it = fits.there in
            so.first_unfinished_eq
            ∙ looks.first_unfinished_eq
            ∙ fits.finished (suc n) f (own_frame_is_an_end frames n (omega arith)) (omega arith);
        low = λ from is.
            let run : run_of t ≡ Some from =
            sym looks.run_eq
            ∙ (kept_run_was_valid (run_of u) (first_invalidated_frame u es) from
            (sym so.run_eq ∙ is)).0 in
            let first = run_starts_by_last_frame g frames n from (opens.keeps.run from run) in
            let rise = (tracked_run_has_its_facts g frames 0 n f from t opens.keeps opens.rises
            run).up in
            omega arith;
      }

  end_steps_lead_to_finished_frame : (n : ℕ) (t : List CheckStep) → n < length frames →
      HasReceivedAllPackets n t
      → LeadsToReport (IsAfterEndEvents n) t (steps_at_end g frames n (suc n) (frame_at frames n))
  end_steps_lead_to_finished_frame n t there (opens, sending) =
      end_steps_are_followed g frames (LeadsToReport (IsAfterEndEvents n)) n (suc n)
      (frame_at frames n) t opens.keeps.at_once
      opens.keeps.plain
      (λ v step ms silent. LeadsToReportOfRun-cons (top g frames a b i fits) b (IsAfterEndEvents n)
      v step ms)
      (λ u looks backs. go u looks backs (first_invalidated_frame u es) refl)
    where
      es : List Event
      es = events_at_end g frames n (suc n) (frame_at frames n)

      frame_is_in_rising_part : i < n → (n < rising_frame_count frames) × (a ≤ frame_at frames n)
      frame_is_in_rising_part l =
          later_frame_is_in_stretch g frames a b i fits n (packets_of_frame frames n) t there
          (opens, sending) l

      go : (u : List CheckStep) → ChecksFrameEnd g frames (suc n) (frame_at frames n) t u
          → IsWrongSince g frames n (frame_at frames n) u
          → (o : Option ℕ) → first_invalidated_frame u es ≡ o
          → LeadsToReport (IsAfterEndEvents n) u (map Emits es)
      go u looks backs None is =
          inr
          (end_steps_finish_frame n t u (history_after u (map Emits es)) there (opens, sending)
          looks backs
          (emits_steps_emit_events u es) (λ l. is))
      go u looks backs (Some x) is = elim (cases_lt i n) [
        | inl l ↦
            let both = frame_is_in_rising_part l in
            invalidation_reports_trusted_frames g frames a b i fits n (frame_at frames n + 1) u es x
            (following_continues_after_end g frames a b i fits n (suc n) (frame_at frames n)
            (frame_at frames n + 1) t u looks backs refl sending.follows
            (λ below. own_frame_is_an_end frames n (frame_is_in_rising_part below).0)
            (previous_frame_is_an_end n t there (opens, sending))) l is
            (invalidated_frame_is_after_stretch g frames a b i fits n (suc n) (frame_at frames n) x
            t u looks backs
            (omega arith) (own_frame_is_an_end frames n both.0) (previous_frame_is_an_end n t there
            (opens, sending) l)
            both.1 is) (IsAfterEndEvents n)
        | inr not_below ↦
            inr
            (end_steps_finish_frame n t u (history_after u (map Emits es)) there (opens, sending)
            looks backs
            (emits_steps_emit_events u es)
            (λ l.
            let at = here n (omega arith) in
            let low = fits.low in
            let high = fits.high in
            let in_it = fits.there in
            (end_events_invalidate_run u (previous_end_frame frames n (frame_at frames n))
            (frame_at frames n)
            (active_faults_before g frames n (frame_at frames n))
            (active_faults_at g frames (suc n) (frame_at frames n))).calm
            (fits.ends (suc n) (frame_at frames n) (own_frame_is_an_end frames n (omega arith))
            (omega arith)
            (omega arith))))
      ]

  ending_frame_follows_stretch : (n : ℕ) (t : List CheckStep) → IsAfterEndEvents n t
      → FollowsStretch (suc n) (frame_at frames (suc n - 1) + 1)
      (Ends (frame_at frames n) (has n) (fault_free_at n) ∷ t)
  unfolding run_of first_finished_of last_packet_frame first_unfinished_of late_run_start
      back_frame_of
      stays_fault_free
      reports_order_fault
  ending_frame_follows_stretch n t fin =
      let f : ℕ = frame_at frames n in
      let back : f ≡ frame_at frames (suc n - 1) = ap (frame_at frames) (omega arith) in
      let high = fits.high in
      let whole : Option ℕ = if is_none (run_of t) then None else first_finished_of t in
      record {
        rises = λ l. fin.follows.rises (omega arith);
        run = λ l.
            let clean = fin.clean (omega arith) in
            let fault_free = fin.fault_free (omega arith) in
            elim (cases_lt i n) [
              | inl below ↦
                  let (from, low, is) = fin.follows.run below in
                  (from, low, rw (clean, fault_free, is) refl)
              | inr not_below ↦
                  let same : i ≡ n = omega arith in
                  let at = here n same in
                  let header : has n ≡ true =
                  subst (λ (k : ℕ). has k ≡ true) same fits.header in
                  let (from, low, is) = run_starts_at_header (run_of t) (has n) f header fin.low in
                  (from, omega arith, rw (clean, fault_free) is)
            ];
        low = λ from w is receiver_state.
            let (clean, none, was) =
            run_continues_or_begins (stays_fault_free t) (fault_free_at n) (run_of t) (has n) f from
            is in
            elim (correct_frame_continues_or_begins whole (first_unfinished_of t) f w
            receiver_state) [
              | inl before ↦
                  let (first, run, earlier) = correct_frame_is_in_run (run_of t)
                  (first_finished_of t) w before in
                  let under = fin.follows.low first w run earlier in
                  omega arith
              | inr (none_open, now) ↦ omega arith
            ];
        whole = λ l past. elim (cases_lt i n) [
          | inl below ↦
              let (w, under, is) = fin.follows.whole below (omega arith) in
              let (from, low, run) = fin.follows.run below in
              (w, under, correct_frame_is_kept whole (first_unfinished_of t) f w (rw run is))
          | inr not_below ↦
              let same : i ≡ n = omega arith in
              let at = here n same in
              let (w, under, is) =
              finished_frame_is_correct whole (first_unfinished_of t) f (fin.own same (omega arith))
              (λ w before.
              let (first, run, earlier) = correct_frame_is_in_run (run_of t) (first_finished_of t) w
              before in
              let low = fin.follows.low first w run earlier in
              omega arith) in
              (w, omega arith, is)
        ];
        first_unfinished = λ l past r is. elim (cases_lt i n) [
          | inl below ↦ fin.follows.first_unfinished below (omega arith) r is
          | inr not_below ↦
              absurd (none-some r (sym (fin.own (omega arith) (omega arith)) ∙ is))
        ];
        back = λ l past r is. elim (cases_lt i n) [
          | inl below ↦ fin.follows.back below (omega arith) r is
          | inr not_below ↦ let at = here n (omega arith) in absurd (omega arith)
        ];
      }

  pub ending_steps_lead_to_next_frame : (n : ℕ) (t : List CheckStep) → n < length frames →
      HasReceivedAllPackets n t
      → LeadsToReport (FollowsAfterFrameEnds g frames a b i fits (suc n)) t
      (steps_of_ending g frames n)
  ending_steps_lead_to_next_frame n t there (opens, sending) =
      let f : ℕ = frame_at frames n in
      let last : CheckStep = Ends f (has n) (fault_free_at n) in
      let q : ℕ = frame_at frames (suc n - 1) + 1 in
      LeadsToReportOfRun-both (top g frames a b i fits) b (HasEndedFrames g frames 0 (suc n))
      (FollowsStretch (suc n) q) t
      (steps_of_ending g frames n) (ending g frames 0 n t there opens).after
      (LeadsToReportOfRun-append (top g frames a b i fits) b (IsAfterEndEvents n)
      (FollowsStretch (suc n) q) t
      (map Emits (first_header_events g frames n) ++ steps_at_end g frames n (suc n) f) (last ∷ [])
      (LeadsToReportOfRun-append (top g frames a b i fits) b (HasReceivedAllPackets n)
      (IsAfterEndEvents n) t
      (map Emits (first_header_events g frames n)) (steps_at_end g frames n (suc n) f) header
      (λ u so. end_steps_lead_to_finished_frame n u there so))
      (λ v so.
      LeadsToReportOfRun-cons (top g frames a b i fits) b (FollowsStretch (suc n) q) v last []
      (LeadsToReportOfRun-nil (top g frames a b i fits) b (FollowsStretch (suc n) q) (last ∷ v)
      (ending_frame_follows_stretch n v so))))
    where
      header : LeadsToReport (HasReceivedAllPackets n) t
          (map Emits (first_header_events g frames n))
      header =
          let es : List Event = first_header_events g frames n in
          let none : first_invalidated_frame t es ≡ None = header_fault_invalidates_nothing t g
          frames n in
          let packets : List (List ℕ) = packets_of_frame frames n in
          LeadsToReportOfRun-both (top g frames a b i fits) b (HasBegunNextFrame g frames 0 n
          packets)
          (Sending g frames a b i fits n) t (map Emits es)
          (begun_frame_continues_after_events g frames 0 n packets packets t
          (history_after t (map Emits es)) es opens
          (emits_steps_emit_events t es) (λ fault_free kept. kept))
          (packet_events_lead_to_report g frames a b i fits n t es sending
          (header_events_have_no_order_fault g frames n)
          (λ same. none) (λ l x invalidation. absurd (none-some x (sym none ∙ invalidation))))

  pub closing_reported : (pes : ℕ) (t : List CheckStep)
      → FollowsAfterFrameEnds g frames a b i fits (length frames) t
      → (list_any is_emitted t
      || (g.any_unreliable || not
      (reports_no_event (closing_events_of_pes_packets g frames pes (length frames)))))
      ≡ true
      → IsReported (top g frames a b i fits) b
      (events_reported_after t (steps_of_closing g frames pes (length frames)))
  unfolding events_reported_after events_reported_at_step run_of first_finished_of last_packet_frame
      first_unfinished_of
      late_run_start back_frame_of stays_fault_free
      reports_order_fault
  closing_reported pes t (closed, follows) reported =
      let n : ℕ = length frames in
      let fit = rising_count_is_at_most_length frames in
      let in_it = fits.there in
      let (from, low, is) = follows.run (omega arith) in
      let run = closed.keeps.run from is in
      let most = rising_count_is_the_greatest frames n n (le_refl n) run.rises in
      let all : rising_frame_count frames ≡ n = omega arith in
      let back : frame_at frames (rising_frame_count frames - 1) ≡ frame_at frames (n - 1) =
      ap (λ (k : ℕ). frame_at frames (k - 1)) all in
      let here = closed.last (omega arith) in
      let high : b ≤ frame_at frames (n - 1) = let l = fits.last in omega arith in
      let (w, under, whole) = follows.whole (omega arith) (omega arith) in
      let es : List Event = closing_events_of_pes_packets g frames pes n in
      let more : Bool = g.any_unreliable || not (reports_no_event es) in
      let t0 : List CheckStep = AtPes pes ∷ t in
      let t1 : List CheckStep = Closes (is_some g.unread) more ∷ t0 in
      let x : ℕ = first_untrusted_at_close t (is_some g.unread) in
      let past : b < x =
      closing_frame_is_after_stretch (first_unfinished_of t) (back_frame_of t) (is_some g.unread)
      (last_packet_frame t) b
      (λ r first_unfinished. follows.first_unfinished (omega arith) (omega arith) r
      first_unfinished)
      (λ below r is. follows.back (omega arith) (omega arith) r is) (omega arith)
      (λ left.
      let (u, unread) = unread_bytes_have_a_reason g.unread left in
      let l = fits.unread u unread in
      omega arith) in
      report_is_in_left_events (top g frames a b i fits) b (events_reported_at_step t0
      (Closes (is_some g.unread) more))
      (events_reported_after t1 (map Emits es)) (
        from,
        x - 1,
        low,
        omega arith,
        run_is_reported_if_condition (list_any is_emitted t || more) (run_of t)
            (first_finished_of t)
            x from w reported
            is whole
            (omega arith),
      )
    where
      unread_bytes_have_a_reason : (o : Option UnreadReason) → is_some o ≡ true → (u : UnreadReason)
          × (o ≡ Some u)
      unread_bytes_have_a_reason None e = absurd (true≢false (sym e))
      unread_bytes_have_a_reason (Some u) e = (u, refl)
