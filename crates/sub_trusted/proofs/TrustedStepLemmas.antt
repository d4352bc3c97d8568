-- The trusted frames that the steps of a frame report belong to a run of fault-free frames and, if
-- `within` is not 0, the page is finished at the end of at least one of them.
use Rattle.std.proofs.lemmas.Bool.Decides.{nat_tests}
use Rattle.std.proofs.Common.{◌≡◌, ℕ, zero, suc, ◌+◌, ◌-◌, ◌<◌, ◌≤◌, inl, inr, true, false, not}
use Rattle.std.proofs.Common.{◌==◌, ◌&&◌, Bool, None, if◌then◌else◌, List, [], ◌∷◌, ◌++◌}
use Rattle.std.proofs.Common.{length, map, Some, refl, sym, ◌∙◌, subst, arith, le_refl}
use Rattle.std.proofs.Common.{unwrap_or, is_some, ap}
use Rattle.std.proofs.lemmas.Bool.{cases_lt}
use Rattle.std.proofs.lemmas.List.Elements.{All-cons, All-nil}
use Rattle.std.proofs.lemmas.Option.{same_Some}
use Rattle.std.specs.List.{list_any}
use Rattle.sub_rules.specs.Events.{previous_end_frame, events_at_end, gap_length, is_late}
use Rattle.sub_rules.specs.Events.{latest_frame}
use Rattle.sub_rules.specs.Events.{order_events, numbered_packet_events, active_faults_at}
use Rattle.sub_rules.specs.Events.{active_faults_before}
use Rattle.sub_rules.specs.Events.{first_unfinished_before, unread_fault}
use Rattle.sub_rules.specs.FrameRules.{Criteria, UnreadReason, end_frame, frame_at, packets_before}
use Rattle.sub_rules.specs.PesPacketEvents.{needs_back_steps, steps_at_end, steps_before}
use Rattle.sub_rules.specs.PesPacketEvents.{steps_of_arrival}
use Rattle.sub_rules.specs.PesPacketEvents.{steps_of_gap}
use Rattle.sub_rules.specs.Transmission.{Transmission}
use Rattle.sub_rules.specs.Trusted.CheckStep.{Begins, GoesBack, Emits}
use Rattle.sub_rules.specs.declared.event.Event.{Event}
use Rattle.sub_rules.specs.declared.event.Event.TheVariants.{Reported}
use Rattle.sub_trusted.proofs.TrackerStateLemmas.{HasEndedGapFrames, HasEndedFrames, IsCorrectFrom}
use Rattle.sub_trusted.proofs.TrackerStateLemmas.{Keeps}
use Rattle.sub_trusted.proofs.TrackerStateLemmas.{MayEndBefore}
use Rattle.sub_trusted.proofs.TrackerStateLemmas.{IsTrustedBetween}
use Rattle.sub_trusted.proofs.TrackerStateLemmas.{HasBegunNextFrame}
use Rattle.sub_trusted.proofs.TrackerStateLemmas.{ended_frames_continue_after_events, RunFacts}
use Rattle.sub_trusted.proofs.TrackerStateLemmas.{calm, end_in_prefix_is_bounded}
use Rattle.sub_trusted.proofs.TrackerStateLemmas.{run_may_end_in_frame}
use Rattle.sub_trusted.proofs.TrackerStateLemmas.{begun_frame_continues_after_events, gap_end}
use Rattle.sub_trusted.proofs.TrackerStateLemmas.{tracking_continues_after_events}
use Rattle.sub_trusted.proofs.TrackerStateLemmas.{tracking_holds_to_later_frame}
use Rattle.sub_trusted.proofs.TrackerStateLemmas.{tracked_run_passes_before_frame}
use Rattle.sub_trusted.proofs.TrackerStateLemmas.{run_starts_by_last_frame, no_faults_before}
use Rattle.sub_trusted.proofs.TrackerStateLemmas.{tracked_run_has_its_facts}
use Rattle.sub_trusted.proofs.TrackerStateLemmas.{correct_frame_continues_or_begins}
use Rattle.sub_trusted.proofs.TrackerStateLemmas.{rising_is_older_than_events}
use Rattle.sub_trusted.proofs.TrackerStateLemmas.{run_needs_rising_frames}
use Rattle.sub_trusted.proofs.TrackerStateLemmas.{finished_frame_gives_correct_frame}
use Rattle.sub_trusted.proofs.InvalidationLemmas.{HoldsIfTrusted}
use Rattle.sub_trusted.proofs.LateInvalidationLemmas.{end_events_invalidate_run}
use Rattle.sub_trusted.proofs.LateInvalidationLemmas.{no_trusted_frames_in_end_events}
use Rattle.sub_trusted.proofs.LateInvalidationLemmas.{keeps_rules_append}
use Rattle.sub_trusted.proofs.LateInvalidationLemmas.{late_start_is_at_most_frame}
use Rattle.sub_trusted.proofs.LateInvalidationLemmas.{order_fault_invalidates_last_packet}
use Rattle.sub_trusted.proofs.LateInvalidationLemmas.{no_trusted_frames_in_order_events}
use Rattle.sub_trusted.proofs.LateInvalidationLemmas.{no_order_fault_means_rising}
use Rattle.sub_trusted.proofs.LateInvalidationLemmas.{packets_invalidation}
use Rattle.sub_trusted.proofs.LateInvalidationLemmas.{no_trusted_frames_in_packet_events}
use Rattle.sub_trusted.proofs.LateInvalidationLemmas.{first_unfinished_before_at_most}
use Rattle.sub_trusted.proofs.LateInvalidationLemmas.{skipped_packet_invalidates_last_packet}
use Rattle.sub_trusted.proofs.LateInvalidationLemmas.{seen_run_start_is_bounded}
use Rattle.sub_trusted.proofs.LateInvalidationLemmas.{seen_run_start}
use Rattle.sub_laws.proofs.PrefixLemmas.{RiseTo, before}
use Rattle.sub_laws.proofs.RisingEndLemmas.{latest_at}
use Rattle.sub_trusted.proofs.EmittedStepLemmas.{Goes, Goes-append, Goes-cons, Goes-nil, Goes-emits}
use Rattle.sub_trusted.proofs.EmittedStepLemmas.{AreEmitted, frame_going_back_is_bounded}
use Rattle.sub_trusted.proofs.EmittedStepLemmas.{frame_after_going_back}
use Rattle.sub_trusted.proofs.EmittedStepLemmas.{first_invalidated_frame}
use Rattle.sub_trusted.proofs.EmittedStepLemmas.{is_order_fault}
use Rattle.sub_trusted.proofs.EmittedStepLemmas.{kept_run_was_valid, has_risen}
use Rattle.sub_trusted.proofs.FrameEndStateLemmas.{IsWrongSince, HasEndInRun, ChecksFrameEnd}
use Rattle.sub_trusted.proofs.FrameEndStateLemmas.{end_steps_are_followed}
use Rattle.sub_trusted.proofs.TrustedRunLemmas.{EndsFaultFree}
use Rattle.sub_rules.proofs.EndLemmas.{gap_length-is}
use Rattle.sub_rules.specs.Trusted.{CheckStep, back_frame_of, last_packet_frame, late_run_start}
use Rattle.sub_rules.specs.Trusted.{run_of}
use Rattle.sub_rules.specs.Trusted.{first_unfinished_of}
use Rattle.sub_rules.specs.Trusted.{has_no_active_faults, stays_fault_free, reports_order_fault}
use Rattle.sub_rules.specs.Trusted.{events_reported_at_step, first_finished_of}

module _ (g : Criteria) (frames : Transmission) (base : ℕ) where
  -- The frames belong to a run of fault-free frames, and the page was finished at the end of one of
  -- them or `within` is 0. They are after the first `base` frames of the transmission and, if all
  -- frame numbers increase, before its last frame.
  abbrev pub IsTrustedBeforeEnd : ℕ → ℕ → Type 0
  IsTrustedBeforeEnd = IsTrustedBetween g frames base (end_frame frames)

  -- The frames that the steps report as trusted meet the conditions of `IsTrustedBeforeEnd`, and
  -- the history after the steps has the property S.
  abbrev pub ReportsGoodStretches : (List CheckStep → Type 0)
      → List CheckStep → List CheckStep → Type 0
  ReportsGoodStretches S t ms = Goes IsTrustedBeforeEnd S t ms

  tracked_run_is_trusted : (n x y : ℕ) (t : List CheckStep) → Keeps g frames base n x t
      → MayEndBefore g frames (end_frame frames) n x y
      → (from w : ℕ)
      → run_of t ≡ Some from
      → first_finished_of t ≡ Some w
      → w < y
      → IsTrustedBeforeEnd from (y - 1)
  tracked_run_is_trusted n x y t keeps may =
      tracked_run_passes_before_frame g frames base (end_frame frames) n x y t keeps may
      (le_refl (end_frame frames))
      (omega arith)

  pub tracking_continues_after_end : (n x m f : ℕ) (t u : List CheckStep) → ChecksFrameEnd g frames
      m f t u
      → Keeps g frames base n x t
      → ((from : ℕ) → run_of t ≡ Some from → HasEndInRun g frames m f from)
      → Keeps g frames base n x u
  tracking_continues_after_end n x m f t u looks keeps low = record {
    run = λ from is. keeps.run from (was from is);
    ends = λ from is. keeps.ends from (was from is);
    whole = λ from w is whole.
        let run = was from is in
        elim (correct_frame_continues_or_begins (first_finished_of t) (seen_run_start g frames m f)
        f w
        (sym (looks.first_finished_eq (ap is_some run)) ∙ whole)) [
          | inl before ↦ keeps.whole from w run before
          | inr (none, here) ↦
              let (l, end, rises) = low from run in
              subst (IsCorrectFrom g frames from) here
              (record { low = l; n = m; end = end; rises = rises; finished = none })
        ];
    above = λ from is. keeps.above from (was from is);
    falls = λ e. looks.run_eq ∙ keeps.falls (sym looks.rises_is ∙ e);
    at_once = λ e.
        let none : seen_run_start g frames m f ≡ None = rw e refl in
        record {
          first_unfinished = looks.first_unfinished_eq ∙ none;
          late = looks.late_eq ∙ rw e refl;
          whole = λ there.
              ap is_some (looks.first_finished_eq (sym (ap is_some looks.run_eq) ∙ there))
              ∙ finished_frame_gives_correct_frame (first_finished_of t) (seen_run_start g frames m
              f) f none;
        };
    plain = λ e. looks.plain e ∙ keeps.plain e;
  }
    where
      was : (from : ℕ) → run_of u ≡ Some from → run_of t ≡ Some from
      was from is = sym looks.run_eq ∙ is

  -- The frames that the steps at the end of frame f report as trusted meet the conditions of
  -- `IsTrustedBeforeEnd`. Assumptions about the current run, if there is one: it is fault-free
  -- before frame f, frame numbers increase, and it may end before any frame up to f
  -- (`MayEndBefore`). If S holds after the events of these steps, it holds after the steps.
  pub end_steps_report_good_stretches : (n m f : ℕ) (t : List CheckStep) (S : List CheckStep → Type
      0)
      → ((from : ℕ) → run_of t ≡ Some from → latest_frame frames m ≤ f)
      → Keeps g frames base n f t
      → ((from : ℕ) → run_of t ≡ Some from → HasEndInRun g frames m f from)
      → ((from : ℕ)
      → run_of t ≡ Some from
      → (y : ℕ)
      → y ≤ f
      → MayEndBefore g frames (end_frame frames) n f y)
      → ((from : ℕ) → run_of t ≡ Some from → 0 < n → latest_frame frames n < f)
      → ((u v : List CheckStep)
      → ChecksFrameEnd g frames m f t u
      → IsWrongSince g frames n f u
      → AreEmitted u v (events_at_end g frames n m f)
      → S v)
      → ReportsGoodStretches S t (steps_at_end g frames n m f)
  end_steps_report_good_stretches n m f t S high keeps low may past after =
      end_steps_are_followed g frames (ReportsGoodStretches S) n m f t keeps.at_once keeps.plain
      (Goes-cons IsTrustedBeforeEnd S)
      (λ u looks backs.
      Goes-emits IsTrustedBeforeEnd S u (events_at_end g frames n m f)
      (no_trusted_frames_in_end_events IsTrustedBeforeEnd (active_faults_before g frames n f)
      (previous_end_frame frames n f)
      (active_faults_at g frames m f) f)
      (λ x from w invalidation run whole l.
      let was : run_of t ≡ Some from = sym looks.run_eq ∙ run in
      let at : x ≡ unwrap_or (late_run_start u) f =
      (end_events_invalidate_run u (previous_end_frame frames n f) f (active_faults_before g frames
      n f)
      (active_faults_at g frames m f)).at x invalidation in
      let top : unwrap_or (late_run_start u) f ≤ f =
      rw looks.late_eq
      (late_start_is_at_most_frame (not (g.within == 0) && is_late g frames m f)
      (seen_run_start g frames m
      f) f
      (λ r first_unfinished. seen_run_start_is_bounded g frames m f r first_unfinished
      (high from was))) in
      let back : frame_after_going_back u x ≤ f =
      frame_going_back_is_bounded u x f (omega arith)
      (λ r is. (first_unfinished_before_at_most g frames n f r (backs r is) (past from was)).1) in
      tracked_run_is_trusted n f (frame_after_going_back u x) u
      (tracking_continues_after_end n f m f t u looks keeps low)
      (may from was (frame_after_going_back u x) back) from w run whole l)
      (λ v emitted. after u v looks backs emitted))

  pub gap_frame_reports_good_stretches : (n k : ℕ) (t : List CheckStep) → n < length frames → k <
      gap_length frames n
      → HasEndedGapFrames g frames base n k t
      → ReportsGoodStretches (HasEndedGapFrames g frames base n (suc k)) t
      (steps_at_end g frames n n (latest_frame frames n + suc k))
  gap_frame_reports_good_stretches n k t there l arrives =
      let f : ℕ = latest_frame frames n + suc k in
      let keeps = arrives.keeps in
      let es : List Event = events_at_end g frames n n f in
      end_steps_report_good_stretches n n f t (HasEndedGapFrames g frames base n (suc k))
      (λ from is. omega arith) keeps
      low may
      (λ from is some. omega arith)
      (λ u v looks backs emitted. record {
        keeps =
            let kept =
            tracking_continues_after_events g frames base n f u v es (tracking_continues_after_end n
            f n f t u looks keeps low) emitted
            in
            tracking_holds_to_later_frame g frames base n f (latest_frame frames n + suc (suc k)) v
            kept
            (λ from is. fault_free u v looks emitted from is (kept.ends from is));
        base_at_most = arrives.base_at_most;
        rises = λ e.
            let was : has_risen t ≡ true =
            let rises_is = emitted.rises_is in
            let looked = looks.rises_is in
            grind (arith, nat_tests) in
            arrives.rises was;
        back = λ e r is.
            first_unfinished_before_at_most g frames n f r
            (backs r (sym emitted.back_frames_agree ∙ is))
            (λ some. omega arith);
      })
    where
      up : (from : ℕ) → run_of t ≡ Some from → RunFacts g frames n
      up from is =
          tracked_run_has_its_facts g frames base n (latest_frame frames n + suc k) from t
          arrives.keeps arrives.rises
          is

      low : (from : ℕ) → run_of t ≡ Some from → HasEndInRun g frames n (latest_frame frames n + suc
          k) from
      low from is =
          let run = arrives.keeps.run from is in
          let first = run_starts_by_last_frame g frames n from run in
          let last = (up from is).last in
          (omega arith, gap_end g frames n k there l (up from is), run.rises)

      may : (from : ℕ) → run_of t ≡ Some from
          → (y : ℕ) → y ≤ latest_frame frames n + suc k
          → MayEndBefore g frames (end_frame frames) n (latest_frame frames n + suc k) y
      may from is y high =
          let h = up from is in
          let long = h.long in
          record {
            within = omega arith;
            low = high;
            next = λ more. inl (h.up, omega arith);
            last = λ all. absurd (omega arith);
          }

      fault_free : (u v : List CheckStep)
          → ChecksFrameEnd g frames n (latest_frame frames n + suc k) t u
          → AreEmitted u v (events_at_end g frames n n (latest_frame frames n + suc k))
          → (from : ℕ) → run_of v ≡ Some from
          → EndsFaultFree g frames n from (latest_frame frames n + suc k)
          → EndsFaultFree g frames n from (latest_frame frames n + suc (suc k))
      fault_free u v looks emitted from is ends m e end few after high =
          let f : ℕ = latest_frame frames n + suc k in
          let none = calm g frames u v (events_at_end g frames n n f) emitted from
          is in
          let was : run_of t ≡ Some from =
          sym looks.run_eq
          ∙ (kept_run_was_valid (run_of u)
          (first_invalidated_frame u (events_at_end g frames n n f)) from
          (sym emitted.run_eq ∙ is)).0 in
          let h = up from was in
          elim (cases_lt e f) [
            | inl before ↦ ends m e end few after before
            | inr not_before ↦
                let here : f ≡ e = omega arith in
                let last = h.last in
                let own : n ≡ m =
                elim (cases_lt m n) [
                  | inl fewer ↦
                      let early =
                      end_in_prefix_is_bounded g frames n (arrives.keeps.run from was).rises m e end
                      fewer in
                      absurd (omega arith)
                  | inr all ↦ omega arith
                ] in
                let long = h.long in
                let before =
                no_faults_before g frames base n f from t there arrives.keeps was h (omega arith)
                (omega arith) in
                subst (λ (z : ℕ). has_no_active_faults (active_faults_at g frames z e) ≡ true) own
                (subst (λ (z : ℕ). has_no_active_faults (active_faults_at g frames n z) ≡ true) here
                ((end_events_invalidate_run u (previous_end_frame frames n f) f
                (active_faults_before g frames n f)
                (active_faults_at g frames n f)).fault_free none before))
          ]

  gap_frames_report_good_stretches : (n k : ℕ) (t : List CheckStep) → n < length frames → k ≤
      gap_length frames n
      → HasEndedGapFrames g frames base n 0 t
      → ReportsGoodStretches (HasEndedGapFrames g frames base n k) t (steps_of_gap g frames n k)
  unfolding steps_of_gap
  gap_frames_report_good_stretches n zero t there l arrives = Goes-nil IsTrustedBeforeEnd
      (HasEndedGapFrames g frames base n 0) t arrives
  gap_frames_report_good_stretches n (suc k) t there l arrives =
      Goes-append IsTrustedBeforeEnd (HasEndedGapFrames g frames base n k)
      (HasEndedGapFrames g frames base n (suc k)) t
      (steps_of_gap g frames n k) (steps_at_end g frames n n (latest_frame frames n + suc k))
      (gap_frames_report_good_stretches n k t there (omega arith) arrives)
      (λ u so. gap_frame_reports_good_stretches n k u there (omega arith) so)

  run_may_end_after_frame : (n x : ℕ) → n ≤ length frames → x ≤ frame_at frames (n - 1)
      → MayEndBefore g frames (end_frame frames) n (frame_at frames (n - 1) + 1) x
  run_may_end_after_frame n x within low = grind (arith, nat_tests)

  going_back_from_ended_frame : (n x from : ℕ) (t : List CheckStep) → HasEndedFrames g frames base n
      t
      → run_of t ≡ Some from
      → x ≤ frame_at frames (n - 1)
      → frame_after_going_back t x ≤ frame_at frames (n - 1)
  going_back_from_ended_frame n x from t closed run low = grind (
    arith,
    nat_tests,
    frame_going_back_is_bounded,
    run_needs_rising_frames,
    has_risen,
  )

  going_back_from_begun_frame : (n x from : ℕ) (packets : List (List ℕ)) (t : List CheckStep)
      → HasBegunNextFrame g frames base n packets t
      → run_of t ≡ Some from
      → x ≤ frame_at frames n
      → frame_after_going_back t x ≤ frame_at frames n
  going_back_from_begun_frame n x from packets t opens run low = grind (
    arith,
    nat_tests,
    frame_going_back_is_bounded,
    run_needs_rising_frames,
    has_risen,
  )

  pub order_events_report_good_stretches : (n : ℕ) (t : List CheckStep) → n < length frames →
      HasEndedFrames g frames base n t
      → ReportsGoodStretches (HasEndedGapFrames g frames base n 0) t
      (map Emits (order_events g frames n))
  order_events_report_good_stretches n t there closed =
      Goes-emits IsTrustedBeforeEnd (HasEndedGapFrames g frames base n 0) t
      (order_events g frames n)
      (no_trusted_frames_in_order_events IsTrustedBeforeEnd g frames n)
      (λ x from w invalidation run whole l.
      let at : x ≡ last_packet_frame t = order_fault_invalidates_last_packet t g frames n x
      invalidation in
      let below = (closed.keeps.run from run).below in
      let last = closed.last (omega arith) in
      tracked_run_is_trusted n (frame_at frames (n - 1) + 1) (frame_after_going_back t x) t
      closed.keeps
      (run_may_end_after_frame n (frame_after_going_back t x) (omega arith)
      (going_back_from_ended_frame n x from t closed run (omega arith))) from w run whole l)
      (λ u emitted.
      let kept =
      tracking_continues_after_events g frames base n (frame_at frames (n - 1) + 1) t u
      (order_events g frames n)
      closed.keeps emitted in
      record {
        keeps =
            tracking_holds_to_later_frame g frames base n (frame_at frames (n - 1) + 1)
            (latest_frame frames n + suc 0) u kept
            (λ from is m e end few after high.
            let run = kept.run from is in
            let below = run.below in
            let last = latest_at frames n run.rises (omega arith) in
            kept.ends from is m e end few after (omega arith));
        base_at_most = closed.base_at_most;
        rises = λ e. up u emitted e;
        back = λ e r is. back u emitted e r is;
      })
    where
      back : (u : List CheckStep) → AreEmitted t u (order_events g frames n) → has_risen u ≡ true
          → (r : ℕ) → back_frame_of u ≡ Some r
          → (0 < n) × (r ≤ latest_frame frames n + 0)
      back u emitted e r is =
          let rose_then = rising_is_older_than_events g frames base t u (order_events g frames n)
          emitted e in
          let (some, low) = closed.back rose_then r (sym emitted.back_frames_agree ∙
          is) in
          let last = latest_at frames n (closed.rises rose_then) some in
          (some, omega arith)

      up : (u : List CheckStep) → AreEmitted t u (order_events g frames n) → has_risen u ≡ true
          → RiseTo frames (suc n)
      up u emitted e i a b =
          let rises_is = emitted.rises_is in
          let was : has_risen t ≡ true = grind (arith, nat_tests) in
          let none : list_any is_order_fault (order_events g frames n) ≡ false =
          grind (arith, nat_tests) in
          elim (cases_lt i n) [
            | inl below ↦ closed.rises was i a below
            | inr here ↦
                let same : n ≡ i = omega arith in
                subst (λ (z : ℕ). frame_at frames (z - 1) < frame_at frames z) same
                (no_order_fault_means_rising g frames n none (omega arith))
          ]

  pub begins : (n : ℕ) (t : List CheckStep) → n < length frames
      → HasEndedGapFrames g frames base n (gap_length frames n) t
      → HasBegunNextFrame g frames base n [] (Begins (frame_at frames n) ∷ t)
  unfolding run_of first_finished_of last_packet_frame first_unfinished_of late_run_start
      back_frame_of
      stays_fault_free
      reports_order_fault
  begins n t there arrives =
      let keeps = arrives.keeps in
      record {
        keeps = record {
          run = keeps.run;
          ends = λ from is m e end few after high.
              let long =
              (tracked_run_has_its_facts g frames base n (latest_frame frames n + suc
              (gap_length frames n)) from t
              keeps
              arrives.rises is).long in
              keeps.ends from is m e end few after (omega arith);
          whole = keeps.whole;
          above = keeps.above;
          falls = keeps.falls;
          at_once = λ e.
              let none = keeps.at_once e in
              record {
                first_unfinished = none.first_unfinished;
                late = none.late;
                whole = none.whole;
              };
          plain = keeps.plain;
        };
        base_at_most = (let low = arrives.base_at_most in omega arith);
        last = refl;
        rises = arrives.rises;
        clean = λ e. (e, λ k l. absurd (omega arith));
        fresh = λ e. arrives.base_at_most;
        back = λ e r is.
            let (some, low) = arrives.back e r is in
            let long = gap_length-is frames n some in
            let rises = arrives.rises e in
            let up = rises n some (omega arith) in
            let last = latest_at frames n (λ i a b. rises i a (omega arith)) some in
            omega arith;
      }

  pub going_back_keeps_begun_frame : (n : ℕ) (t : List CheckStep) → HasBegunNextFrame g frames base
      n [] t → needs_back_steps g ≡ true
      → HasBegunNextFrame g frames base n []
      (GoesBack (first_unfinished_before g frames n (frame_at frames n))
      ∷ t)
  unfolding run_of first_finished_of last_packet_frame first_unfinished_of late_run_start
      back_frame_of
      stays_fault_free
      reports_order_fault
  going_back_keeps_begun_frame n t opens back = grind
      (arith, nat_tests, first_unfinished_before_at_most, latest_at)

  back_step_reports_good_stretches : (n : ℕ) (t : List CheckStep) (b : Bool) → needs_back_steps g ≡
      b
      → HasBegunNextFrame g frames base n [] t
      → ReportsGoodStretches (HasBegunNextFrame g frames base n []) t
      (if b then GoesBack (first_unfinished_before g frames n (frame_at frames n)) ∷ [] else [])
  unfolding events_reported_at_step
  back_step_reports_good_stretches n t false is opens =
      Goes-nil IsTrustedBeforeEnd (HasBegunNextFrame g frames base n []) t opens
  back_step_reports_good_stretches n t true is opens =
      let step : CheckStep = GoesBack (first_unfinished_before g frames n (frame_at frames n)) in
      Goes-cons IsTrustedBeforeEnd (HasBegunNextFrame g frames base n []) t step [] refl
      (Goes-nil IsTrustedBeforeEnd (HasBegunNextFrame g frames base n []) (step ∷ t)
      (going_back_keeps_begun_frame n t opens is))

  pub arrival : (n : ℕ) (t : List CheckStep) → n < length frames → HasEndedFrames g frames base n t
      → ReportsGoodStretches (HasBegunNextFrame g frames base n []) t (steps_of_arrival g frames n)
  unfolding events_reported_at_step
  arrival n t there closed =
      Goes-append IsTrustedBeforeEnd (HasEndedGapFrames g frames base n (gap_length frames n))
      (HasBegunNextFrame g frames base n []) t
      (map Emits (order_events g frames n) ++ steps_of_gap g frames n (gap_length frames n))
      (Begins (frame_at frames n)
      ∷ steps_before g (first_unfinished_before g frames n (frame_at frames n)))
      (Goes-append IsTrustedBeforeEnd (HasEndedGapFrames g frames base n 0)
      (HasEndedGapFrames g frames base n (gap_length frames n)) t
      (map Emits (order_events g frames n))
      (steps_of_gap g frames n (gap_length frames n)) (order_events_report_good_stretches n t there
      closed)
      (λ u so. gap_frames_report_good_stretches n (gap_length frames n) u there
      (le_refl (gap_length frames n)) so))
      (λ v here.
      Goes-cons IsTrustedBeforeEnd (HasBegunNextFrame g frames base n []) v
      (Begins (frame_at frames n))
      (steps_before g (first_unfinished_before g frames n (frame_at frames n))) refl
      (back_step_reports_good_stretches n (Begins (frame_at frames n) ∷ v) (needs_back_steps g) refl
      (begins n v there here)))

  pub more_packets_report_good_stretches : (n : ℕ) (packets more : List (List ℕ))
      (t : List CheckStep) → n < length frames
      → HasBegunNextFrame g frames base n packets t
      → ReportsGoodStretches (HasBegunNextFrame g frames base n (packets ++ more)) t
      (map Emits
      (numbered_packet_events g.watched (frame_at frames n) (length packets)
      (packets_before frames n ++ packets) more (length more)))
  more_packets_report_good_stretches n packets more t there opens =
      let so_far : List (List ℕ) = packets_before frames n ++ packets in
      let es : List Event =
      numbered_packet_events g.watched (frame_at frames n) (length packets) so_far more
      (length more) in
      let finds =
      packets_invalidation t g.watched (frame_at frames n) (length packets) so_far
      more in
      Goes-emits IsTrustedBeforeEnd (HasBegunNextFrame g frames base n (packets ++ more)) t es
      (no_trusted_frames_in_packet_events IsTrustedBeforeEnd g.watched (frame_at frames n)
      (length packets) so_far more (length more))
      (λ x from w invalidation run whole l.
      let at : x ≡ frame_at frames n = finds.at x invalidation in
      tracked_run_is_trusted n (frame_at frames n) (frame_after_going_back t x) t opens.keeps
      (run_may_end_in_frame g frames base n packets t there opens from run (end_frame frames)
      (frame_after_going_back t x)
      (going_back_from_begun_frame n x from packets t opens run (omega arith))) from w run whole l)
      (λ u emitted.
      begun_frame_continues_after_events g frames base n packets (packets ++ more) t u es opens
      emitted
      (λ none kept.
      keeps_rules_append g.watched (packets_before frames n) packets more kept
      (finds.fault_free none)))

  pub skipped_packet_reports_good_stretches : (n pes : ℕ) (u : UnreadReason) (t : List CheckStep) →
      n ≤ length frames
      → HasEndedFrames g frames base n t
      → ReportsGoodStretches (HasEndedFrames g frames base n) t
      (map Emits (Reported (unread_fault pes (Some u)) ∷ []))
  skipped_packet_reports_good_stretches n pes u t within closed =
      let es : List Event = Reported (unread_fault pes (Some u)) ∷ [] in
      Goes-emits IsTrustedBeforeEnd (HasEndedFrames g frames base n) t es
      (All-cons (HoldsIfTrusted IsTrustedBeforeEnd) (Reported (unread_fault pes (Some u))) [] tt
      (All-nil (HoldsIfTrusted IsTrustedBeforeEnd)))
      (λ x from w invalidation run whole l.
      let is : Some (last_packet_frame t) ≡ Some x = sym (skipped_packet_invalidates_last_packet t
      pes u) ∙ invalidation in
      let same : last_packet_frame t ≡ x = same_Some (last_packet_frame t) x is in
      let below = (closed.keeps.run from run).below in
      let last = closed.last (omega arith) in
      tracked_run_is_trusted n (frame_at frames (n - 1) + 1) (frame_after_going_back t x) t
      closed.keeps
      (run_may_end_after_frame n (frame_after_going_back t x) within (going_back_from_ended_frame n
      x from t closed run (omega arith))) from w
      run whole l)
      (λ v emitted. ended_frames_continue_after_events g frames base n t v es closed emitted)

  pub skipped : (n pes : ℕ) (packets : List (List ℕ)) (u : UnreadReason) (t : List CheckStep)
      → n < length frames
      → HasBegunNextFrame g frames base n packets t
      → ReportsGoodStretches (HasBegunNextFrame g frames base n packets) t
      (map Emits (Reported (unread_fault pes (Some u)) ∷ []))
  skipped n pes packets u t there opens =
      let es : List Event = Reported (unread_fault pes (Some u)) ∷ [] in
      Goes-emits IsTrustedBeforeEnd (HasBegunNextFrame g frames base n packets) t es
      (All-cons (HoldsIfTrusted IsTrustedBeforeEnd) (Reported (unread_fault pes (Some u))) [] tt
      (All-nil (HoldsIfTrusted IsTrustedBeforeEnd)))
      (λ x from w invalidation run whole l.
      let is : Some (last_packet_frame t) ≡ Some x = sym (skipped_packet_invalidates_last_packet t
      pes u) ∙ invalidation in
      let same : last_packet_frame t ≡ x = same_Some (last_packet_frame t) x is in
      let last = opens.last in
      tracked_run_is_trusted n (frame_at frames n) (frame_after_going_back t x) t opens.keeps
      (run_may_end_in_frame g frames base n packets t there opens from run (end_frame frames)
      (frame_after_going_back t x)
      (going_back_from_begun_frame n x from packets t opens run (omega arith))) from w run whole l)
      (λ v emitted. begun_frame_continues_after_events g frames base n packets
      packets t v es opens emitted
      (λ none kept. kept))
