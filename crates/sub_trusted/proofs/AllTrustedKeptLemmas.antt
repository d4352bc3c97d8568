-- If a range of frames could be trusted, then after a header in it that erases the page, and until
-- the range is reported, the current run of fault-free frames begins at that header or before it.
use Rattle.std.proofs.lemmas.Bool.Decides.{nat_tests}
use Rattle.std.proofs.Common.{◌≡◌, ℕ, ◌+◌, ◌-◌, ◌<◌, ◌≤◌, inl, inr, Bool, true, false, ◌==◌}
use Rattle.std.proofs.Common.{List, map, Option, Some, None, is_some, refl, sym, ◌∙◌, arith}
use Rattle.std.proofs.Common.{le_refl, unwrap_or, if◌then◌else◌, ap}
use Rattle.std.proofs.lemmas.Bool.{cases_lt}
use Rattle.std.proofs.lemmas.Option.{none-some}
use Rattle.std.specs.List.{list_any}
use Rattle.sub_rules.specs.Events.{previous_end_frame, end_events, events_at_end}
use Rattle.sub_rules.specs.Events.{active_faults_at, active_faults_before}
use Rattle.sub_rules.specs.FrameRules.{Criteria, frame_at}
use Rattle.sub_rules.specs.PesPacketEvents.{needs_back_steps, steps_at_end}
use Rattle.sub_rules.specs.Transmission.{Transmission}
use Rattle.sub_rules.specs.Trusted.CheckStep.{Emits}
use Rattle.sub_rules.specs.declared.event.Event.{Event}
use Rattle.sub_laws.specs.CleanStretch.{IsEnd}
use Rattle.sub_trusted.specs.TrustedFrames.{rising_part}
use Rattle.sub_trusted.proofs.TrackerStateLemmas.{SeesNoLateness, correct_frame_continues_or_begins}
use Rattle.sub_trusted.proofs.FrameEndStateLemmas.{IsWrongSince, ChecksFrameEnd}
use Rattle.sub_trusted.proofs.FrameEndStateLemmas.{end_steps_are_followed}
use Rattle.sub_trusted.proofs.AllTrustedStretchLemmas.{Fits}
use Rattle.sub_trusted.proofs.LateInvalidationLemmas.{before_eq, end_events_invalidate_run}
use Rattle.sub_trusted.proofs.LateInvalidationLemmas.{seen_run_start}
use Rattle.sub_trusted.proofs.AllTrustedLeadLemmas.{LeadsToReportOfRun, LeadsToReportOfRun-cons}
use Rattle.sub_trusted.proofs.AllTrustedLeadLemmas.{emitted_events_report_run}
use Rattle.sub_trusted.proofs.EmittedStepLemmas.{AreEmitted, frame_going_back_stays_after}
use Rattle.sub_trusted.proofs.EmittedStepLemmas.{frame_after_going_back}
use Rattle.sub_trusted.proofs.EmittedStepLemmas.{first_invalidated_frame}
use Rattle.sub_trusted.proofs.EmittedStepLemmas.{is_order_fault}
use Rattle.sub_trusted.proofs.EmittedStepLemmas.{has_risen, emits_steps_emit_events}
use Rattle.sub_rules.proofs.EndRuleLemmas.{end_events_fail_test}
use Rattle.sub_rules.proofs.TrustedLemmas.{history_after}
use Rattle.sub_rules.specs.Trusted.{CheckStep, back_frame_of, run_of, first_unfinished_of}
use Rattle.sub_rules.specs.Trusted.{reports_order_fault, frame_if_finished}
use Rattle.sub_rules.specs.Trusted.{first_finished_of}
use Rattle.sub_rules.specs.declared.active_faults.ActiveFaults.{ActiveFaults}
use Rattle.std.specs.Option.{option_or}

pub correct_frame_is_kept : (whole first_unfinished : Option ℕ) (f w : ℕ) → whole ≡ Some w
    → option_or whole (frame_if_finished f first_unfinished) ≡ Some w
correct_frame_is_kept whole first_unfinished f w e = grind (arith, nat_tests)

pub finished_frame_is_correct : (whole first_unfinished : Option ℕ) (f : ℕ) → first_unfinished ≡
    None
    → ((w : ℕ) → whole ≡ Some w → w ≤ f)
    → (w : ℕ) × (w ≤ f) × (option_or whole (frame_if_finished f first_unfinished) ≡ Some w)
finished_frame_is_correct (Some w) first_unfinished f none low = (w, low w refl, refl)
finished_frame_is_correct None first_unfinished f none low = (f, le_refl f, rw none refl)

late_frame_is_after_stretch : (late : Bool) (first_unfinished : Option ℕ) (f b : ℕ) → b < f
    → ((r : ℕ) → first_unfinished ≡ Some r → b < r)
    → b < unwrap_or (if late then first_unfinished else None) f
late_frame_is_after_stretch late first_unfinished f b past h = grind (arith, nat_tests)

-- No event at the end of a frame reports that frame numbers do not increase.
pub end_events_have_no_order_fault : (old : ActiveFaults) (before : ℕ) (new : ActiveFaults) (f : ℕ)
    → list_any is_order_fault (end_events old before new f) ≡ false
unfolding is_order_fault reports_order_fault
end_events_have_no_order_fault old before new f =
    end_events_fail_test is_order_fault (λ rule f cell. grind arith) (λ rule f. refl) old before new
    f

module _ (g : Criteria) (frames : Transmission) (a b i : ℕ)
    (fits : Fits g frames a b i) where
  abbrev pub top : ℕ
  top = frame_at frames i

  -- After n frames of the transmission and the ends of all frames before p, the range can still be
  -- reported: if frame i, which has the range's header, was sent, the current run begins with frame
  -- i or earlier. If frame b has ended too, the page was finished at the end of a frame up to b,
  -- and the current run of unfinished frames, if any, begins after b.
  pub record FollowsRange (n p : ℕ) (t : List CheckStep) : Type 0 where
    pub rises : n ≤ i → has_risen t ≡ true
    pub run : i < n → (from : ℕ) × (from ≤ top) × (run_of t ≡ Some from)
    pub low : (from w : ℕ) → run_of t ≡ Some from → first_finished_of t ≡ Some w → w < p
    pub whole : i < n → b < p → (w : ℕ) × (w ≤ b) × (first_finished_of t ≡ Some w)
    pub first_unfinished : i < n → b < p → (r : ℕ) → first_unfinished_of t ≡ Some r → b < r
    pub back : i < n → b + 1 < p → (r : ℕ) → back_frame_of t ≡ Some r → b < r

  pub following_holds_for_equal_frame : (n p q : ℕ) (t : List CheckStep) → FollowsRange n p t
      → ((from : ℕ) → run_of t ≡ Some from → p ≡ q)
      → FollowsRange n q t
  following_holds_for_equal_frame n p q t follows same = grind (arith, nat_tests)

  pub following_continues_after_events : (n p : ℕ) (t u : List CheckStep) (es : List Event) →
      FollowsRange n p t
      → AreEmitted t u es
      → (n ≤ i → list_any is_order_fault es ≡ false)
      → (i < n → first_invalidated_frame t es ≡ None)
      → FollowsRange n p u
  following_continues_after_events n p t u es follows so orders none = grind (arith, nat_tests)

  -- If frame i was sent, frame b has ended, and events invalidate a frame so that the first frame
  -- that is no longer trusted is after b, the frames from `top` to b are reported as trusted.
  pub invalidation_reports_trusted_frames : (n p : ℕ) (t : List CheckStep) (es : List Event) (x : ℕ)
      → FollowsRange n p
      t → i < n
      → first_invalidated_frame t es ≡ Some x
      → (b < frame_after_going_back t x) × (b < p)
      → (S : List CheckStep → Type 0) → LeadsToReportOfRun top b S t (map Emits es)
  invalidation_reports_trusted_frames n p t es x follows l is past S = grind (
    arith,
    nat_tests,
    frame_after_going_back,
    emitted_events_report_run,
  )

  pub emitted_events_continue_following : (n p : ℕ) (t : List CheckStep) (es : List Event) →
      FollowsRange n p t
      → (n ≤ i → list_any is_order_fault es ≡ false)
      → (i < n → (x : ℕ) → first_invalidated_frame t es ≡ Some x → (b < frame_after_going_back t x)
      × (b < p))
      → LeadsToReportOfRun top b (FollowsRange n p) t (map Emits es)
  emitted_events_continue_following n p t es follows orders past = go (first_invalidated_frame t es)
      refl
    where
      go : (o : Option ℕ) → first_invalidated_frame t es ≡ o → LeadsToReportOfRun top b
          (FollowsRange n p) t (map Emits es)
      go None is =
          inr
          (following_continues_after_events n p t (history_after t (map Emits es)) es follows
          (emits_steps_emit_events t es) orders
          (λ l. is))
      go (Some x) is = elim (cases_lt i n) [
        | inl l ↦ invalidation_reports_trusted_frames n p t es x follows l is (past l x is)
            (FollowsRange n p)
        | inr not_yet ↦
            inr
            (following_continues_after_events n p t (history_after t (map Emits es)) es follows
            (emits_steps_emit_events t es) orders
            (λ l. absurd (omega arith)))
      ]

  -- If frame f is after b and no frame before f is out of order, the frame of the last `GoesBack`
  -- step, if any, is after b too: it begins the run of unfinished frames up to the frame before f.
  pub back_frame_is_after_stretch : (n f r : ℕ) (u : List CheckStep) → IsWrongSince g frames n f u →
      0 < n
      → IsEnd (rising_part frames) n (f - 1)
      → b < f
      → back_frame_of u ≡ Some r
      → b < r
  back_frame_is_after_stretch n f r u backs some end past is =
      fits.back n (f - 1) r end (omega arith) (sym (before_eq g frames n f some) ∙ backs r is)

  pub following_continues_after_end : (n m f q : ℕ) (t u : List CheckStep) → ChecksFrameEnd g frames
      m f t u
      → IsWrongSince g frames n f u
      → f + 1 ≡ q
      → FollowsRange n f t
      → (i < n → IsEnd (rising_part frames) m f)
      → (i < n → IsEnd (rising_part frames) n (f - 1))
      → FollowsRange n q u
  following_continues_after_end n m f q t u looks backs next follows end before = record {
    rises = λ l. looks.rises_is ∙ follows.rises l;
    run = λ l. let (from, low, is) = follows.run l in (from, low, looks.run_eq ∙ is);
    low = low;
    whole = λ l past.
        let (from, from_low, run) = follows.run l in
        let now = looks.first_finished_eq (ap is_some run) in
        elim (cases_lt b f) [
          | inl earlier ↦
              let (w, high, is) = follows.whole l earlier in (
                w,
                high,
                now ∙ correct_frame_is_kept (first_finished_of t) (seen_run_start g frames m f) f w
                    is,
              )
          | inr not_before ↦
              let here : b ≡ f = omega arith in
              let (w, high, is) =
              finished_frame_is_correct (first_finished_of t) (seen_run_start g frames m f) f
              (fits.finished m f (end l) here)
              (λ w whole. let under = follows.low from w run whole in omega arith) in
              (w, omega arith, now ∙ is)
        ];
    first_unfinished = λ l past r is. fits.first_unfinished m f r (end l) (omega arith)
        (sym looks.first_unfinished_eq ∙ is);
    back = λ l past r is. back_frame_is_after_stretch n f r u backs (omega arith) (before l)
        (omega arith) is;
  }
    where
      low : (from w : ℕ) → run_of u ≡ Some from → first_finished_of u ≡ Some w → w < q
      low from w is whole =
          let run : run_of t ≡ Some from = sym looks.run_eq ∙ is in
          elim (correct_frame_continues_or_begins (first_finished_of t)
          (seen_run_start g frames m f)
          f w
          (sym (looks.first_finished_eq (ap is_some run)) ∙ whole)) [
            | inl before ↦ let under = follows.low from w run before in omega arith
            | inr (none, here) ↦ omega arith
          ]

  -- If the events at the end of frame f invalidate a frame, f is not before a, and no frame number
  -- up to f is out of order, then f is not before b, and the first frame that is no longer trusted
  -- is after b.
  pub invalidated_frame_is_after_stretch : (n m f x : ℕ) (t u : List CheckStep) → ChecksFrameEnd g
      frames m f t u
      → IsWrongSince g frames n f u
      → 0 < n
      → IsEnd (rising_part frames) m f
      → IsEnd (rising_part frames) n (f - 1)
      → a ≤ f
      → first_invalidated_frame u (events_at_end g frames n m f) ≡ Some x
      → (b < frame_after_going_back u x) × (b < f + 1)
  invalidated_frame_is_after_stretch n m f x t u looks backs some end before low invalidation =
      let finds =
      end_events_invalidate_run u (previous_end_frame frames n f) f (active_faults_before g frames n
      f)
      (active_faults_at g frames m f) in
      grind (
        arith,
        nat_tests,
        late_frame_is_after_stretch,
        seen_run_start,
        frame_going_back_stays_after,
        back_frame_is_after_stretch,
        none-some,
        (cases_lt b f),
      )

  pub end_steps_lead_to_report : (n m f q : ℕ) (t : List CheckStep) → ((g.within == 0) ≡ true →
      SeesNoLateness t)
      → (needs_back_steps g ≡ false → back_frame_of t ≡ None)
      → f + 1 ≡ q
      → FollowsRange n f t
      → (i < n → IsEnd (rising_part frames) m f)
      → (i < n → IsEnd (rising_part frames) n (f - 1))
      → (i < n → a ≤ f)
      → LeadsToReportOfRun top b (FollowsRange n q) t (steps_at_end g frames n m f)
  end_steps_lead_to_report n m f q t none plain next follows end before low =
      end_steps_are_followed g frames (LeadsToReportOfRun top b (FollowsRange n q)) n m f t none
      plain
      (λ v step ms silent. LeadsToReportOfRun-cons top b (FollowsRange n q) v step ms)
      (λ u looks backs.
      emitted_events_continue_following n q u (events_at_end g frames n m f)
      (following_continues_after_end n m f q t u looks backs next follows end before)
      (λ l. end_events_have_no_order_fault (active_faults_before g frames n f)
      (previous_end_frame frames n f)
      (active_faults_at g frames m f) f)
      (λ l x invalidation.
      let past =
      invalidated_frame_is_after_stretch n m f x t u looks backs (omega arith) (end l) (before l)
      (low l) invalidation in
      let high = past.1 in
      (past.0, omega arith)))
