-- After the steps of a frame, each range of frames that could be reported as trusted and has a
-- header that erases the page was reported from that header on, or can still be reported.
use Rattle.std.proofs.lemmas.Bool.Decides.{nat_tests}
use Rattle.std.proofs.Common.{◌≡◌, ℕ, zero, suc, ◌+◌, ◌-◌, ◌<◌, ◌≤◌, ◌⊎◌, inl, inr, Bool, true}
use Rattle.std.proofs.Common.{false, List, [], ◌∷◌, ◌++◌, length, map, take, get_or, Option, Some}
use Rattle.std.proofs.Common.{None, refl, sym, ap, ◌∙◌, subst, arith, le_refl, append_assoc}
use Rattle.std.proofs.Common.{length-append, ◌&&◌, is_none, if◌then◌else◌}
use Rattle.std.proofs.Math.Seq.{take-append-add}
use Rattle.std.proofs.lemmas.Bool.{cases_lt}
use Rattle.std.proofs.lemmas.List.{get_or-append-add, get_or_append_left, take-append-le}
use Rattle.std.proofs.lemmas.List.Folds.{list_any-append}
use Rattle.std.proofs.lemmas.Option.{none-some, same_Some}
use Rattle.std.specs.List.{list_any}
use Rattle.sub_rules.specs.Events.{gap_length, latest_frame, order_events, packet_fault}
use Rattle.sub_rules.specs.Events.{numbered_packet_events}
use Rattle.sub_rules.specs.Events.{broken_rule_events, first_unfinished_before, unread_fault}
use Rattle.sub_rules.specs.FrameRules.{Criteria, UnreadReason, frame_at, packets_before}
use Rattle.sub_rules.specs.FrameRules.{packets_of_frame}
use Rattle.sub_rules.specs.PesPacketEvents.{needs_back_steps, steps_at_end, steps_before}
use Rattle.sub_rules.specs.PesPacketEvents.{steps_of_arrival}
use Rattle.sub_rules.specs.PesPacketEvents.{steps_of_gap}
use Rattle.sub_rules.specs.Transmission.{Transmission}
use Rattle.sub_rules.specs.Trusted.CheckStep.{Begins, GoesBack, Emits}
use Rattle.sub_rules.specs.declared.event.Event.{Event}
use Rattle.sub_rules.specs.declared.event.Event.TheVariants.{Reported}
use Rattle.sub_rules.specs.declared.packet_rule.PacketRule.{PacketRule}
use Rattle.sub_rules.specs.declared.packet_rule.Watched.{Watched}
use Rattle.sub_trusted.proofs.TrackerStateLemmas.{HasEndedGapFrames, HasEndedFrames, Keeps}
use Rattle.sub_trusted.proofs.TrackerStateLemmas.{HasBegunNextFrame, RunFacts}
use Rattle.sub_trusted.proofs.TrackerStateLemmas.{run_needs_rising_frames}
use Rattle.sub_trusted.proofs.TrackerStateLemmas.{tracked_run_has_its_facts}
use Rattle.sub_trusted.proofs.TrustedStepLemmas.{begins, going_back_keeps_begun_frame}
use Rattle.sub_trusted.proofs.TrustedStepLemmas.{gap_frame_reports_good_stretches}
use Rattle.sub_trusted.proofs.TrustedStepLemmas.{more_packets_report_good_stretches}
use Rattle.sub_trusted.proofs.TrustedStepLemmas.{order_events_report_good_stretches, skipped}
use Rattle.sub_trusted.proofs.TrustedStepLemmas.{skipped_packet_reports_good_stretches}
use Rattle.sub_trusted.proofs.AllTrustedStretchLemmas.{Fits, frame_before_is_an_end}
use Rattle.sub_trusted.proofs.AllTrustedStretchLemmas.{gap_frame_is_an_end_there}
use Rattle.sub_trusted.proofs.LateInvalidationLemmas.{KeepAllRules, before_eq}
use Rattle.sub_trusted.proofs.LateInvalidationLemmas.{order_fault_invalidates_last_packet}
use Rattle.sub_trusted.proofs.LateInvalidationLemmas.{packets_invalidation}
use Rattle.sub_trusted.proofs.LateInvalidationLemmas.{skipped_packet_invalidates_last_packet}
use Rattle.sub_trusted.proofs.AllTrustedLeadLemmas.{LeadsToReportOfRun, LeadsToReportOfRun-append}
use Rattle.sub_trusted.proofs.AllTrustedLeadLemmas.{LeadsToReportOfRun-both}
use Rattle.sub_trusted.proofs.AllTrustedLeadLemmas.{LeadsToReportOfRun-cons}
use Rattle.sub_trusted.proofs.AllTrustedLeadLemmas.{LeadsToReportOfRun-nil}
use Rattle.sub_laws.proofs.PrefixLemmas.{RiseTo, rising_frames_are_ordered}
use Rattle.sub_laws.proofs.RisingEndLemmas.{latest_at}
use Rattle.sub_trusted.proofs.EmittedStepLemmas.{frame_going_back_stays_after}
use Rattle.sub_trusted.proofs.EmittedStepLemmas.{frame_after_going_back, first_invalidated_frame}
use Rattle.sub_trusted.proofs.EmittedStepLemmas.{is_order_fault}
use Rattle.sub_trusted.proofs.EmittedStepLemmas.{has_risen, emits_steps_emit_events}
use Rattle.sub_trusted.proofs.AllTrustedKeptLemmas.{FollowsRange}
use Rattle.sub_trusted.proofs.AllTrustedKeptLemmas.{invalidation_reports_trusted_frames}
use Rattle.sub_trusted.proofs.AllTrustedKeptLemmas.{end_steps_lead_to_report}
use Rattle.sub_trusted.proofs.AllTrustedKeptLemmas.{following_continues_after_events}
use Rattle.sub_trusted.proofs.AllTrustedKeptLemmas.{emitted_events_continue_following}
use Rattle.sub_trusted.proofs.AllTrustedKeptLemmas.{following_holds_for_equal_frame, top}
use Rattle.sub_trusted.proofs.TrustedFrameLemmas.{rising_count_is_the_greatest, rising_part_rises}
use Rattle.sub_trusted.proofs.TrustedFrameLemmas.{rising_frame_count}
use Rattle.sub_rules.proofs.TrustedLemmas.{history_after}
use Rattle.sub_rules.specs.Trusted.{CheckStep, back_frame_of, last_packet_frame, late_run_start}
use Rattle.sub_rules.specs.Trusted.{run_of}
use Rattle.sub_rules.specs.Trusted.{first_unfinished_of}
use Rattle.sub_rules.specs.Trusted.{stays_fault_free, reports_order_fault, first_finished_of}

packet_fault_is_no_order_fault : (frame k : ℕ) (r : PacketRule) → is_order_fault
    (Reported (packet_fault r frame k)) ≡ false
unfolding is_order_fault reports_order_fault
packet_fault_is_no_order_fault frame k r = grind (arith, nat_tests)

packet_faults_are_no_order_faults : (frame k : ℕ) (rs : List PacketRule)
    → list_any is_order_fault (map (λ (r : PacketRule). Reported (packet_fault r frame k)) rs) ≡
    false
packet_faults_are_no_order_faults frame k [] = refl
packet_faults_are_no_order_faults frame k (r ∷ rs) = rw (packet_fault_is_no_order_fault frame k r)
    (packet_faults_are_no_order_faults frame k rs)

pub packet_events_have_no_order_fault : (w : Watched) (frame from : ℕ)
    (before packets : List (List ℕ)) (n : ℕ)
    → list_any is_order_fault (numbered_packet_events w frame from before packets n) ≡ false
unfolding numbered_packet_events broken_rule_events
packet_events_have_no_order_fault w frame from before packets zero = refl
packet_events_have_no_order_fault w frame from before packets (suc n) =
    list_any-append is_order_fault (numbered_packet_events w frame from before packets n) _
    ∙ rw (packet_events_have_no_order_fault w frame from before packets n)
    (packet_faults_are_no_order_faults frame (from + n) _)

pub skipped_event_is_no_order_fault : (pes : ℕ) (u : UnreadReason)
    → list_any is_order_fault (Reported (unread_fault pes (Some u)) ∷ []) ≡ false
unfolding is_order_fault reports_order_fault
skipped_event_is_no_order_fault pes u = grind (arith, nat_tests)

-- If frame n is the first of the transmission, or its number is greater than that of the frame
-- before it, no event reports that its number does not increase.
rising_frame_has_no_order_fault : (g : Criteria) (frames : Transmission) (n : ℕ)
    → (0 < n → frame_at frames (n - 1) < frame_at frames n)
    → list_any is_order_fault (order_events g frames n) ≡ false
unfolding order_events is_order_fault reports_order_fault
rising_frame_has_no_order_fault g frames n up = grind (arith, nat_tests)

rising_frame_has_no_order_event : (g : Criteria) (frames : Transmission) (n : ℕ) → 0 < n
    → frame_at frames (n - 1) < frame_at frames n
    → order_events g frames n ≡ []
unfolding order_events
rising_frame_has_no_order_event g frames n some up = grind (arith, nat_tests)

-- If the current frame was fault-free so far, and no frame is invalidated, it stays fault-free.
pub no_invalidation_keeps_clean : (clean : Bool) (d : Option ℕ) → clean ≡ true → d ≡ None
    → (clean && is_none d) ≡ true
no_invalidation_keeps_clean clean d is none = rw (is, none) refl

part_of_packets_keeps_rules : (w : Watched) (before xs ys zs : List (List ℕ))
    → KeepAllRules w before (xs ++ ys ++ zs)
    → KeepAllRules w (before ++ xs) ys
part_of_packets_keeps_rules w before xs ys zs all k l r needed =
    let size = length-append xs (ys ++ zs) in
    let more = length-append ys zs in
    let assoc = append_assoc xs ys zs in
    let at : get_or (xs ++ ys ++ zs) (length xs + k) [] ≡ get_or ys k [] =
    ap (λ (ps : List (List ℕ)). get_or ps (length xs + k) []) assoc
    ∙ get_or-append-add xs (ys ++ zs) k []
    ∙ get_or_append_left ys zs [] k l in
    let prefix : take (length xs + k) (xs ++ ys ++ zs) ≡ xs ++ take k ys =
    ap (take (length xs + k)) assoc
    ∙ take-append-add xs (ys ++ zs) k
    ∙ ap (λ (ps : List (List ℕ)). xs ++ ps) (take-append-le k ys zs (omega arith)) in
    let few : length xs + k < length (xs ++ ys ++ zs) =
    let whole = ap (λ (ps : List (List ℕ)). length ps) assoc in omega arith in
    rw (append_assoc before xs (take k ys), sym at, sym prefix)
    (all (length xs + k) few r needed)

module _ (g : Criteria) (frames : Transmission) (a b i : ℕ)
    (fits : Fits g frames a b i) where
  abbrev FollowsStretch : ℕ → ℕ → List CheckStep → Type 0
  FollowsStretch n p t = FollowsRange g frames a b i fits n p t

  abbrev LeadsToReport : (List CheckStep → Type 0) → List CheckStep → List CheckStep → Type 0
  LeadsToReport S t ms = LeadsToReportOfRun (top g frames a b i fits) b S t ms

  -- If frame i, which has the range's header, was sent and the range can still be reported, frame
  -- numbers increase up to frame n of the transmission. Assumption: they do so if no step so far
  -- reports a frame number out of order.
  run_has_rising_frames : (n x p : ℕ) (t : List CheckStep) → Keeps g frames 0 n x t
      → (has_risen t ≡ true → RiseTo frames (suc n))
      → FollowsStretch n p t
      → i < n
      → RunFacts g frames n
  run_has_rising_frames n x p t keeps rises follows l =
      let (from, low, run) = follows.run l in tracked_run_has_its_facts g frames 0 n x from t keeps
      rises run

  pub run_frame_is_in_rising_part : (n : ℕ) → n < length frames → RunFacts g frames n → n <
      rising_frame_count frames
  run_frame_is_in_rising_part n there h =
      let most = rising_count_is_the_greatest frames (length frames) (suc n) (omega arith) h.rises
      in omega arith

  pub run_frame_is_after_stretch_start : (n : ℕ) → RunFacts g frames n → i < n → a ≤ frame_at frames
      (n - 1)
  run_frame_is_after_stretch_start n h l =
      let up = rising_frames_are_ordered frames (suc n) h.rises i (n - 1) (omega arith)
      (omega arith) in
      let low = fits.low in
      omega arith

  gap_frame_leads_to_report : (n k : ℕ) (t : List CheckStep) → n < length frames → k < gap_length
      frames n
      → HasEndedGapFrames g frames 0 n k t
      → FollowsStretch n (latest_frame frames n + suc k) t
      → LeadsToReport (λ u. HasEndedGapFrames g frames 0 n (suc k) u × FollowsStretch n
      (latest_frame frames n + suc (suc k))
      u) t
      (steps_at_end g frames n n (latest_frame frames n + suc k))
  gap_frame_leads_to_report n k t there l arrives follows =
      let f : ℕ = latest_frame frames n + suc k in
      let q : ℕ = latest_frame frames n + suc (suc k) in
      LeadsToReportOfRun-both (top g frames a b i fits) b (HasEndedGapFrames g frames 0 n (suc k))
      (FollowsStretch n q) t
      (steps_at_end g frames n n f) (gap_frame_reports_good_stretches g frames 0 n k t there l
      arrives).after
      (end_steps_lead_to_report g frames a b i fits n n f q t arrives.keeps.at_once
      arrives.keeps.plain
      (omega arith) follows
      (λ below.
      let h = up below in
      let first = h.some in
      let last = h.last in
      let long = h.long in
      gap_frame_is_an_end_there frames n f first (run_frame_is_in_rising_part n there h)
      (omega arith) (omega arith))
      (λ below.
      let h = up below in
      let last = h.last in
      let long = h.long in
      frame_before_is_an_end frames n f h.some (run_frame_is_in_rising_part n there h) (omega arith)
      (omega arith))
      (λ below.
      let h = up below in
      let low = run_frame_is_after_stretch_start n h below in
      let last = h.last in
      omega arith))
    where
      up : i < n → RunFacts g frames n
      up below =
          run_has_rising_frames n (latest_frame frames n + suc k) (latest_frame frames n + suc k) t
          arrives.keeps
          arrives.rises follows below

  -- Of the frames without packets directly before frame n of the transmission, the first k have
  -- ended, and the range of frames can still be reported as trusted.
  abbrev GapFramesFollow : ℕ → ℕ → List CheckStep → Type 0
  GapFramesFollow n k u = HasEndedGapFrames g frames 0 n k u × FollowsStretch n
      (latest_frame frames n + suc k) u

  gap_frames_lead_to_report : (n k : ℕ) (t : List CheckStep) → n < length frames → k ≤ gap_length
      frames n
      → GapFramesFollow n 0 t
      → LeadsToReport (GapFramesFollow n k) t (steps_of_gap g frames n k)
  unfolding steps_of_gap
  gap_frames_lead_to_report n zero t there l arriving =
      LeadsToReportOfRun-nil (top g frames a b i fits) b (GapFramesFollow n 0) t arriving
  gap_frames_lead_to_report n (suc k) t there l arriving =
      LeadsToReportOfRun-append (top g frames a b i fits) b (GapFramesFollow n k)
      (GapFramesFollow n (suc k)) t
      (steps_of_gap g frames n k) (steps_at_end g frames n n (latest_frame frames n + suc k))
      (gap_frames_lead_to_report n k t there (omega arith) arriving)
      (λ u so. gap_frame_leads_to_report n k u there (omega arith) so.0 so.1)

  -- The first n frames of the transmission have ended, and the range of frames can still be
  -- reported as trusted.
  abbrev pub FollowsAfterFrameEnds : ℕ → List CheckStep → Type 0
  FollowsAfterFrameEnds n u = HasEndedFrames g frames 0 n u × FollowsStretch n
      (frame_at frames (n - 1) + 1) u

  order_events_lead_to_report : (n : ℕ) (t : List CheckStep) → n < length frames →
      FollowsAfterFrameEnds n t
      → LeadsToReport (GapFramesFollow n 0) t (map Emits (order_events g frames n))
  order_events_lead_to_report n t there (closed, follows) =
      LeadsToReportOfRun-both (top g frames a b i fits) b (HasEndedGapFrames g frames 0 n 0)
      (FollowsStretch n (latest_frame frames n + suc 0)) t (map Emits (order_events g frames n))
      (order_events_report_good_stretches g frames 0 n t there closed).after
      (emitted_events_continue_following g frames a b i fits n (latest_frame frames n + suc 0) t
      (order_events g frames n) (following_holds_for_equal_frame g frames a b i fits n
      (frame_at frames (n - 1) + 1) (latest_frame frames n + suc 0) t follows (λ from is.
      let run = closed.keeps.run from is in
      let below = run.below in
      let last = latest_at frames n run.rises (omega arith) in
      omega arith))
      (λ early.
      rising_frame_has_no_order_fault g frames n
      (λ first. rising_part_rises frames n first (let in_it = fits.there in omega arith)))
      (λ l x invalidation. past l x invalidation))
    where
      past : i < n → (x : ℕ) → first_invalidated_frame t (order_events g frames n) ≡ Some x
          → (b < frame_after_going_back t x) × (b < latest_frame frames n + suc 0)
      past l x invalidation =
          let (from, low, is) = follows.run l in
          let run = closed.keeps.run from is in
          let most = rising_count_is_the_greatest frames (length frames) n (omega arith) run.rises
          in
          let last = latest_at frames n run.rises (omega arith) in
          let at : x ≡ last_packet_frame t = order_fault_invalidates_last_packet t g frames n x
          invalidation in
          let here = closed.last (omega arith) in
          elim (cases_lt n (rising_frame_count frames)) [
            | inl more ↦
                let none =
                rising_frame_has_no_order_event g frames n (omega arith) (rising_part_rises frames n
                (omega arith) more) in
                let nothing : first_invalidated_frame t [] ≡ Some x =
                subst (λ (es : List Event). first_invalidated_frame t es ≡ Some x) none invalidation
                in
                absurd (none-some x nothing)
            | inr all ↦
                let same : rising_frame_count frames ≡ n = omega arith in
                let ends_before_falling_frame : b < frame_at frames (rising_frame_count frames -
                1) = fits.ends_before_falling_frame (omega arith) in
                let back : frame_at frames (rising_frame_count frames - 1) ≡ frame_at frames
                (n - 1) =
                ap (λ (k : ℕ). frame_at frames (k - 1)) same in (
                  frame_going_back_stays_after t x b (omega arith)
                      (λ r is. follows.back l (omega arith) r is),
                  omega arith,
                )
          ]

  -- Frame n of the transmission has begun, and the range of frames can still be reported as
  -- trusted.
  pub record Sending (n : ℕ) (t : List CheckStep) : Type 0 where
    pub follows : FollowsStretch n (frame_at frames n) t
    pub clean : i ≤ n → stays_fault_free t ≡ true
    pub back : i < n → b < frame_at frames n → (r : ℕ) → back_frame_of t ≡ Some r → b < r

  abbrev pub FollowsInOpenFrame : ℕ → List (List ℕ) → List CheckStep → Type 0
  FollowsInOpenFrame n packets u = HasBegunNextFrame g frames 0 n packets u × Sending n u

  abbrev run_start_before_end : ℕ → Option ℕ
  run_start_before_end n = first_unfinished_before g frames n (frame_at frames n)

  beginning_leads_to_open_frame : (n : ℕ) (t : List CheckStep) → n < length frames
      → GapFramesFollow n (gap_length frames n) t
      → LeadsToReport (FollowsInOpenFrame n []) (Begins (frame_at frames n) ∷ t)
      (steps_before g (run_start_before_end n))
  unfolding run_of first_finished_of last_packet_frame first_unfinished_of late_run_start
      back_frame_of
      stays_fault_free
      reports_order_fault
  beginning_leads_to_open_frame n t there (arrives, follows) = go (needs_back_steps g) refl
    where
      now : FollowsStretch n (frame_at frames n) t
      now =
          following_holds_for_equal_frame g frames a b i fits n (latest_frame frames n + suc
          (gap_length frames n))
          (frame_at frames n) t follows (λ from is.
          (tracked_run_has_its_facts g frames 0 n
          (latest_frame frames n + suc (gap_length frames n)) from t
          arrives.keeps
          arrives.rises is).long)

      sent : List CheckStep
      sent = Begins (frame_at frames n) ∷ t

      opens : HasBegunNextFrame g frames 0 n [] sent
      opens = begins g frames 0 n t there arrives

      clean : i ≤ n → has_risen t ≡ true
      clean l = elim (cases_lt i n) [
        | inl below ↦
            let (from, low, is) = follows.run below in
            run_needs_rising_frames (has_risen t) (run_of t) from arrives.keeps.falls is
        | inr not_yet ↦ follows.rises (omega arith)
      ]

      after : i < n → b < frame_at frames n → (r : ℕ) → run_start_before_end n ≡ Some r → b < r
      after l past r is =
          let h =
          run_has_rising_frames n (latest_frame frames n + suc (gap_length frames n))
          (latest_frame frames n + suc (gap_length frames n)) t arrives.keeps arrives.rises follows
          l in
          let up = h.up in
          fits.back n (frame_at frames n - 1) r
          (frame_before_is_an_end frames n (frame_at frames n) h.some (run_frame_is_in_rising_part n
          there h) (omega arith)
          (omega arith))
          (omega arith) (sym (before_eq g frames n (frame_at frames n) h.some) ∙ is)

      go : (c : Bool) → needs_back_steps g ≡ c
          → LeadsToReport (FollowsInOpenFrame n []) sent
          (if c then GoesBack (run_start_before_end n) ∷ [] else [])
      go false is =
          let none = arrives.keeps.plain is in
          LeadsToReportOfRun-nil (top g frames a b i fits) b (FollowsInOpenFrame n []) sent (
            opens,
            record {
              follows = assumption now;
              clean = clean;
              back = λ l past r some. absurd (none-some r (sym none ∙ some));
            },
          )
      go true is =
          LeadsToReportOfRun-cons (top g frames a b i fits) b (FollowsInOpenFrame n []) sent
          (GoesBack (run_start_before_end n)) []
          (LeadsToReportOfRun-nil (top g frames a b i fits) b (FollowsInOpenFrame n [])
          (GoesBack (run_start_before_end n) ∷
          sent) (
            going_back_keeps_begun_frame g frames 0 n sent opens is,
            record {
              follows = record {
                rises = now.rises;
                run = now.run;
                low = now.low;
                whole = now.whole;
                first_unfinished = now.first_unfinished;
                back = λ l past r some. after l (omega arith) r some;
              };
              clean = clean;
              back = after;
            },
          ))

  pub arrival_steps_lead_to_open_frame : (n : ℕ) (t : List CheckStep) → n < length frames →
      FollowsAfterFrameEnds n t
      → LeadsToReport (FollowsInOpenFrame n []) t (steps_of_arrival g frames n)
  arrival_steps_lead_to_open_frame n t there past =
      LeadsToReportOfRun-append (top g frames a b i fits) b
      (GapFramesFollow n (gap_length frames n)) (FollowsInOpenFrame n [])
      t
      (map Emits (order_events g frames n) ++ steps_of_gap g frames n (gap_length frames n))
      (Begins (frame_at frames n) ∷ steps_before g (run_start_before_end n))
      (LeadsToReportOfRun-append (top g frames a b i fits) b (GapFramesFollow n 0)
      (GapFramesFollow n (gap_length frames n)) t (map Emits (order_events g frames n))
      (steps_of_gap g frames n (gap_length frames n)) (order_events_lead_to_report n t there past)
      (λ u so. gap_frames_lead_to_report n (gap_length frames n) u there
      (le_refl (gap_length frames n)) so))
      (λ v here.
      LeadsToReportOfRun-cons (top g frames a b i fits) b (FollowsInOpenFrame n []) v
      (Begins (frame_at frames n))
      (steps_before g (run_start_before_end n)) (beginning_leads_to_open_frame n v there here))

  pub packet_events_lead_to_report : (n : ℕ) (t : List CheckStep) (es : List Event) → Sending n t
      → list_any is_order_fault es ≡ false
      → (i ≡ n → first_invalidated_frame t es ≡ None)
      → (i < n → (x : ℕ) → first_invalidated_frame t es ≡ Some x → (b < frame_after_going_back t x)
      ×
      (b < frame_at frames n))
      → LeadsToReport (Sending n) t (map Emits es)
  packet_events_lead_to_report n t es sending orders calm past = go (first_invalidated_frame t es)
      refl
    where
      back : i < n → b < frame_at frames n
          → (r : ℕ) → back_frame_of (history_after t (map Emits es)) ≡ Some r
          → b < r
      back l past r is = sending.back l past r (sym (emits_steps_emit_events t es).back_frames_agree
          ∙ is)

      follow : (i < n → first_invalidated_frame t es ≡ None)
          → FollowsStretch n (frame_at frames n) (history_after t (map Emits es))
      follow none =
          following_continues_after_events g frames a b i fits n (frame_at frames n) t
          (history_after t (map Emits es)) es sending.follows (emits_steps_emit_events t es)
          (λ l. orders) none

      go : (o : Option ℕ) → first_invalidated_frame t es ≡ o → LeadsToReport (Sending n) t
          (map Emits es)
      go None is =
          inr
          (record {
            follows = follow (λ l. is);
            clean = λ l.
                (emits_steps_emit_events t es).clean_flags_agree
                ∙ no_invalidation_keeps_clean (stays_fault_free t) (first_invalidated_frame t es)
                (sending.clean l)
                is;
            back = back;
          })
      go (Some x) is = elim (cases_lt i n) [
        | inl l ↦
            invalidation_reports_trusted_frames g frames a b i fits n (frame_at frames n) t es x
            sending.follows l
            is
            (past l x is) (Sending n)
        | inr not_yet ↦
            inr
            (record {
              follows = follow (λ l. absurd (omega arith));
              clean = λ l.
                  let none = calm (omega arith) in absurd (none-some x (sym none ∙ is));
              back = back;
            })
      ]

  pub later_frame_is_in_stretch : (n : ℕ) (packets : List (List ℕ)) (t : List CheckStep) → n <
      length frames
      → FollowsInOpenFrame n packets t
      → i < n
      → (n < rising_frame_count frames) × (a ≤ frame_at frames n)
  later_frame_is_in_stretch n packets t there (opens, sending) l =
      let h =
      run_has_rising_frames n (frame_at frames n) (frame_at frames n) t opens.keeps opens.rises
      sending.follows
      l in
      let low = run_frame_is_after_stretch_start n h l in
      let up = h.up in
      (run_frame_is_in_rising_part n there h, omega arith)

  pub more_packets_lead_to_open_frame : (n : ℕ) (packets more rest : List (List ℕ))
      (t : List CheckStep)
      → n < length frames
      → packets_of_frame frames n ≡ packets ++ more ++ rest
      → FollowsInOpenFrame n packets t
      → LeadsToReport (FollowsInOpenFrame n (packets ++ more)) t
      (map Emits
      (numbered_packet_events g.watched (frame_at frames n) (length packets)
      (packets_before frames n ++ packets) more (length more)))
  more_packets_lead_to_open_frame n packets more rest t there whole (opens, sending) =
      let so_far : List (List ℕ) = packets_before frames n ++ packets in
      let es : List Event =
      numbered_packet_events g.watched (frame_at frames n) (length packets) so_far more
      (length more) in
      let finds =
      packets_invalidation t g.watched (frame_at frames n) (length packets) so_far
      more in
      LeadsToReportOfRun-both (top g frames a b i fits) b (HasBegunNextFrame g frames 0 n
      (packets ++ more)) (Sending n) t
      (map Emits es) (more_packets_report_good_stretches g frames 0 n packets more t there
      opens).after
      (packet_events_lead_to_report n t es sending
      (packet_events_have_no_order_fault g.watched (frame_at frames n) (length packets) so_far more
      (length more))
      (λ same.
      let here : frame_at frames i ≡ frame_at frames n = ap (frame_at frames) same in
      let low = fits.low in
      let high = fits.high in
      let in_it = fits.there in
      finds.calm (keeps (omega arith) (omega arith) (omega arith)))
      (λ l x invalidation.
      let (in_it, low) = later_frame_is_in_stretch n packets t there (opens, sending) l in
      let at : x ≡ frame_at frames n = finds.at x invalidation in
      elim (cases_lt b (frame_at frames n)) [
        | inl past ↦ (frame_going_back_stays_after t x b (omega arith) (sending.back l past), past)
        | inr not_past ↦
            let none = finds.calm (keeps in_it low (omega arith)) in
            absurd (none-some x (sym none ∙ invalidation))
      ]))
    where
      keeps : n < rising_frame_count frames → a ≤ frame_at frames n → frame_at frames n ≤ b
          → KeepAllRules g.watched (packets_before frames n ++ packets) more
      keeps in_it low high =
          part_of_packets_keeps_rules g.watched (packets_before frames n) packets more rest
          (subst (λ (ps : List (List ℕ)). KeepAllRules g.watched (packets_before frames n) ps) whole
          (fits.packets n in_it low high))

  pub skipped_packet_leads_to_next_frame : (n pes : ℕ) (u : UnreadReason) (t : List CheckStep) → n ≤
      length frames
      → (0 < n → n ≤ rising_frame_count frames → (frame_at frames (n - 1) < a) ⊎
      (b < frame_at frames (n - 1)))
      → FollowsAfterFrameEnds n t
      → LeadsToReport (FollowsAfterFrameEnds n) t
      (map Emits (Reported (unread_fault pes (Some u)) ∷ []))
  skipped_packet_leads_to_next_frame n pes u t within all_skipped_packets_are_outside
      (closed, follows) =
      let es : List Event = Reported (unread_fault pes (Some u)) ∷ [] in
      let p : ℕ = frame_at frames (n - 1) + 1 in
      LeadsToReportOfRun-both (top g frames a b i fits) b (HasEndedFrames g frames 0 n)
      (FollowsStretch n p) t (map Emits es)
      (skipped_packet_reports_good_stretches g frames 0 n pes u t within closed).after
      (emitted_events_continue_following g frames a b i fits n p t es follows
      (λ early. skipped_event_is_no_order_fault pes u)
      (λ l x invalidation.
      let (from, low, run) = follows.run l in
      let most = rising_count_is_the_greatest frames (length frames) n within
      (closed.keeps.run from run).rises in
      let up = rising_frames_are_ordered frames n (closed.keeps.run from run).rises i (n - 1)
      (omega arith)
      (omega arith) in
      let from_low = fits.low in
      let is : Some (last_packet_frame t) ≡ Some x = sym (skipped_packet_invalidates_last_packet t
      pes u) ∙ invalidation in
      let same : last_packet_frame t ≡ x = same_Some (last_packet_frame t) x is in
      let last = closed.last (omega arith) in
      elim (all_skipped_packets_are_outside (omega arith) most) [
        | inl before ↦ absurd (omega arith)
        | inr after ↦ (
          frame_going_back_stays_after t x b (omega arith) (λ r is. follows.back l (omega arith) r
              is),
          omega arith,
        )
      ]))

  pub skipped_packet_leads_to_open_frame : (n pes : ℕ) (packets : List (List ℕ)) (u : UnreadReason)
      (t : List CheckStep)
      → n < length frames
      → (n < rising_frame_count frames → (frame_at frames n < a) ⊎ (b < frame_at frames n))
      → FollowsInOpenFrame n packets t
      → LeadsToReport (FollowsInOpenFrame n packets) t
      (map Emits (Reported (unread_fault pes (Some u)) ∷ []))
  skipped_packet_leads_to_open_frame n pes packets u t there all_skipped_packets_are_outside
      (opens, sending) =
      let es : List Event = Reported (unread_fault pes (Some u)) ∷ [] in
      LeadsToReportOfRun-both (top g frames a b i fits) b (HasBegunNextFrame g frames 0 n packets)
      (Sending n) t
      (map Emits es) (skipped g frames 0 n pes packets u t there opens).after
      (packet_events_lead_to_report n t es sending (skipped_event_is_no_order_fault pes u)
      (λ same.
      let here : frame_at frames i ≡ frame_at frames n = ap (frame_at frames) same in
      let low = fits.low in
      let high = fits.high in
      let in_it = fits.there in
      elim (all_skipped_packets_are_outside (omega arith)) [
        | inl before ↦ absurd (omega arith)
        | inr after ↦ absurd (omega arith)
      ])
      (λ l x invalidation.
      let (in_it, low) = later_frame_is_in_stretch n packets t there (opens, sending) l in
      let is : Some (last_packet_frame t) ≡ Some x = sym (skipped_packet_invalidates_last_packet t
      pes u) ∙ invalidation in
      let same : last_packet_frame t ≡ x = same_Some (last_packet_frame t) x is in
      let last = opens.last in
      elim (all_skipped_packets_are_outside in_it) [
        | inl before ↦ absurd (omega arith)
        | inr after ↦ (
          frame_going_back_stays_after t x b (omega arith) (sending.back l after),
          after,
        )
      ]))
