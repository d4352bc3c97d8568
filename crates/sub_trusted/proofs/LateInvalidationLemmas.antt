-- A fault of a packet that affects receivers invalidates the packet's frame. A rule that is broken
-- at the end of a frame invalidates this frame or, if the page is overdue, the first frame with the
-- unfinished page.
use Rattle.std.proofs.lemmas.Bool.Decides.{nat_tests}
use Rattle.std.proofs.Common.{◌≡◌, ℕ, zero, suc, ◌+◌, ◌-◌, ◌<◌, ◌≤◌, Bool, true, false, cond, List}
use Rattle.std.proofs.Common.{[], ◌∷◌, ◌++◌, map, take, get_or, length, max, Option, Some, None}
use Rattle.std.proofs.Common.{refl, sym, subst, arith, append_assoc, length-append, le_refl, inl}
use Rattle.std.proofs.Common.{inr, unwrap_or, if◌then◌else◌, ◌==◌}
use Rattle.std.proofs.Math.Seq.{take-append-add}
use Rattle.std.proofs.lemmas.Bool.{cases_lt}
use Rattle.std.proofs.lemmas.List.{get_or-append-add, get_or_append_left, take-append-le}
use Rattle.std.proofs.lemmas.List.Elements.{All-append, All-cons, All-nil}
use Rattle.std.proofs.lemmas.Option.{none-some}
use Rattle.std.specs.List.{list_any}
use Rattle.sub_rules.specs.Events.{place_of_broken_rule, end_events, end_rule_fault}
use Rattle.sub_rules.specs.Events.{first_header_events, gap_length, is_unfinished, latest_frame}
use Rattle.sub_rules.specs.Events.{order_events, packet_fault, numbered_packet_events, rule_events}
use Rattle.sub_rules.specs.Events.{broken_rule_events, first_unfinished_in_frames}
use Rattle.sub_rules.specs.Events.{first_unfinished_in_gap, extended_unfinished_run}
use Rattle.sub_rules.specs.Events.{first_unfinished_before, unfinished_run_start, unread_fault}
use Rattle.sub_rules.specs.FrameRules.{Criteria, UnreadReason, frame_at}
use Rattle.sub_rules.specs.PacketTests.{breaks}
use Rattle.sub_rules.specs.Transmission.{Transmission}
use Rattle.sub_rules.specs.declared.end_rule.EndRule.{EndRule}
use Rattle.sub_rules.specs.declared.event.Event.TheVariants.{Reported}
use Rattle.sub_rules.specs.declared.packet_rule.PacketRule.{PacketRule}
use Rattle.sub_rules.specs.declared.packet_rule.Watched.{Watched}
use Rattle.sub_rules.proofs.AnyReportedLemmas.{end_events_have_no_other_number}
use Rattle.sub_rules.proofs.EndRuleLemmas.{no_active_faults_leave_rule_unbroken}
use Rattle.sub_rules.proofs.EndRuleLemmas.{unbroken_rules_leave_no_faults}
use Rattle.sub_laws.specs.CleanStretch.{is_needed_by_receivers}
use Rattle.sub_trusted.proofs.InvalidationLemmas.{HoldsForEachTrusted, HoldsIfTrusted, each-own}
use Rattle.sub_laws.proofs.FirstFoundLemmas.{MatchDecides, MatchDecides-like, first_match}
use Rattle.sub_laws.proofs.FirstFoundLemmas.{matches_of_earlier_parts_decide}
use Rattle.sub_laws.proofs.FirstFoundLemmas.{end_events_decide_match, packet_events_decide_match}
use Rattle.sub_rules.specs.Trusted.{CheckStep, invalidated_by, last_packet_frame, late_run_start}
use Rattle.sub_rules.specs.Trusted.{has_no_active_faults}
use Rattle.sub_rules.specs.Trusted.{reports_order_fault}
use Rattle.sub_rules.specs.declared.active_faults.ActiveFaults.{ActiveFaults}
use Rattle.sub_trusted.proofs.EmittedStepLemmas.{is_order_fault}

-- Packet k of `packets`, which follow the packets `before`, breaks no rule that affects receivers.
abbrev pub KeepsEachRule : Watched → List (List ℕ) → List (List ℕ) → ℕ → Type 0
KeepsEachRule w before packets k =
    (r : PacketRule)
    → is_needed_by_receivers r ≡ true
    → breaks r w (before ++ take k packets) (get_or packets k []) ≡ false

abbrev pub KeepAllRules : Watched → List (List ℕ) → List (List ℕ) → Type 0
KeepAllRules w before packets = (k : ℕ) → k < length packets → KeepsEachRule w before packets k

pub keeps_rules_append : (w : Watched) (before xs ys : List (List ℕ))
    → KeepAllRules w before xs
    → KeepAllRules w (before ++ xs) ys
    → KeepAllRules w before (xs ++ ys)
keeps_rules_append w before xs ys one two k l r needed = elim (cases_lt k (length xs)) [
  | inl early ↦
      rw (take-append-le k xs ys (omega arith), get_or_append_left xs ys [] k early)
      (one k early r needed)
  | inr late ↦
      let i : ℕ = k - length xs in
      let at : length xs + i ≡ k = omega arith in
      let few : i < length ys = omega (arith, l, length-append xs ys) in
      subst (λ j. breaks r w (before ++ take j (xs ++ ys)) (get_or (xs ++ ys) j []) ≡ false) at
      (rw (
        take-append-add xs ys i,
        get_or-append-add xs ys i [],
        sym (append_assoc before xs (take i ys)),
      ) (two i few r needed))
]

module _ (t : List CheckStep) (w : Watched) (frame from : ℕ)
    (before packets : List (List ℕ))
  where
    -- The fault of a packet invalidates the packet's frame if and only if the broken rule affects
    -- receivers.
    packet_fault_invalidates_its_frame : (k : ℕ) (r : PacketRule)
        → invalidated_by t (Reported (packet_fault r frame k)) ≡ cond (is_needed_by_receivers r)
        (Some frame)
        None
    unfolding invalidated_by
    packet_fault_invalidates_its_frame k r = grind (arith, nat_tests)

    packet_events_invalidate_their_frame : (k : ℕ)
        → MatchDecides (invalidated_by t) (λ x. x ≡ frame) (KeepsEachRule w before packets k)
        (KeepsEachRule w before packets k)
        (broken_rule_events w frame (from + k) (before ++ take k packets) (get_or packets k []))
    packet_events_invalidate_their_frame k =
        MatchDecides-like
        (λ keeps r passes.
        let is = packet_fault_invalidates_its_frame (from + k) r in let keep = keeps r in grind
        (arith, nat_tests))
        (λ none r needed.
        let is = packet_fault_invalidates_its_frame (from + k) r in let silent = none r in grind
        (arith, nat_tests))
        (packet_events_decide_match (invalidated_by t) (λ x. x ≡ frame) frame (from + k)
        (λ r x e. let is = packet_fault_invalidates_its_frame (from + k) r in grind
        (arith, nat_tests)) w _ _)

    -- The events of packets invalidate their frame if and only if one of the packets breaks a rule
    -- that affects receivers.
    pub packets_invalidation :
        MatchDecides (invalidated_by t) (λ x. x ≡ frame) (KeepAllRules w before packets)
        (KeepAllRules w before packets)
        (numbered_packet_events w frame from before packets (length packets))
    unfolding numbered_packet_events
    packets_invalidation =
        matches_of_earlier_parts_decide (numbered_packet_events w frame from before packets)
        (λ k. broken_rule_events w frame (from + k) (before ++ take k packets)
        (get_or packets k []))
        (KeepsEachRule w before packets) (length packets) refl (λ k. refl)
        (λ k l past. packet_events_invalidate_their_frame k)

module _ (P : ℕ → ℕ → Type 0) where
  no_trusted_frames_in_rule_events : (frame k : ℕ) (rs : List PacketRule)
      → HoldsForEachTrusted P (map (λ (r : PacketRule). Reported (packet_fault r frame k)) rs)
  no_trusted_frames_in_rule_events frame k [] = All-nil (HoldsIfTrusted P)
  no_trusted_frames_in_rule_events frame k (r ∷ rs) = All-cons (HoldsIfTrusted P) _ _ tt
      (no_trusted_frames_in_rule_events frame k rs)

  pub no_trusted_frames_in_packet_events : (w : Watched) (frame from : ℕ)
      (before packets : List (List ℕ)) (n : ℕ)
      → HoldsForEachTrusted P (numbered_packet_events w frame from before packets n)
  unfolding numbered_packet_events broken_rule_events
  no_trusted_frames_in_packet_events w frame from before packets zero = All-nil (HoldsIfTrusted P)
  no_trusted_frames_in_packet_events w frame from before packets (suc n) =
      All-append (HoldsIfTrusted P) (numbered_packet_events w frame from before packets n) _
      (no_trusted_frames_in_packet_events w frame from before packets n)
      (no_trusted_frames_in_rule_events frame (from + n) _)

  pub no_trusted_frames_in_end_events : (old : ActiveFaults) (before : ℕ) (new : ActiveFaults)
      (f : ℕ)
      → HoldsForEachTrusted P (end_events old before new f)
  no_trusted_frames_in_end_events old before new f =
      each-own P 0 (end_events old before new f) (end_events_have_no_other_number 0 old before new
      f)

  pub no_trusted_frames_in_order_events : (g : Criteria) (frames : Transmission) (i : ℕ)
      → HoldsForEachTrusted P (order_events g frames i)
  unfolding order_events
  no_trusted_frames_in_order_events g frames i = each-own P i (order_events g frames i)
      (grind (arith, nat_tests))

  pub no_trusted_frames_in_header_events : (g : Criteria) (frames : Transmission) (i : ℕ)
      → HoldsForEachTrusted P (first_header_events g frames i)
  unfolding first_header_events
  no_trusted_frames_in_header_events g frames i =
      each-own P i (first_header_events g frames i) (grind (arith, nat_tests))

module _ (t : List CheckStep) (g : Criteria) (frames : Transmission) where
  pub order_fault_invalidates_last_packet : (i x : ℕ) → first_match (invalidated_by t)
      (order_events g frames i) ≡ Some x
      → x ≡ last_packet_frame t
  unfolding order_events invalidated_by
  order_fault_invalidates_last_packet i x e = grind (arith, nat_tests)

  pub header_fault_invalidates_nothing : (i : ℕ)
      → first_match (invalidated_by t) (first_header_events g frames i) ≡ None
  unfolding first_header_events invalidated_by
  header_fault_invalidates_nothing i = grind (arith, nat_tests)

-- If frame i is not the first of the transmission, and no event reports that its number does not
-- increase, its number is greater than that of frame i - 1.
pub no_order_fault_means_rising : (g : Criteria) (frames : Transmission) (i : ℕ)
    → list_any is_order_fault (order_events g frames i) ≡ false
    → 0 < i
    → frame_at frames (i - 1) < frame_at frames i
unfolding order_events is_order_fault reports_order_fault
no_order_fault_means_rising g frames i none some = grind (arith, nat_tests)

-- A skipped PES packet invalidates the frame of the last PES packet that was not skipped, or frame
-- 0 if there is none.
pub skipped_packet_invalidates_last_packet : (t : List CheckStep) (pes : ℕ) (u : UnreadReason)
    → first_match (invalidated_by t) (Reported (unread_fault pes (Some u)) ∷ []) ≡ Some
    (last_packet_frame t)
unfolding invalidated_by
skipped_packet_invalidates_last_packet t pes u = grind (arith, nat_tests)

-- A broken rule invalidates the frame at whose end it is checked or, if the page is overdue, the
-- first frame with the unfinished page.
end_fault_invalidates_run_start : (t : List CheckStep) (rule : EndRule) (f : ℕ) (cell : ℕ × ℕ)
    → invalidated_by t (Reported (end_rule_fault rule f cell)) ≡ Some (unwrap_or (late_run_start t)
    f)
unfolding invalidated_by
end_fault_invalidates_run_start t rule f cell = grind arith

end_rule_events_invalidate_run : (t : List CheckStep) (rule : EndRule) (before f : ℕ)
    (old new : Option (ℕ × ℕ))
    → MatchDecides (invalidated_by t) (λ x. x ≡ unwrap_or (late_run_start t) f) (new ≡ None)
    (old ≡ None → new ≡ None)
    (rule_events rule old before new f)
unfolding invalidated_by
end_rule_events_invalidate_run t rule before f old new = grind
    (arith, nat_tests, end_fault_invalidates_run_start)

pub end_events_invalidate_run : (t : List CheckStep) (before f : ℕ) (old new : ActiveFaults)
    → MatchDecides (invalidated_by t) (λ x. x ≡ unwrap_or (late_run_start t) f)
    (has_no_active_faults new ≡ true)
    (has_no_active_faults old ≡ true → has_no_active_faults new ≡ true) (end_events old before new
    f)
end_events_invalidate_run t before f old new =
    MatchDecides-like (no_active_faults_leave_rule_unbroken new)
    (λ each was. unbroken_rules_leave_no_faults new
    (λ rule. each rule (no_active_faults_leave_rule_unbroken old was rule)))
    (end_events_decide_match old before new f
    (λ rule. end_rule_events_invalidate_run t rule before f (place_of_broken_rule rule old)
    (place_of_broken_rule rule new)))

pub late_start_is_at_most_frame : (late : Bool) (first_unfinished : Option ℕ) (f : ℕ)
    → ((r : ℕ) → first_unfinished ≡ Some r → r ≤ f)
    → unwrap_or (if late then first_unfinished else None) f ≤ f
late_start_is_at_most_frame late first_unfinished f h = grind (arith, nat_tests)

module _ (g : Criteria) (frames : Transmission) where
  bound : (b : ℕ) (first_unfinished : Option ℕ) (un : Bool) (f r : ℕ) → extended_unfinished_run
      first_unfinished un f ≡ Some r
      → f ≤ b
      → ((s : ℕ) → first_unfinished ≡ Some s → s ≤ b)
      → r ≤ b
  bound b first_unfinished un f r e l h = grind (arith, nat_tests)

  run_start_in_gap_is_bounded : (n : ℕ) (first_unfinished : Option ℕ) (k r : ℕ) →
      first_unfinished_in_gap g frames n
      first_unfinished k ≡ Some r
      → ((s : ℕ) → first_unfinished ≡ Some s → s ≤ latest_frame frames n)
      → r ≤ latest_frame frames n + k
  unfolding first_unfinished_in_gap
  run_start_in_gap_is_bounded n first_unfinished zero r e h = let low = h r e in omega arith
  run_start_in_gap_is_bounded n first_unfinished (suc k) r e h =
      bound (latest_frame frames n + suc k) (first_unfinished_in_gap g frames n first_unfinished k)
      (is_unfinished g frames n (latest_frame frames n + suc k)) (latest_frame frames n + suc k) r e
      (le_refl (latest_frame frames n + suc k))
      (λ s is. let low = run_start_in_gap_is_bounded n first_unfinished k s is h in omega arith)

  gap_ends_before_next_frame : (i : ℕ)
      → latest_frame frames i + gap_length frames i ≤ max (latest_frame frames i)
      (frame_at frames i)
  unfolding gap_length
  gap_ends_before_next_frame i = grind (arith, nat_tests)

  run_start_in_frames_is_bounded : (n r : ℕ) → first_unfinished_in_frames g frames n ≡ Some r → r ≤
      latest_frame frames n
  unfolding first_unfinished_in_frames latest_frame
  run_start_in_frames_is_bounded zero r e = grind (arith, nat_tests, none-some)
  run_start_in_frames_is_bounded (suc i) r e = grind (
    arith,
    nat_tests,
    bound,
    run_start_in_gap_is_bounded,
    gap_ends_before_next_frame,
    (run_start_in_frames_is_bounded i),
  )

  -- If frame f is not before any frame sent so far, the run of unfinished frames at the end of
  -- frame f does not begin after f.
  run_start_is_at_most_frame : (n f r : ℕ) → unfinished_run_start g frames n f ≡ Some r →
      latest_frame frames n
      ≤ f
      → r ≤ f
  unfolding unfinished_run_start
  run_start_is_at_most_frame n f r e l = grind (
    arith,
    nat_tests,
    run_start_in_gap_is_bounded,
    run_start_in_frames_is_bounded,
  )

  -- If the page is unfinished at the end of the frame before f, and f is after all frames sent so
  -- far, then a frame was sent, and the run of unfinished frames does not begin after f.
  pub first_unfinished_before_at_most : (n f r : ℕ) → first_unfinished_before g frames n f ≡ Some r
      → (0 < n → latest_frame frames n < f)
      → (0 < n) × (r ≤ f)
  unfolding first_unfinished_before
  first_unfinished_before_at_most n f r h1 h2 = grind
      (arith, nat_tests, none-some, run_start_is_at_most_frame)

  pub before_eq : (n f : ℕ) → 0 < n
      → first_unfinished_before g frames n f ≡ unfinished_run_start g frames n (f - 1)
  unfolding first_unfinished_before
  before_eq zero f some = absurd (omega arith)
  before_eq (suc n) f some = refl

  -- The first frame of the current run of unfinished frames at the end of frame f; `None` if the
  -- page is finished there, or if `within` is 0.
  abbrev pub seen_run_start : ℕ → ℕ → Option ℕ
  seen_run_start n f = if g.within == 0 then None else unfinished_run_start g frames n f

  pub seen_run_start_is_the_start : (n f r : ℕ) → seen_run_start n f ≡ Some r → unfinished_run_start
      g frames n f ≡
      Some r
  seen_run_start_is_the_start n f r e = grind (arith, nat_tests)

  pub seen_run_start_is_bounded : (n f r : ℕ) → seen_run_start n f ≡ Some r → latest_frame frames n
      ≤ f → r
      ≤ f
  seen_run_start_is_bounded n f r e l = run_start_is_at_most_frame n f r
      (seen_run_start_is_the_start n f r e) l
