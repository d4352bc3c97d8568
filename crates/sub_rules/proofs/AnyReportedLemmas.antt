-- Of the events of a frame, only those about frame numbers can have a PES packet number, which is
-- the number of the frame's own PES packet. So a test for PES packet numbers needs only these
-- events.
use Rattle.std.proofs.lemmas.Bool.Decides.{nat_tests}
use Rattle.std.proofs.Common.{◌≡◌, ℕ, zero, suc, ◌+◌, ◌==◌, Bool, true, false, not, List, [], ◌∷◌}
use Rattle.std.proofs.Common.{◌++◌, map, length, Option, refl, ◌∙◌, ap₂, arith}
use Rattle.std.specs.List.{list_any}
use Rattle.std.proofs.lemmas.Bool.{or_parts}
use Rattle.std.proofs.lemmas.List.Folds.{list_any-append}
use Rattle.sub_rules.specs.Events.{closing_events, end_events, fault_ending_events}
use Rattle.sub_rules.specs.Events.{first_header_events, no_active_faults}
use Rattle.sub_rules.specs.Events.{order_events, packet_fault, numbered_packet_events}
use Rattle.sub_rules.specs.Events.{unread_or_late_events}
use Rattle.sub_rules.specs.Events.{broken_rule_events, active_faults_at}
use Rattle.sub_rules.specs.FrameRules.{Criteria, UnreadReason, end_frame}
use Rattle.sub_rules.specs.Transmission.{Transmission}
use Rattle.sub_rules.specs.declared.event.Event.{Event}
use Rattle.sub_rules.specs.declared.event.Event.TheVariants.{Reported, Trusted}
use Rattle.sub_rules.specs.declared.fault.CheckFault.TheVariants as fault
use Rattle.sub_rules.specs.declared.packet_rule.PacketRule.{PacketRule}
use Rattle.sub_rules.specs.declared.packet_rule.Watched.{Watched}
use Rattle.sub_rules.specs.Trusted.{with_pes_number}
use Rattle.sub_rules.specs.declared.active_faults.ActiveFaults.{ActiveFaults}
use Rattle.sub_rules.proofs.EndRuleLemmas.{end_events_fail_test}
use Rattle.sub_rules.proofs.FrameEvents.{frame_events, gap_events}

module _ (test : Event → Bool)
    (at_end : (old : ActiveFaults) (before : ℕ) (new : ActiveFaults) (f : ℕ)
    → list_any test (end_events old before new f) ≡ false)
    (of_rule : (r : PacketRule) (frame k : ℕ) → test (Reported (packet_fault r frame k)) ≡ false)
  where
    list_any_ignores_failing_tail : (xs ys : List Event) → list_any test ys ≡ false
        → list_any test (xs ++ ys) ≡ list_any test xs
    list_any_ignores_failing_tail xs ys none = let both = list_any-append test xs ys in grind
        (arith, nat_tests)

    packet_faults_fail_test : (frame k : ℕ) (rs : List PacketRule)
        → list_any test (map (λ (r : PacketRule). Reported (packet_fault r frame k)) rs) ≡ false
    packet_faults_fail_test frame k [] = refl
    packet_faults_fail_test frame k (r ∷ rs) = rw (of_rule r frame k) (packet_faults_fail_test frame
        k rs)

    packet_events_fail_test : (w : Watched) (frame from : ℕ) (before packets : List (List ℕ))
        (n : ℕ)
        → list_any test (numbered_packet_events w frame from before packets n) ≡ false
    unfolding numbered_packet_events broken_rule_events
    packet_events_fail_test w frame from before packets zero = refl
    packet_events_fail_test w frame from before packets (suc n) =
        list_any_ignores_failing_tail _ _ (packet_faults_fail_test frame (from + n) _) ∙
        packet_events_fail_test w frame from before packets n

    module _ (g : Criteria) (frames : Transmission) where
      gap_events_fail_test : (i n : ℕ) → list_any test (gap_events g frames i n) ≡ false
      unfolding gap_events
      gap_events_fail_test i zero = refl
      gap_events_fail_test i (suc n) = list_any_ignores_failing_tail _ _ (at_end _ _ _ _) ∙
          gap_events_fail_test i n

      pub frame_test_needs_order_events_only : (i : ℕ) → list_any test (first_header_events g frames
          i) ≡ false
          → list_any test (frame_events g frames i) ≡ list_any test (order_events g frames i)
      unfolding frame_events
      frame_test_needs_order_events_only i header =
          list_any_ignores_failing_tail _ _ (at_end _ _ _ _) ∙ list_any_ignores_failing_tail
          _ _ header
          ∙ list_any_ignores_failing_tail _ _ (packet_events_fail_test _ _ _ _ _ _) ∙
          list_any_ignores_failing_tail _ _ (gap_events_fail_test i _)

-- The event reports a fault of a PES packet with a number other than `pes`, or trusted frames.
abbrev pub has_other_pes_number : ℕ → Event → Bool
has_other_pes_number pes (Reported (fault.Order index)) = not (index == pes)
has_other_pes_number pes (Reported (fault.Pes index f)) = not (index == pes)
has_other_pes_number pes (Reported (fault.OffFrame index)) = not (index == pes)
has_other_pes_number pes (Trusted from to) = true
has_other_pes_number pes event = false

at_pes_keeps_numbered_event : (pes : ℕ) (e : Event) → has_other_pes_number pes e ≡ false →
    with_pes_number pes e ≡ e
unfolding with_pes_number
at_pes_keeps_numbered_event pes e own = grind (arith, nat_tests)

pub at_pes_keeps_numbered_events : (pes : ℕ) (es : List Event) → list_any (has_other_pes_number pes)
    es ≡ false
    → map (with_pes_number pes) es ≡ es
at_pes_keeps_numbered_events pes [] own = refl
at_pes_keeps_numbered_events pes (e ∷ es) own =
    let each = or_parts (has_other_pes_number pes e) _ own in
    ap₂ ◌∷◌ (at_pes_keeps_numbered_event pes e each.0) (at_pes_keeps_numbered_events pes es each.1)

pub end_events_have_no_other_number : (pes : ℕ) (old : ActiveFaults) (before : ℕ)
    (new : ActiveFaults) (f : ℕ)
    → list_any (has_other_pes_number pes) (end_events old before new f) ≡ false
end_events_have_no_other_number pes old before new f =
    end_events_fail_test (has_other_pes_number pes) (λ rule f cell. grind arith) (λ rule f. refl)
    old before new f

packet_fault_has_no_other_number : (pes : ℕ) (r : PacketRule) (frame k : ℕ)
    → has_other_pes_number pes (Reported (packet_fault r frame k)) ≡ false
packet_fault_has_no_other_number pes r frame k = grind (arith, nat_tests)

module _ (g : Criteria) (frames : Transmission) where
  pub frame_events_have_no_other_number : (i : ℕ) → list_any (has_other_pes_number i)
      (frame_events g frames i) ≡ false
  unfolding order_events first_header_events
  frame_events_have_no_other_number i =
      frame_test_needs_order_events_only (has_other_pes_number i) (end_events_have_no_other_number
      i) (packet_fault_has_no_other_number i) g frames i (grind (arith, nat_tests))
      ∙ grind (arith, nat_tests)

  pub closing_events_have_no_other_number : (n : ℕ) → length frames ≡ n
      → list_any (has_other_pes_number n) (closing_events g frames n) ≡ false
  unfolding closing_events
  closing_events_have_no_other_number zero all = grind (arith, nat_tests)
  closing_events_have_no_other_number (suc n) all =
      let last : ActiveFaults = active_faults_at g frames (suc n) (end_frame frames) in
      list_any_ignores_failing_tail (has_other_pes_number (suc n)) (end_events_have_no_other_number
      (suc n)) (packet_fault_has_no_other_number (suc n))
      (fault_ending_events last (end_frame frames)) (unread_or_late_events g frames g.unread)
      (rest g.unread)
      ∙ end_events_have_no_other_number (suc n) last (end_frame frames) no_active_faults
      (end_frame frames)
    where
      rest : (u : Option UnreadReason) → list_any (has_other_pes_number (suc n))
          (unread_or_late_events g frames u) ≡ false
      rest u = grind (arith, nat_tests)
