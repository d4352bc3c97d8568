-- If all packets of a transmission have 42 bytes, it has no events if and only if it has no faults;
-- otherwise its first event is a fault.
use Rattle.std.proofs.Common.{◌≡◌, ℕ, zero, suc, ◌+◌, ◌-◌, ◌<◌, ◌≤◌, ◌⊎◌, inl, inr, Bool, true}
use Rattle.std.proofs.Common.{false, not, List, [], ◌∷◌, length, Option, Some, None, refl, ◌↔◌, sym}
use Rattle.std.proofs.Common.{ap, subst, arith, append_assoc, if◌then◌else◌, ◌∙◌, ◌||◌}
use Rattle.std.proofs.Common.{IsFalse}
use Rattle.std.specs.Bool.{Decides}
use Rattle.std.proofs.lemmas.Bool.{cases_lt}
use Rattle.std.proofs.lemmas.Bool.Decides.{nat_tests, Decides-ltb}
use Rattle.std.proofs.lemmas.List.{append-nil}
use Rattle.std.proofs.lemmas.Option.{none-some, same_Some}
use Rattle.ttx_packet.specs.PacketAddress.{IsPacket}
use Rattle.sub_rules.specs.Events.{place_of_broken_rule, broken_cell, closing_events}
use Rattle.sub_rules.specs.Events.{previous_end_frame}
use Rattle.sub_rules.specs.Events.{end_events, end_rule_fault, end_rules, events_at_end}
use Rattle.sub_rules.specs.Events.{first_header_events, gap_length, is_pending}
use Rattle.sub_rules.specs.Events.{ends_too_early, late_events, latest_frame, no_active_faults}
use Rattle.sub_rules.specs.Events.{order_events}
use Rattle.sub_rules.specs.Events.{packet_events, packet_fault, numbered_packet_events}
use Rattle.sub_rules.specs.Events.{unread_or_late_events}
use Rattle.sub_rules.specs.Events.{rule_events, broken_rule_events, active_faults_at}
use Rattle.sub_rules.specs.Events.{active_faults_before}
use Rattle.sub_rules.specs.Events.{unread_fault}
use Rattle.sub_rules.specs.FrameRules.{Criteria, HasHeader, UnreadReason, end_frame, frame_at}
use Rattle.sub_rules.specs.FrameRules.{packets_before, packets_of_frame}
use Rattle.sub_rules.specs.PacketRules.{AreClean, KeepsAllRules}
use Rattle.sub_rules.specs.Transmission.{EachPacket, Transmission}
use Rattle.sub_rules.specs.declared.end_rule.EndRule.{EndRule}
use Rattle.sub_rules.specs.declared.event.Event.{Event}
use Rattle.sub_rules.specs.declared.event.Event.TheVariants.{Reported}
use Rattle.sub_rules.specs.declared.fault.CheckFault.{CheckFault}
use Rattle.sub_rules.specs.declared.fault.CheckFault.TheVariants as fault
use Rattle.sub_rules.specs.declared.packet_rule.PacketRule.{PacketRule}
use Rattle.sub_rules.proofs.EndLemmas.{gap_length-is, active_faults_before_eq}
use Rattle.sub_rules.proofs.EndRuleLemmas.{no_active_faults_break_no_rule}
use Rattle.sub_rules.proofs.EndRuleLemmas.{unbroken_rules_leave_no_faults}
use Rattle.sub_rules.proofs.EndRuleLemmas.{no_active_faults_is_unique}
use Rattle.sub_laws.proofs.BrokenRuleLemmas.{clean_packet_keeps_all_rules}
use Rattle.sub_laws.proofs.FirstFoundLemmas.{MatchDecides, MatchDecides-append, MatchDecides-like}
use Rattle.sub_laws.proofs.FirstFoundLemmas.{MatchDecides-none}
use Rattle.sub_laws.proofs.FirstFoundLemmas.{end_events_decide_match}
use Rattle.sub_laws.proofs.FirstFoundLemmas.{first_match, matches_of_earlier_parts_decide}
use Rattle.sub_laws.proofs.FirstFoundLemmas.{packet_events_decide_match}
use Rattle.sub_laws.proofs.FrameByFrame.{MeetsRequirements, MeetRequirements, IsFrameGood}
use Rattle.sub_laws.proofs.FrameByFrame.{IsFaultFree}
use Rattle.sub_laws.proofs.FrameByFrame.{IsReadTo, HasOrderAt}
use Rattle.sub_laws.proofs.FrameByFrame.{HasCleanPacketsAt}
use Rattle.sub_laws.proofs.PrefixLemmas.{EachPacketAfterEarlier-push, IsInGap}
use Rattle.sub_laws.proofs.PrefixLemmas.{condition_holds_at_frame_start, before}
use Rattle.sub_laws.proofs.PrefixLemmas.{packet_is_appended_to_earlier}
use Rattle.sub_laws.proofs.PrefixLemmas.{indexed_packet_holds, packet_at}
use Rattle.sub_laws.proofs.RisingEndLemmas.{latest_at}
use Rattle.sub_rules.proofs.FrameEvents.{events, events_of_first_frames, frame_events, gap_events}
use Rattle.sub_rules.specs.declared.active_faults.ActiveFaults.{ActiveFaults}

abbrev pub first_event : Event → Option Event
first_event event = Some event

abbrev pub ReportsFaultWith : (CheckFault → Type 0) → Event → Type 0
ReportsFaultWith NamesRuleBroken event = (f : CheckFault) × (event ≡ Reported f) × NamesRuleBroken f

-- The list of events is empty if and only if `Holds` is true; otherwise it begins with a fault that
-- has the property `NamesRuleBroken`.
abbrev pub HasFirstFault : (CheckFault → Type 0) → Type 0 → List Event → Type 0
HasFirstFault NamesRuleBroken Holds reported = MatchDecides first_event
    (ReportsFaultWith NamesRuleBroken) Holds Holds reported

module _ {NamesRuleBroken : CheckFault → Type 0} where
  pub reported_none : {A : Type 0} (xs : List Event) → HasFirstFault NamesRuleBroken A xs →
      (xs ≡ []) ↔ A
  reported_none xs a = (λ e. a.fault_free (rw e refl), λ h. empty xs (a.calm h))
    where
      empty : (xs : List Event) → first_match first_event xs ≡ None → xs ≡ []
      empty [] e = refl
      empty (x ∷ xs) e = absurd (none-some x (sym e))

  reported_fault_comes_first : {A : Type 0} {rest : List Event} (f : CheckFault) → NamesRuleBroken f
      → (A → ⊥)
      → HasFirstFault NamesRuleBroken A (Reported f ∷ rest)
  reported_fault_comes_first f is broken = grind (arith, nat_tests, same_Some)

  fault_is_reported_if_true : {A : Type 0} (b : Bool) (f : CheckFault) → NamesRuleBroken f → Decides
      (not b) A
      → HasFirstFault NamesRuleBroken A (if b then Reported f ∷ [] else [])
  fault_is_reported_if_true true f named decided = reported_fault_comes_first f named
      (λ a. let no = decided.1 a in cc)
  fault_is_reported_if_true false f named decided = MatchDecides-none (decided.0 refl)

  fault_is_reported_unless_true : {A : Type 0} (b : Bool) (f : CheckFault) → NamesRuleBroken f →
      Decides b A
      → HasFirstFault NamesRuleBroken A (if b then [] else Reported f ∷ [])
  fault_is_reported_unless_true true f named decided = MatchDecides-none (decided.0 refl)
  fault_is_reported_unless_true false f named decided = reported_fault_comes_first f named
      (λ a. let no = decided.1 a in cc)

-- The fault is neither a fault of the subtitle file, nor of reading a PES packet, nor a wrong cell.
abbrev pub is_plain : CheckFault → Bool
is_plain (fault.Subtitles f) = false
is_plain (fault.Pes pes f) = false
is_plain (fault.Content frame row column) = false
is_plain f = true

-- Assume that these faults have the property `NamesRuleBroken`: plain faults, the fault of the
-- unread bytes, and wrong cells in frames that were read.
module _ (g : Criteria) (frames : Transmission) (NamesRuleBroken : CheckFault → Type 0)
    (plain : (f : CheckFault) → is_plain f ≡ true → NamesRuleBroken f)
    (unread : (u : UnreadReason) → g.unread ≡ Some u → NamesRuleBroken (unread_fault (length frames)
    (Some u)))
    (wrong : (n f : ℕ) (x : ℕ × ℕ) → IsReadTo g frames n f → broken_cell g frames n f ≡ Some x
    → NamesRuleBroken (fault.Content f x.0 x.1)) where
  abbrev Reports : Type 0 → List Event → Type 0
  Reports Holds xs = HasFirstFault NamesRuleBroken Holds xs

  late_start_is_reported : Reports ((first : ℕ) → g.first_tci ≡ Some first → frame_at frames 0 ≤
      first)
      (order_events g frames 0)
  unfolding order_events
  late_start_is_reported = grind (arith, nat_tests, fault_is_reported_if_true, none-some, same_Some)

  falling_frame_is_reported : (i : ℕ)
      → Reports (frame_at frames i < frame_at frames (suc i)) (order_events g frames (suc i))
  unfolding order_events
  falling_frame_is_reported i = fault_is_reported_unless_true _ _ (plain _ refl) (Decides-ltb _ _)

  wrong_order_is_reported : (n : ℕ) → Reports (HasOrderAt g frames n) (order_events g frames n)
  wrong_order_is_reported zero = grind (arith, nat_tests, MatchDecides-like, late_start_is_reported)
  wrong_order_is_reported (suc i) =
      grind (arith, nat_tests, MatchDecides-like, falling_frame_is_reported i)

  end_rule_fault_is_reported : (rule : EndRule) (o : Option (ℕ × ℕ)) (prior f : ℕ)
      → ((x : ℕ × ℕ) → o ≡ Some x → NamesRuleBroken (end_rule_fault rule f x))
      → Reports (o ≡ None) (rule_events rule None prior o f)
  end_rule_fault_is_reported rule o prior f h1 = grind
      (arith, nat_tests, reported_fault_comes_first, none-some)

  end_faults_have_their_place : (n f : ℕ) → IsReadTo g frames n f → (rule : EndRule) (x : ℕ × ℕ)
      → place_of_broken_rule rule (active_faults_at g frames n f) ≡ Some x
      → NamesRuleBroken (end_rule_fault rule f x)
  unfolding active_faults_at
  end_faults_have_their_place n f h1 rule x h2 = grind (arith, nat_tests)

  faulty_end_is_reported : (n f prior : ℕ) → IsReadTo g frames n f
      → Reports (IsFaultFree g frames n f)
      (end_events no_active_faults prior (active_faults_at g frames n f) f)
  faulty_end_is_reported n f prior read =
      let now : ActiveFaults = active_faults_at g frames n f in
      MatchDecides-like (λ fault_free rule. ap (place_of_broken_rule rule) fault_free ∙
      no_active_faults_break_no_rule rule)
      (λ none. no_active_faults_is_unique now (unbroken_rules_leave_no_faults now none))
      (end_events_decide_match no_active_faults prior now f
      (λ rule. rw (no_active_faults_break_no_rule rule)
      (end_rule_fault_is_reported rule (place_of_broken_rule rule now) prior f
      (end_faults_have_their_place n f read rule))))

  module _ (n : ℕ) (past : MeetRequirements g frames n) (there : n < length frames) (some : 0 < n)
      (order : HasOrderAt g frames n) where
    abbrev last : ℕ
    last = latest_frame frames n

    last_is : last ≡ frame_at frames (n - 1)
    last_is = latest_at frames n (λ i a b. (past i b).order.rises a) some

    first_end_is_fault_free : IsFaultFree g frames n last
    first_end_is_fault_free = let is = last_is in grind (arith, nat_tests)

    abbrev IsFaultFreeFor : ℕ → Type 0
    IsFaultFreeFor m = (d : ℕ) → d < m → IsFaultFree g frames n (last + suc d)

    fault_free_at : {m : ℕ} → IsFaultFreeFor m → (d : ℕ) → d ≤ m → IsFaultFree g frames n (last + d)
    fault_free_at fault_free zero l =
        let e : last ≡ last + 0 = omega arith in subst (IsFaultFree g frames n) e
        first_end_is_fault_free
    fault_free_at fault_free (suc d) l = fault_free d (omega arith)

    fault_free_end_leaves_no_fault : (f d : ℕ) → previous_end_frame frames n f ≡ d → IsFaultFree g
        frames n d
        → active_faults_before g frames n f ≡ no_active_faults
    fault_free_end_leaves_no_fault f d at fault_free =
        active_faults_before_eq g frames n f some ∙ ap (active_faults_at g frames n) at ∙ fault_free

    next_gap_frame_is_reported : (m : ℕ) → suc m ≤ gap_length frames n → IsFaultFreeFor m
        → Reports (IsFaultFree g frames n (last + suc m)) (events_at_end g frames n n
        (last + suc m))
    next_gap_frame_is_reported m l fault_free =
        let f : ℕ = last + suc m in
        let is = last_is in
        let long = gap_length-is frames n some in
        subst
        (λ s. Reports (IsFaultFree g frames n f)
        (end_events s (previous_end_frame frames n f) (active_faults_at g frames n f) f))
        (grind (
          arith,
          nat_tests,
          fault_free_end_leaves_no_fault f (last + m),
          fault_free_at
              fault_free m,
        ))
        (faulty_end_is_reported n f (previous_end_frame frames n f) (record {
          some = some;
          fits = omega arith;
          rises = λ i a b. (past i b).order.rises a;
          up_to = omega arith;
          next = λ more. inr (omega arith);
          packets = λ i b. (past i b).packets;
          header = (past 0 some).header refl;
        }))

    gap_faults_are_reported : (m : ℕ) → m ≤ gap_length frames n → Reports (IsFaultFreeFor m)
        (gap_events g frames n m)
    unfolding gap_events
    gap_faults_are_reported m l =
        matches_of_earlier_parts_decide (gap_events g frames n) (λ d. events_at_end g frames n n
        (last + suc d))
        (λ d. IsFaultFree g frames n (last + suc d)) m refl (λ d. refl)
        (λ d below. next_gap_frame_is_reported d (omega arith))

    abbrev HasNoGapFault : Type 0
    HasNoGapFault = (f : ℕ) → IsInGap frames n f → IsFaultFree g frames n f

    whole_gap_is_fault_free : HasNoGapFault → IsFaultFreeFor (gap_length frames n)
    whole_gap_is_fault_free h1 = grind (arith, nat_tests, last_is, gap_length-is)

    gap_events_report_faults : Reports HasNoGapFault (gap_events g frames n (gap_length frames n))
    gap_events_report_faults =
        MatchDecides-like whole_gap_is_fault_free
        (λ fault_free f gap.
        let is = last_is in
        let long = gap_length-is frames n some in
        let e : last + suc (f - (last + 1)) ≡ f = omega (arith, gap.2) in
        subst (IsFaultFree g frames n) e (fault_free (f - (last + 1)) (omega (arith, gap.2))))
        (gap_faults_are_reported (gap_length frames n) (omega arith))

    pub fault_free_gap_leaves_no_fault : HasNoGapFault → active_faults_before g frames n
        (frame_at frames n) ≡
        no_active_faults
    fault_free_gap_leaves_no_fault fault_free =
        grind (
          arith,
          nat_tests,
          last_is,
          gap_length-is,
          fault_free_end_leaves_no_fault,
          fault_free_at,
          whole_gap_is_fault_free,
        )

  met_requirements_hold_in_gap : (n : ℕ) → MeetRequirements g frames n → n < length frames →
      HasOrderAt g frames n
      → Reports ((f : ℕ) → IsInGap frames n f → IsFaultFree g frames n f)
      (gap_events g frames n (gap_length frames n))
  unfolding gap_length gap_events
  met_requirements_hold_in_gap zero past there order = MatchDecides-none
      (λ f gap. absurd (omega (arith, gap.0)))
  met_requirements_hold_in_gap (suc i) past there order = gap_events_report_faults (suc i) past
      there (omega arith) order

  met_requirements_leave_no_fault : (n : ℕ) → MeetRequirements g frames n → n < length frames →
      HasOrderAt g frames n
      → ((f : ℕ) → IsInGap frames n f → IsFaultFree g frames n f)
      → active_faults_before g frames n (frame_at frames n) ≡ no_active_faults
  unfolding active_faults_before
  met_requirements_leave_no_fault n h1 h2 h3 h4 = grind
      (arith, nat_tests, fault_free_gap_leaves_no_fault)

  packet_fault_has_its_rule : (r : PacketRule) (frame k : ℕ) (x : Event)
      → first_event (Reported (packet_fault r frame k)) ≡ Some x
      → ReportsFaultWith NamesRuleBroken x
  packet_fault_has_its_rule r frame k x e = grind (arith, nat_tests, same_Some)

  module _ (whole : EachPacket IsPacket frames) (n : ℕ) (past : MeetRequirements g frames n)
      (there : n < length frames) where
    abbrev ps : List (List ℕ)
    ps = packets_of_frame frames n

    earlier_packets_are_clean : (k : ℕ) → k ≤ length ps → HasCleanPacketsAt g frames n k
        → AreClean g.watched (before frames n k)
    earlier_packets_are_clean zero l ok =
        subst (AreClean g.watched) (sym (append-nil (packets_before frames n)))
        (condition_holds_at_frame_start frames n (omega arith) (AreClean g.watched)
        (λ k l. absurd (omega arith))
        (λ i k a b ih. EachPacketAfterEarlier-push (λ earlier q. IsPacket q × KeepsAllRules
        g.watched earlier q)
        (before frames i k) (packet_at frames i k) ih
        (indexed_packet_holds IsPacket frames i k whole (omega arith) b, (past i a).packets k b)) n
        (omega arith))
    earlier_packets_are_clean (suc k) l ok =
        let next : k + 1 ≡ suc k = omega arith in
        subst (λ j. AreClean g.watched (before frames n j)) next
        (subst (AreClean g.watched) (sym (packet_is_appended_to_earlier frames n k (omega arith)))
        (EachPacketAfterEarlier-push (λ earlier q. IsPacket q × KeepsAllRules g.watched earlier q)
        (before frames n k) (packet_at frames n k)
        (earlier_packets_are_clean k (omega arith) (λ j m. ok j (omega arith)))
        (indexed_packet_holds IsPacket frames n k whole there (omega arith), ok k (omega arith))))

    broken_packet_is_reported : (k : ℕ) → k < length ps → HasCleanPacketsAt g frames n k
        → Reports (KeepsAllRules g.watched (before frames n k) (packet_at frames n k))
        (broken_rule_events g.watched (frame_at frames n) k (before frames n k)
        (packet_at frames n k))
    broken_packet_is_reported k l ok =
        let clean = earlier_packets_are_clean k (omega arith) ok in
        let is = indexed_packet_holds IsPacket frames n k whole there l in
        let keeps = clean_packet_keeps_all_rules g.watched (before frames n k)
        (packet_at frames n k) clean is in
        MatchDecides-like (λ ok r passes. let keep = keeps.1 ok r in cc)
        (λ none. keeps.0 (λ r. fails _ (none r)))
        (packet_events_decide_match first_event (ReportsFaultWith NamesRuleBroken)
        (frame_at frames n) k
        (λ r x. packet_fault_has_its_rule r (frame_at frames n) k x) g.watched _ _)
      where
        fails : {reported : Event} (b : Bool) → (b ≡ true → first_event reported ≡ None) → b ≡ false
        fails b silent = grind (arith, nat_tests, none-some)

    broken_packets_are_reported : (k : ℕ) → k ≤ length ps
        → Reports (HasCleanPacketsAt g frames n k)
        (packet_events g.watched (frame_at frames n) (packets_before frames n) ps k)
    unfolding numbered_packet_events
    broken_packets_are_reported k l =
        matches_of_earlier_parts_decide
        (packet_events g.watched (frame_at frames n) (packets_before frames n) ps)
        (λ j. broken_rule_events g.watched (frame_at frames n) j (before frames n j)
        (packet_at frames n j))
        (λ j. KeepsAllRules g.watched (before frames n j) (packet_at frames n j)) k refl
        (λ j. let from : 0 + j ≡ j = omega arith in rw from refl)
        (λ j below. broken_packet_is_reported j (omega arith))

  missing_first_header_is_reported : Reports (HasHeader g frames 0) (first_header_events g frames 0)
  unfolding first_header_events
  missing_first_header_is_reported = fault_is_reported_unless_true _ _ (plain _ refl)
      (λ e. e, λ e. e)

  missing_header_is_reported : (n : ℕ) → Reports (n ≡ 0 → HasHeader g frames 0)
      (first_header_events g frames
      n)
  unfolding first_header_events
  missing_header_is_reported zero = MatchDecides-like (λ h. h refl) (λ h z. h)
      missing_first_header_is_reported
  missing_header_is_reported (suc i) = MatchDecides-none (λ z. absurd (omega arith))

  faulty_frame_end_is_reported : (n : ℕ) → MeetRequirements g frames n → n < length frames →
      HasOrderAt g frames n
      → ((f : ℕ) → IsInGap frames n f → IsFaultFree g frames n f)
      → HasCleanPacketsAt g frames n (length (packets_of_frame frames n))
      → (n ≡ 0 → HasHeader g frames 0)
      → Reports (IsFrameGood g frames n) (events_at_end g frames n (suc n) (frame_at frames n))
  faulty_frame_end_is_reported n past there order gap packets header =
      let f : ℕ = frame_at frames n in
      let one : n + 1 ≡ suc n = omega arith in
      let back : frame_at frames (n + 1 - 1) ≡ f = ap (frame_at frames) (omega arith) in
      subst (λ m. Reports (IsFrameGood g frames n) (events_at_end g frames n m f)) one
      (subst
      (λ s. Reports (IsFrameGood g frames n)
      (end_events s (previous_end_frame frames n f) (active_faults_at g frames (n + 1) f) f))
      (sym (met_requirements_leave_no_fault n past there order gap))
      (MatchDecides-like (λ ok. ok.end) (λ fault_free. grind (arith, nat_tests))
      (faulty_end_is_reported (n + 1) f (previous_end_frame frames n f) (record {
        some = omega arith;
        fits = omega arith;
        rises = λ i a b. (up_to i b).0 a;
        up_to = omega arith;
        next = λ more. inl back;
        packets = λ i b. (up_to i b).1;
        header = first_frame_has_header (cases_lt 0 n);
      }))))
    where
      up_to : (i : ℕ) → i < n + 1
          → (0 < i → frame_at frames (i - 1) < frame_at frames i)
          × HasCleanPacketsAt g frames i (length (packets_of_frame frames i))
      up_to i b = elim (cases_lt i n) [
        | inl earlier ↦ let ok = past i earlier in (ok.order.rises, ok.packets)
        | inr here ↦
            let same : n ≡ i = omega arith in
            subst (λ k. (0 < k → frame_at frames (k - 1) < frame_at frames k)
            × HasCleanPacketsAt g frames k (length (packets_of_frame frames k))) same
            (order.rises, packets)
      ]

      first_frame_has_header : (0 < n) ⊎ (n ≤ 0) → HasHeader g frames 0
      first_frame_has_header (inl some) = (past 0 some).header refl
      first_frame_has_header (inr none) = header (omega arith)

  module _ (whole : EachPacket IsPacket frames) where
    faulty_frame_is_reported : (n : ℕ) → MeetRequirements g frames n → n < length frames
        → Reports (IsFrameGood g frames n) (frame_events g frames n)
    unfolding frame_events
    faulty_frame_is_reported n past there =
        rw (append_assoc, append_assoc, append_assoc)
        (MatchDecides-append (wrong_order_is_reported n)
        (λ order. MatchDecides-append (met_requirements_hold_in_gap n past there order)
        (λ gap. MatchDecides-append
        (broken_packets_are_reported whole n past there (length (packets_of_frame frames n))
        (omega arith))
        (λ packets. MatchDecides-append (missing_header_is_reported n)
        (λ header. faulty_frame_end_is_reported n past there order gap packets header)
        (λ ok. ok.header))
        (λ ok. ok.packets))
        (λ ok. ok.gap))
        (λ ok. ok.order))

    pub faulty_frames_are_reported : (n : ℕ) → n ≤ length frames
        → Reports (MeetRequirements g frames n) (events_of_first_frames g frames n)
    unfolding events_of_first_frames
    faulty_frames_are_reported n l =
        matches_of_earlier_parts_decide (events_of_first_frames g frames) (frame_events g frames)
        (IsFrameGood g frames) n refl
        (λ i. refl) (λ i below past. faulty_frame_is_reported i past (omega arith))

  -- No subtitle ends after the last frame of the transmission, and no page that is unfinished at
  -- the end of this frame still has time to become correct.
  abbrev HasNoLaterSubtitle : Type 0
  HasNoLaterSubtitle =
      ((last : ℕ) → g.last_tco ≡ Some last → last ≤ end_frame frames)
      × IsFalse (is_pending g frames)

  over_decided :
      Decides (not (ends_too_early g.last_tco (end_frame frames) || is_pending g frames))
      HasNoLaterSubtitle
  over_decided = grind (arith, nat_tests, none-some, same_Some)

  missing_last_frames_are_reported : Reports HasNoLaterSubtitle (late_events g frames)
  missing_last_frames_are_reported = fault_is_reported_if_true _ _ (plain _ refl) over_decided

  faults_after_last_frame_are_reported : MeetRequirements g frames (length frames) → 0 < length
      frames →
      (o : Option UnreadReason)
      → g.unread ≡ o → Reports (MeetsRequirements g frames) (unread_or_late_events g frames o)
  faults_after_last_frame_are_reported past some (Some u) e = grind
      (arith, nat_tests, reported_fault_comes_first, none-some)
  faults_after_last_frame_are_reported past some None e = grind
      (arith, nat_tests, MatchDecides-like, missing_last_frames_are_reported)

  closing_faults_are_reported : (n : ℕ) → n ≡ length frames → MeetRequirements g frames
      (length frames)
      → Reports (MeetsRequirements g frames) (closing_events g frames n)
  unfolding closing_events end_events end_rules
  closing_faults_are_reported n h1 h2 = grind (
    arith,
    nat_tests,
    reported_fault_comes_first,
    faults_after_last_frame_are_reported,
  )

  pub all_faults_are_reported : EachPacket IsPacket frames → Reports (MeetsRequirements g frames)
      (events g frames)
  unfolding events
  all_faults_are_reported whole =
      MatchDecides-append (faulty_frames_are_reported whole (length frames) (omega arith))
      (λ past. closing_faults_are_reported (length frames) refl past) (λ all. all.each)
