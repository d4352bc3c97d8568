-- Each test computes the states of one receiver. If this receiver fails, the transmission is not
-- robust. If only one fault of the transmission affects receivers, the rule for this fault is
-- necessary.
use Rattle.std.proofs.lemmas.Bool.Decides.{nat_tests, Decides-and, Decides-like, Decides-ltb}
use Rattle.std.proofs.lemmas.List.Elements.{recursion_from_All}
use Rattle.std.proofs.lemmas.List.Kept.{AllPairs-cons}
use Rattle.std.specs.List.{list_all}
use Rattle.std.proofs.Common.{◌≡◌, ◌≢◌, ◌⊎◌, ℕ, suc, ◌+◌, ◌-◌, ◌≤◌, inl, inr, ◌==◌, Bool, true}
use Rattle.std.proofs.Common.{not, None, IsFalse, ◌&&◌, ◌||◌, nat_le, nat_lt, List, [], ◌++◌}
use Rattle.std.proofs.Common.{length, take, refl, sym, ap, ◌∙◌, arith, eqb-true, slice_index_or}
use Rattle.std.proofs.Common.{false, replicate, subst, zero, ◌∷◌, ◌<◌, is_none, Option}
use Rattle.std.proofs.lemmas.Bool.{and_parts, or_cases, leb-true}
use Rattle.std.specs.Bool.{Decides}
use Rattle.ttx_page.specs.Page.{cell, space}
use Rattle.ttx_page.specs.PacketKind.{kind}
use Rattle.ttx_page.specs.Receiver.{State}
use Rattle.ttx_page.specs.Span.{has_page_header}
use Rattle.ttx_page.proofs.ComputedReceiver.{computed_state_is_heard, are_packets_near}
use Rattle.ttx_page.proofs.ComputedReceiver.{packets_tested}
use Rattle.ttx_page.proofs.ComputedReceiver.{state_after}
use Rattle.stl_rows.specs.Programme.{ProgrammeValue}
use Rattle.sub_plan.specs.Options.{OptionsValue}
use Rattle.sub_plan.specs.Schedule.{due_page_in}
use Rattle.sub_rules.specs.Events.{active_faults_at}
use Rattle.sub_rules.specs.FrameRules.{Criteria, criteria_of, frame_at, packets_before}
use Rattle.sub_rules.specs.FrameRules.{packets_of_frame}
use Rattle.sub_rules.specs.PacketTests.{breaks, is_same_bit, packet_rules}
use Rattle.sub_rules.specs.Transmission.{IsRising, SentFrame, Transmission, first_frame}
use Rattle.sub_rules.specs.Transmission.{last_frame, on_air, packets_of}
use Rattle.sub_rules.specs.declared.packet_rule.PacketRule.{PacketRule}
use Rattle.sub_laws.specs.CleanStretch.{HoldsAtFrameEnds, HoldsAtPackets, HasNoReceiverFault}
use Rattle.sub_laws.specs.CleanStretch.{is_needed_by_receivers}
use Rattle.sub_laws.specs.Robust.{IsListening, Robust}
use Rattle.sub_examples.specs.Examples.{IsRuleNeeded, HasNoReceiverFaultExcept, options_with_bound}
use Rattle.sub_examples.specs.Examples.{no_subtitles}
use Rattle.sub_examples.specs.Examples.{fault_number_of}
use Rattle.sub_rules.proofs.TestLemmas.{passes_all_below, at_most, passing_all_below_passes_each}
use Rattle.sub_rules.proofs.TestLemmas.{each_of, fails, holds}
use Rattle.sub_rules.proofs.TestLemmas.{implied, bit_test_is_exact}
use Rattle.sub_laws.proofs.FirstFoundLemmas.{holds_for_each_packet_rule}
use Rattle.sub_laws.proofs.ActiveFaultsLemmas.{decided_frames_were_decided}
use Rattle.sub_laws.proofs.StretchLemmas.{recovering_transmission_is_robust}

-- The state of a receiver that has received no header and has a page of question marks.
abbrev before : State
before = record {
  heard = false;
  is_open = false;
  page = replicate 24 (replicate 40 0x3F);
}

-- A receiver can listen from packet `j` of frame `g` to the end of frame `f`, which are in the
-- frames from `a` to `b`.
abbrev may_listen : Transmission → ℕ → ℕ → ℕ → ℕ → ℕ → Bool
may_listen frames a b g j f =
    nat_le a g && (nat_le g f && (nat_le f b && nat_le j (length (packets_of frames g))))

pub listening :
    (frames : Transmission) (a b g j f : ℕ)
    → may_listen frames a b g j f ≡ true
    → IsListening frames a b g j f
listening frames a b g j f e = grind (arith, nat_tests, and_parts, nat_le, leb-true, length)

abbrev is_wrong : ℕ → ℕ → Bool
is_wrong code due = not (code == due) && not (code == space)

-- The receiver fails: it listened for the repeat bound and no header was sent; or it has received a
-- header although none was sent, or none although one was sent; or a header was sent, and the cell
-- in row 1 and column 0 has neither the expected code nor a space.
abbrev is_not_served : ProgrammeValue → OptionsValue → ℕ → ℕ → List (List ℕ) → State → Bool
is_not_served programme o g f sent new =
    (nat_le (g + o.every) f && not (has_page_header (kind o.page) sent))
    || (not (is_same_bit new.heard (has_page_header (kind o.page) sent))
    || (has_page_header (kind o.page) sent
    && is_wrong (cell new.page 1 0) (cell (due_page_in programme f) 1 0)))

-- A receiver that starts at packet `j` of frame `g`, stops after frame `f` and receives the packets
-- `got`, with at most one wrong bit in each byte, fails.
abbrev pub has_counterexample :
    ProgrammeValue → Transmission → OptionsValue → ℕ → ℕ → ℕ → List (List ℕ) → Bool
has_counterexample programme frames o g j f got =
    may_listen frames (first_frame frames) (last_frame frames) g j f
    && (are_packets_near (on_air frames g j f) got
    && is_not_served programme o g f (on_air frames g j f) (state_after o.page before got))

not_served :
    (late has heard : Bool) (code due : ℕ)
    → (late && not has || (not (is_same_bit heard has) || (has && is_wrong code due))) ≡ true
    → (late ≡ true → has ≡ true)
    → heard ≡ has
    → (has ≡ true → (code ≡ due) ⊎ (code ≡ space))
    → ⊥
not_served late has heard code due e in_time hears cells =
    let same = bit_test_is_exact heard has in grind (arith, nat_tests)

pub refuted :
    (programme : ProgrammeValue) (frames : Transmission) (o : OptionsValue)
    → (g j f : ℕ) (got : List (List ℕ))
    → has_counterexample programme frames o g j f got ≡ true
    → Robust programme frames o
    → ⊥
refuted programme frames o g j f got e robust =
    let a = and_parts (may_listen frames _ _ g j f) _ e in
    let b = and_parts (are_packets_near (on_air frames g j f) got) _ a.1 in
    let sent : List (List ℕ) = on_air frames g j f in
    let new : State = state_after o.page before got in
    let served =
    robust g j f got before new (listening frames _ _ g j f a.0) (packets_tested sent got b.0) refl
    refl (computed_state_is_heard o.page before got) in
    not_served (nat_le (g + o.every) f) (has_page_header (kind o.page) sent) new.heard
    (cell new.page 1 0) (cell (due_page_in programme f) 1 0) b.1
    (λ late. served.in_time (leb-true (g + o.every) f late)) served.heard
    (λ holds. elim (served.cells holds 1 0 (omega arith, omega arith, omega arith)) [
      | inl is ↦ inl is
      | inr hit ↦ inr hit.0
    ])

abbrev is_within_frames : ℕ → ℕ → ℕ → Bool
is_within_frames a b f = nat_le a f && nat_le f b

frame_range_is_decided : (a b f : ℕ) → Decides (is_within_frames a b f) ((a ≤ f) × (f ≤ b))
frame_range_is_decided a b f = Decides-and _ _ (at_most a f) (at_most f b)

-- The test is true for each packet in the frames from `a` to `b`, given the packets before it.
abbrev packets_pass_test : (List (List ℕ) → List ℕ → Bool) → Transmission → ℕ → ℕ → Bool
packets_pass_test test frames a b =
    passes_all_below
    (λ i. not (is_within_frames a b (frame_at frames i))
    || passes_all_below
    (λ k. test (packets_before frames i ++ take k (packets_of_frame frames i))
    (slice_index_or (packets_of_frame frames i) k []))
    (length (packets_of_frame frames i)))
    (length frames)

at_packets :
    (test : List (List ℕ) → List ℕ → Bool) (frames : Transmission) (a b : ℕ)
    → packets_pass_test test frames a b ≡ true
    → HoldsAtPackets (λ before p. test before p ≡ true) frames a b
at_packets test frames a b e i k l m low high =
    let frame = passing_all_below_passes_each _ (length frames) e i l in
    passing_all_below_passes_each _ (length (packets_of_frame frames i))
    ((implied _ _ (frame_range_is_decided a b (frame_at frames i)) (holds _)).0 frame (low, high)) k
    m

-- The test is true at the end of each frame from `a` to `b`. Its first argument is the number of
-- frames sent so far.
abbrev frame_ends_pass_test : (ℕ → ℕ → Bool) → Transmission → ℕ → ℕ → Bool
frame_ends_pass_test test frames a b =
    passes_all_below
    (λ m. frame_end_passes (suc m) (frame_at frames m)
    && passes_all_below (λ d. frame_end_passes (suc m) (frame_at frames m + 1 + d))
    (frame_at frames (suc m) - (frame_at frames m + 1)))
    (length frames)
  where
    frame_end_passes : ℕ → ℕ → Bool
    frame_end_passes n f = not (is_within_frames a b f) || test n f

at_ends :
    (test : ℕ → ℕ → Bool) (frames : Transmission) (a b : ℕ)
    → frame_ends_pass_test test frames a b ≡ true
    → HoldsAtFrameEnds (λ n f. test n f ≡ true) frames a b
at_ends test frames a b e zero f end low high = absurd (omega (arith, end.0))
at_ends test frames a b e (suc m) f end low high =
    let same : frame_at frames (suc m - 1) ≡ frame_at frames m =
    ap (frame_at frames) (omega arith) in
    let all = and_parts _ _ (passing_all_below_passes_each _ (length frames) e m
    (omega (arith, end.1))) in
    elim end.2 [
      | inl own ↦ within f (subst PassesTest (sym (own ∙ same)) all.0) low high
      | inr gap ↦
          let after = gap.2 m (omega arith) in
          let place : frame_at frames m + 1 + (f - (frame_at frames m + 1)) ≡ f =
          omega (arith, after) in
          within f (subst PassesTest place
          (passing_all_below_passes_each _ (frame_at frames (suc m) - (frame_at frames m + 1)) all.1
          (f - (frame_at frames m + 1)) (omega (arith, after, gap.1)))) low high
    ]
  where
    PassesTest : ℕ → Type 0
    PassesTest f = (not (is_within_frames a b f) || test (suc m) f) ≡ true

    within : (f : ℕ) → PassesTest f → a ≤ f → f ≤ b → test (suc m) f ≡ true
    within f passes low high =
        (implied _ _ (frame_range_is_decided a b f) (holds (test (suc m) f))).0 passes (low, high)

abbrev keeps_packet_rule : PacketRule → Criteria → Transmission → ℕ → ℕ → Bool
keeps_packet_rule r g frames a b = packets_pass_test (λ before p. not (breaks r g.watched before p))
    frames a b

none_breaks :
    (r : PacketRule) (g : Criteria) (frames : Transmission) (a b : ℕ)
    → keeps_packet_rule r g frames a b ≡ true
    → HoldsAtPackets (λ before p. IsFalse (breaks r g.watched before p)) frames a b
none_breaks r g frames a b e i k l m low high =
    (fails _).0
    (at_packets (λ before p. not (breaks r g.watched before p)) frames a b e i k l m low high)

abbrev rises : Transmission → Bool
rises [] = true
rises (s ∷ frames) =
    list_all (λ (later : SentFrame). nat_lt s.frame later.frame) frames && rises frames

rising_is_decided : (frames : Transmission) → Decides (rises frames) (IsRising frames)
rising_is_decided [] = (λ e i j d l m. absurd (omega arith), λ h. refl)
rising_is_decided (s ∷ frames) =
    let R : SentFrame → SentFrame → Type 0 = λ t u. t.frame < u.frame in
    Decides-like (rises (s ∷ frames)) (λ h. AllPairs-cons R s frames h.0 h.1)
    (λ h. (
      λ k d l. h 0 (suc k) d (omega arith) (omega arith),
      λ i j d l m. h (suc i) (suc j) d (omega arith) (omega arith),
    ))
    (Decides-and (list_all (λ (later : SentFrame). nat_lt s.frame later.frame) frames)
    (rises frames)
    (each_of (λ (later : SentFrame). nat_lt s.frame later.frame) (R s)
    (λ t. Decides-ltb s.frame t.frame) frames) (rising_is_decided frames))

abbrev reports_only_rule : ℕ → Criteria → Transmission → ℕ → ℕ → Bool
reports_only_rule number g frames a b =
    (number == 62 || rises frames)
    && (list_all
    (λ r. number == fault_number_of r
    || (not (is_needed_by_receivers r) || keeps_packet_rule r g frames a b))
    packet_rules
    && ((number == 72
    || frame_ends_pass_test (λ n f. is_none (active_faults_at g frames n f).content) frames a b)
    && (number == 73 || frame_ends_pass_test (λ n f. not (active_faults_at g frames n f).gap) frames
    a b)))

test_of_other_rule_passes : (n m : ℕ) (b : Bool) → (n == m || b) ≡ true → n ≢ m → b ≡ true
test_of_other_rule_passes n m b e other = elim (or_cases (n == m) b e) [
  | inl same ↦ absurd (other (eqb-true n m same))
  | inr passes ↦ passes
]

absent_test_means_none : {A : Type 0} (o : Option A) → is_none o ≡ true → o ≡ None
absent_test_means_none o e = grind arith

unreported_but :
    (number : ℕ) (g : Criteria) (frames : Transmission) (a b : ℕ)
    → reports_only_rule number g frames a b ≡ true
    → HasNoReceiverFaultExcept number g frames a b
unreported_but number g frames a b e =
    let PacketsPass : PacketRule → Bool =
    λ r. number == fault_number_of r
    || (not (is_needed_by_receivers r) || keeps_packet_rule r g frames a b) in
    let order = and_parts (number == 62 || rises frames) _ e in
    let packets = and_parts (list_all PacketsPass packet_rules) _ order.1 in
    let ends =
    and_parts
    (number == 72 || frame_ends_pass_test (λ n f. is_none (active_faults_at g frames n f).content)
    frames a b)
    _
    packets.1 in
    let options_with_bound =
    holds_for_each_packet_rule (λ r. PacketsPass r ≡ true)
    (recursion_from_All (λ r. PacketsPass r ≡ true) packet_rules
    ((each_of PacketsPass (λ r. PacketsPass r ≡ true) (λ r. holds (PacketsPass r)) packet_rules).0
    packets.0)) in
    record {
      rising = λ other.
          (rising_is_decided frames).0 (test_of_other_rule_passes number 62 _ order.0 other);
      packets = λ r needed other.
          none_breaks r g frames a b
          ((implied _ _ (holds (is_needed_by_receivers r)) (holds _)).0
          (test_of_other_rule_passes number (fault_number_of r) _ (options_with_bound r) other)
          needed);
      content = λ other n f end low high.
          absent_test_means_none _
          (at_ends (λ n f. is_none (active_faults_at g frames n f).content) frames a b
          (test_of_other_rule_passes number 72 _ ends.0 other) n f end low high);
      gap = λ other n f end low high.
          (fails _).0
          (at_ends (λ n f. not (active_faults_at g frames n f).gap) frames a b
          (test_of_other_rule_passes number 73 _ ends.1 other) n f end low high);
    }

pub needed :
    (number : ℕ) (frames : Transmission) (every g j f : ℕ) (got : List (List ℕ))
    → reports_only_rule number (criteria_of no_subtitles (options_with_bound every) None) frames
    (first_frame frames)
    (last_frame frames)
    && has_counterexample no_subtitles frames (options_with_bound every) g j f got
    ≡ true
    → IsRuleNeeded number frames every
needed number frames every g j f got e =
    let criteria : Criteria = criteria_of no_subtitles (options_with_bound every) None in
    let tests =
    and_parts (reports_only_rule number criteria frames (first_frame frames) (last_frame frames))
    _ e
    in
    let not_robust = refuted no_subtitles frames (options_with_bound every) g j f got tests.1 in
    record {
      others = unreported_but number criteria frames (first_frame frames) (last_frame frames)
          tests.0;
      not_robust = not_robust;
      not_trusted = λ trusted.
          not_robust (recovering_transmission_is_robust no_subtitles frames
          (options_with_bound every) trusted);
    }

no_frame_is_undecided : (g : Criteria) (frames : Transmission) → ((f : ℕ) → g.undecided f ≡ false)
    → (n f : ℕ) → IsFalse (active_faults_at g frames n f).undecided
unfolding active_faults_at
no_frame_is_undecided g frames known n f = decided_frames_were_decided g.undecided known
    (frame_at frames 0) f g.within

pub unreported_by_test :
    (g : Criteria) (frames : Transmission) (a b : ℕ)
    → ((f : ℕ) → g.undecided f ≡ false)
    → reports_only_rule 0 g frames a b
    && (nat_lt 0 (length frames)
    && (nat_le (first_frame frames) a && (nat_le a b && nat_le b (last_frame frames))))
    ≡ true
    → HasNoReceiverFault g frames a b
unreported_by_test g frames a b known e =
    let parts = and_parts (reports_only_rule 0 g frames a b) _ e in
    let unreported = unreported_but 0 g frames a b parts.0 in
    record {
      stretch = record {
        not_empty = grind (arith, nat_tests, and_parts);
        from = grind (arith, nat_tests, and_parts);
        in_order = grind (arith, nat_tests, and_parts);
        to = grind (arith, nat_tests, and_parts);
      };
      rising = unreported.rising (λ is. cc);
      packets = λ r needed. unreported.packets r needed (rule_number_is_not_zero r);
      content = unreported.content (λ is. cc);
      gap = unreported.gap (λ is. cc);
      undecided = λ n f end low high. no_frame_is_undecided g frames known n f;
    }
  where
    rule_number_is_not_zero : (r : PacketRule) → 0 ≢ fault_number_of r
    rule_number_is_not_zero r is = grind arith
