-- Trusted frames have no fault that affects receivers, and the first of them has a header that
-- erases the page.
use Rattle.std.proofs.lemmas.Bool.Decides.{nat_tests}
use Rattle.std.specs.Bool.{Decides}
use Rattle.std.proofs.Common.{◌≡◌, ℕ, zero, suc, ◌+◌, ◌-◌, ◌<◌, ◌≤◌, inl, inr, true, false, length}
use Rattle.std.proofs.Common.{take, drop, ap, sym, ◌∙◌, arith, IsFalse}
use Rattle.std.proofs.lemmas.Bool.{cases_lt}
use Rattle.std.proofs.lemmas.List.{length-take-le, take-append-drop, take-take}
use Rattle.ttx_page.specs.PacketKind.{begins_text, kind}
use Rattle.ttx_page.specs.Span.{has_text_beginning}
use Rattle.sub_rules.specs.Events.{active_faults_at}
use Rattle.sub_rules.specs.FrameRules.{Criteria, frame_at, packets_of_frame}
use Rattle.sub_rules.specs.PacketTests.{breaks}
use Rattle.sub_rules.specs.Transmission.{Transmission, last_frame, packets_of}
use Rattle.sub_rules.specs.declared.packet_rule.PacketRule.{PacketRule}
use Rattle.sub_rules.proofs.EndRuleLemmas.{no_active_faults_is_unique}
use Rattle.sub_rules.proofs.PrefixEventLemmas.{active_faults_at-prefix}
use Rattle.sub_laws.specs.CleanStretch.{HoldsAtFrameEnds, IsEnd, IsWithinTransmission}
use Rattle.sub_laws.specs.CleanStretch.{HasNoReceiverFault, is_needed_by_receivers}
use Rattle.sub_trusted.specs.TrustedFrames.{is_rising_at, rising_count, rising_part}
use Rattle.sub_laws.proofs.GoodLemmas.{passing_packet_is_in_frame}
use Rattle.sub_laws.proofs.PrefixLemmas.{RiseTo, before, first-same, frame_at-take, packet_at}
use Rattle.sub_laws.proofs.PrefixLemmas.{packets-take, rising_frames_are_ordered}
use Rattle.sub_laws.proofs.PrefixLemmas.{prefix_ends_with_its_last_frame, prefix_is_rising}
use Rattle.sub_trusted.proofs.TrustedRunLemmas.{RunLastsTo}
use Rattle.sub_rules.specs.Trusted.{has_no_active_faults}
use Rattle.sub_rules.specs.declared.active_faults.ActiveFaults.{ActiveFaults}

module _ (frames : Transmission) where
  rises_is : (i : ℕ) → 0 < i
      → Decides (is_rising_at frames i) (frame_at frames (i - 1) < frame_at frames i)
  unfolding is_rising_at
  rises_is i h1 = grind (arith, nat_tests)

  last_rising_frame_rises : (n : ℕ) → RiseTo frames (suc n) → is_rising_at frames n ≡ true
  unfolding is_rising_at
  last_rising_frame_rises n h1 = grind (arith, nat_tests, rises_is)

  pub rising_count_at_most : (n : ℕ) → rising_count frames n ≤ n
  unfolding rising_count
  rising_count_at_most zero = omega arith
  rising_count_at_most (suc n) = let rest = rising_count_at_most n in grind (arith, nat_tests)

  pub counted_frames_rise : (n : ℕ) → RiseTo frames (rising_count frames n)
  unfolding rising_count
  counted_frames_rise zero i a l = grind (arith, nat_tests)
  counted_frames_rise (suc n) i a l = grind
      (arith, nat_tests, rises_is, (counted_frames_rise n i a))

  pub rising_count_is_the_greatest : (n k : ℕ) → k ≤ n → RiseTo frames k → k ≤ rising_count frames n
  unfolding rising_count
  rising_count_is_the_greatest zero k l rises = omega arith
  rising_count_is_the_greatest (suc n) k l rises = elim (cases_lt n k) [
    | inl whole ↦
        let all = rising_count_is_the_greatest n n (omega arith) (λ i a b. rises i a (omega arith))
        in
        grind (arith, nat_tests, rising_count_at_most, last_rising_frame_rises)
    | inr less ↦
        let rest = rising_count_is_the_greatest n k (omega arith) rises in
        grind (arith, nat_tests, rising_count_at_most)
  ]

  abbrev pub rising_frame_count : ℕ
  rising_frame_count = rising_count frames (length frames)

  pub rising_count_is_at_most_length : rising_frame_count ≤ length frames
  rising_count_is_at_most_length = rising_count_at_most (length frames)

  pub rising_part_has_rising_count : length (rising_part frames) ≡ rising_frame_count
  rising_part_has_rising_count = length-take-le rising_frame_count frames
      rising_count_is_at_most_length

  pub rising_part_rises : RiseTo frames rising_frame_count
  rising_part_rises = counted_frames_rise (length frames)

  pub next_rising_frame_is_counted : (n : ℕ) → n < length frames → RiseTo frames n
      → frame_at frames (n - 1) < frame_at frames n
      → n < rising_frame_count
  next_rising_frame_is_counted n there rises up = grind
      (arith, nat_tests, rising_count_is_the_greatest, cases_lt)

pub rising_part_ends_at_count : (frames : Transmission) → 0 < rising_frame_count frames
    → last_frame (rising_part frames) ≡ frame_at frames (rising_frame_count frames - 1)
rising_part_ends_at_count frames some = prefix_ends_with_its_last_frame frames
    (rising_frame_count frames) (rising_count_is_at_most_length frames) some

-- The active faults at the end of a frame depend only on the frames so far.
pub active_faults-take : (g : Criteria) (frames : Transmission) (m n f : ℕ) → 0 < m → m ≤ length
    frames
    → n ≤ m
    → active_faults_at g (take m frames) n f ≡ active_faults_at g frames n f
active_faults-take g frames m n f some fits l =
    let size = length-take-le m frames fits in
    sym
    (active_faults_at-prefix g g.unread (take m frames) (drop m frames) n f (omega arith)
    (omega arith))
    ∙ ap (λ fs. active_faults_at g fs n f) (take-append-drop m frames)

module _ (g : Criteria) (frames : Transmission) (from to : ℕ)
    (stays : RunLastsTo g frames from to) where
  abbrev m : ℕ
  m = rising_frame_count frames

  abbrev part : Transmission
  part = rising_part frames

  stretch_frames_are_in_part : stays.n ≤ m
  stretch_frames_are_in_part = rising_count_is_the_greatest frames (length frames) stays.n
      stays.within stays.run.rises

  some : 0 < m
  some = let below = stays.run.below in let l = stretch_frames_are_in_part in omega arith

  order : (i j : ℕ) → i ≤ j → j < m → frame_at frames i ≤ frame_at frames j
  order = rising_frames_are_ordered frames m (rising_part_rises frames)

  later : (i : ℕ) → stays.n ≤ i → i < m → to + 1 ≤ frame_at frames i
  later i l high = grind
      (arith, nat_tests, rising_count_is_at_most_length, order, rising_part_rises, before)

  end_in_part_is_an_end : (n f : ℕ) → IsEnd part n f → IsEnd frames n f
  end_in_part_is_an_end n f h1 = grind (
    arith,
    nat_tests,
    rising_part_has_rising_count,
    rising_count_is_at_most_length,
    frame_at-take,
  )

  end_in_prefix_is_bounded : (n f : ℕ) → IsEnd part n f → f ≤ to → n ≤ stays.n
  end_in_prefix_is_bounded n f (some_n, below, place) high =
      grind (arith, nat_tests, cases_lt, rising_part_has_rising_count, frame_at-take, later)

  pub stretch_has_no_active_fault : (n f : ℕ) → IsEnd part n f → from ≤ f → f ≤ to
      → has_no_active_faults (active_faults_at g part n f) ≡ true
  stretch_has_no_active_fault n f at low high =
      let few = end_in_prefix_is_bounded n f at high in
      ap has_no_active_faults
      (active_faults-take g frames m n f some (rising_count_is_at_most_length frames)
      (let l = stretch_frames_are_in_part in omega
      arith))
      ∙ stays.ends n f (end_in_part_is_an_end n f at) few low (omega arith)

  stretch_ends_by_last_frame : to ≤ frame_at frames (m - 1)
  stretch_ends_by_last_frame = grind (
    arith,
    nat_tests,
    cases_lt,
    rising_count_is_at_most_length,
    order,
    before,
    stretch_frames_are_in_part,
    next_rising_frame_is_counted,
  )

  pub run_begins_in_part : stays.run.j < m
  run_begins_in_part = let b = stays.run.below in let l = stretch_frames_are_in_part in omega arith

  stretch : IsWithinTransmission part from to
  stretch =
      grind (
        arith,
        nat_tests,
        rising_part_has_rising_count,
        first-same,
        rising_part_ends_at_count,
        some,
        frame_at-take,
        order,
        run_begins_in_part,
        stretch_ends_by_last_frame,
      )

  packets_fault_free : (r : PacketRule) (i k : ℕ)
      → is_needed_by_receivers r ≡ true
      → i < m
      → k < length (packets_of_frame frames i)
      → from ≤ frame_at frames i
      → frame_at frames i ≤ to
      → breaks r g.watched (before frames i k) (packet_at frames i k) ≡ false
  packets_fault_free r i k needed l below low high =
      grind (arith, nat_tests, cases_lt, later, order, run_begins_in_part, rising_part_rises)

  pub unreported : HasNoReceiverFault g part from to
  unreported = record {
    stretch = stretch;
    rising = prefix_is_rising frames m (rising_count_is_at_most_length frames)
        (rising_part_rises frames);
    packets = λ r needed i k l below low high.
        let all = rising_part_has_rising_count frames in
        grind (arith, nat_tests, packets-take, frame_at-take, take-take, packets_fault_free);
    content = λ n f at low high.
        ap (λ (s : ActiveFaults). s.content)
        (no_active_faults_is_unique _ (stretch_has_no_active_fault n f at low high));
    gap = λ n f at low high.
        ap (λ (s : ActiveFaults). s.gap)
        (no_active_faults_is_unique _ (stretch_has_no_active_fault n f at low high));
    undecided = λ n f at low high.
        ap (λ (s : ActiveFaults). s.undecided)
        (no_active_faults_is_unique _ (stretch_has_no_active_fault n f at low high));
  }

  pub closed : HoldsAtFrameEnds (λ n f. IsFalse (active_faults_at g part n f).incomplete) part from
      to
  closed n f at low high =
      ap (λ (s : ActiveFaults). s.incomplete)
      (no_active_faults_is_unique _ (stretch_has_no_active_fault n f at low high))

  pub begins_with_header :
      has_text_beginning g.watched.keeps (kind g.watched.page) (packets_of part from) ≡ true
  begins_with_header =
      let all = rising_part_has_rising_count frames in
      passing_packet_is_in_frame (λ p. begins_text g.watched.keeps (kind g.watched.page p)) part
      stays.run.j from
      (let l = run_begins_in_part in omega arith)
      (frame_at-take frames m stays.run.j run_begins_in_part ∙ stays.run.at)
      (grind (arith, nat_tests, packets-take, run_begins_in_part))
