-- A range of frames that could be reported as trusted has no fault that affects receivers, ends
-- with a finished page, and lies before the first frame out of order.
use Rattle.std.proofs.lemmas.Bool.Decides.{nat_tests}
use Rattle.std.proofs.Common.{◌≡◌, ℕ, suc, ◌+◌, ◌-◌, ◌<◌, ◌≤◌, true, false, List, [], ◌++◌, drop}
use Rattle.std.proofs.Common.{length, take, get_or, Some, None, sym, ap, ◌∙◌, subst, arith}
use Rattle.std.proofs.Common.{inl, inr, Bool, Option, ◌==◌, if◌then◌else◌}
use Rattle.std.proofs.lemmas.Bool.{cases_lt}
use Rattle.std.proofs.lemmas.List.{take-append-drop}
use Rattle.ttx_page.specs.PacketKind.{kind}
use Rattle.ttx_page.specs.Span.{has_text_beginning}
use Rattle.sub_rules.specs.Events.{is_late, is_unfinished, no_active_faults, active_faults_at}
use Rattle.sub_rules.specs.Events.{unfinished_run_start}
use Rattle.sub_rules.specs.FrameRules.{Criteria, UnreadReason, frame_at, packets_before}
use Rattle.sub_rules.specs.FrameRules.{packets_of_frame}
use Rattle.sub_rules.specs.PacketTests.{breaks}
use Rattle.sub_rules.specs.PesPacketEvents.{sent_by_pes_packets}
use Rattle.sub_rules.specs.PesPackets.{PesPacket}
use Rattle.sub_rules.specs.Transmission.{Transmission}
use Rattle.sub_rules.proofs.EndRuleLemmas.{no_active_faults_is_unique}
use Rattle.sub_rules.proofs.PrefixEventLemmas.{packets_before-prefix, unfinished_run_start-prefix}
use Rattle.sub_laws.specs.CleanStretch.{IsEnd}
use Rattle.sub_trusted.specs.TrustedFrames.{MayBeReportedAsTrusted, rising_part}
use Rattle.sub_trusted.proofs.LateInvalidationLemmas.{KeepAllRules, seen_run_start}
use Rattle.sub_laws.proofs.PrefixLemmas.{RiseTo, frame_has_its_end, first-same, frame_at-take}
use Rattle.sub_laws.proofs.PrefixLemmas.{last-same}
use Rattle.sub_laws.proofs.PrefixLemmas.{packets-take, rising_frames_are_ordered, prefix_rises}
use Rattle.sub_trusted.proofs.TrustedFrameLemmas.{rising_part_ends_at_count}
use Rattle.sub_trusted.proofs.TrustedFrameLemmas.{rising_part_has_rising_count, rising_part_rises}
use Rattle.sub_trusted.proofs.TrustedFrameLemmas.{rising_frame_count}
use Rattle.sub_trusted.proofs.TrustedFrameLemmas.{rising_count_is_at_most_length}
use Rattle.sub_trusted.proofs.TrustedFrameLemmas.{active_faults-take}
use Rattle.sub_laws.proofs.UnfinishedLemmas.{finished_frame_starts_no_run}
use Rattle.sub_laws.proofs.UnfinishedLemmas.{run_starts_after_finished}
use Rattle.sub_laws.proofs.UnfinishedLemmas.{run_start_at_end_is_exact, unfinished_at}
use Rattle.sub_laws.proofs.UnfinishedLemmas.{unfinished_test_is_exact}
use Rattle.sub_rules.specs.Trusted.{has_no_active_faults}

module _ (frames : Transmission) where
  pub own_frame_is_an_end : (k : ℕ) → k < rising_frame_count frames → IsEnd (rising_part frames)
      (suc k) (frame_at frames k)
  own_frame_is_an_end k l = grind (
    arith,
    nat_tests,
    rising_part_has_rising_count,
    frame_at-take,
    rising_frame_count,
  )

  pub gap_frame_is_an_end_there : (n f : ℕ) → 0 < n → n < rising_frame_count frames → frame_at
      frames (n - 1) < f
      → f < frame_at frames n
      → IsEnd (rising_part frames) n f
  gap_frame_is_an_end_there n f some l low high =
      let all = rising_part_has_rising_count frames in
      let at = frame_at-take frames (rising_frame_count frames) n l in (
        some,
        omega arith,
        inr (
          omega arith,
          omega arith,
          λ j below.
              let there = frame_at-take frames (rising_frame_count frames) j (omega arith) in
              let up =
              rising_frames_are_ordered frames (rising_frame_count frames)
              (rising_part_rises frames) j (n - 1) (omega arith)
              (omega arith) in
              omega arith,
        ),
      )

  pub frame_before_is_an_end : (n f : ℕ) → 0 < n → n < rising_frame_count frames → frame_at frames
      (n - 1) < f
      → f ≤ frame_at frames n
      → IsEnd (rising_part frames) n (f - 1)
  frame_before_is_an_end n f some l low high = elim (cases_lt (frame_at frames (n - 1)) (f - 1)) [
    | inl after ↦ gap_frame_is_an_end_there n (f - 1) some l after (omega arith)
    | inr own ↦
        let at : frame_at frames (n - 1) ≡ f - 1 = omega arith in
        let size : suc (n - 1) ≡ n = omega arith in
        subst (λ k. IsEnd (rising_part frames) k (f - 1)) size
        (subst (IsEnd (rising_part frames) (suc (n - 1))) at (own_frame_is_an_end (n - 1)
        (omega arith)))
  ]

-- Frame i of the transmission has a header that erases the page, and is in the range from a to b,
-- which could be reported as trusted.
pub record Fits (g : Criteria) (frames : Transmission) (a b i : ℕ) : Type 0 where
  pub there : i < rising_frame_count frames
  pub low : a ≤ frame_at frames i
  pub high : frame_at frames i ≤ b
  pub header :
      has_text_beginning g.watched.keeps (kind g.watched.page) (packets_of_frame frames i) ≡ true
  pub packets :
      (k : ℕ)
      → k < rising_frame_count frames
      → a ≤ frame_at frames k
      → frame_at frames k ≤ b
      → KeepAllRules g.watched (packets_before frames k) (packets_of_frame frames k)
  pub ends :
      (n f : ℕ)
      → IsEnd (rising_part frames) n f
      → a ≤ f
      → f ≤ b
      → has_no_active_faults (active_faults_at g frames n f) ≡ true
  pub finished :
      (n f : ℕ)
      → IsEnd (rising_part frames) n f
      → b ≡ f
      → seen_run_start g frames n f ≡ None
  pub first_unfinished :
      (n f r : ℕ)
      → IsEnd (rising_part frames) n f
      → b ≤ f
      → seen_run_start g frames n f ≡ Some r
      → b < r
  pub back :
      (n f r : ℕ)
      → IsEnd (rising_part frames) n f
      → b ≤ f
      → unfinished_run_start g frames n f ≡ Some r
      → b < r
  pub last : b ≤ frame_at frames (rising_frame_count frames - 1)
  pub ends_before_falling_frame : rising_frame_count frames < length frames → b < frame_at frames
      (rising_frame_count frames - 1)
  pub unread : (u : UnreadReason) → g.unread ≡ Some u → b < frame_at frames
      (rising_frame_count frames - 1)

unseen_run_is_absent : (at_once : Bool) {first_unfinished : Option ℕ} → first_unfinished ≡ None
    → (if at_once then None else first_unfinished) ≡ None
unseen_run_is_absent at_once none = grind (arith, nat_tests)

module _ (g : Criteria) (pes_packets : List PesPacket) (a b : ℕ) (can : MayBeReportedAsTrusted g
    pes_packets a b)
  where
    abbrev frames : Transmission
    frames = sent_by_pes_packets g pes_packets

    abbrev m : ℕ
    m = rising_frame_count frames

    abbrev part : Transmission
    part = rising_part frames

    up : RiseTo part (length part)
    up = prefix_rises frames m (rising_count_is_at_most_length frames) (rising_part_rises frames)

    some : 0 < m
    some =
        let l = can.unreported.stretch.not_empty in let all = rising_part_has_rising_count frames
        in omega arith

    ends : (n f : ℕ) → IsEnd part n f → a ≤ f → f ≤ b
        → has_no_active_faults (active_faults_at g frames n f) ≡ true
    ends n f end low high =
        let all = rising_part_has_rising_count frames in
        let few = end.1 in
        ap has_no_active_faults
        (sym (active_faults-take g frames m n f some (rising_count_is_at_most_length frames)
        (omega arith)))
        ∙ can.fault_free n f end low high

    first_unfinished_in_part : (n f : ℕ) → IsEnd part n f
        → unfinished_run_start g frames n f ≡ unfinished_run_start g part n f
    first_unfinished_in_part n f end =
        let few = end.1 in
        sym (ap (λ (fs : Transmission). unfinished_run_start g fs n f) (take-append-drop m frames))
        ∙ unfinished_run_start-prefix g g.unread part (drop m frames) n f (omega arith)

    -- If `within` is 0 and no fault is active at a frame end, the page is finished there.
    at_once_finished : (n f : ℕ) → (g.within == 0) ≡ true
        → active_faults_at g part n f ≡ no_active_faults
        → is_unfinished g part n f ≡ false
    unfolding active_faults_at is_late
    at_once_finished n f at_once fault_free = grind (arith, nat_tests)

    stretch_end_is_finished : (n : ℕ) → IsEnd part n b → is_unfinished g part n b ≡ false
    stretch_end_is_finished n end =
        let order = can.unreported.stretch.in_order in
        elim (cases_lt 0 g.within) [
          | inl within ↦ can.finished within n b end (omega arith) (omega arith)
          | inr none ↦
              at_once_finished n b (grind (arith, nat_tests))
              (no_active_faults_is_unique _ (can.fault_free n b end order (omega arith)))
        ]

    last_frame_is_finished : unfinished_at g part up b ≡ false
    last_frame_is_finished =
        let first = first-same part in
        let last = last-same part in
        let from = can.unreported.stretch.from in
        let order = can.unreported.stretch.in_order in
        let to = can.unreported.stretch.to in
        let (n, end, on, l) =
        frame_has_its_end part up b can.unreported.stretch.not_empty (omega arith) (omega arith) in
        sym (unfinished_test_is_exact g part up n b end) ∙ stretch_end_is_finished n end

    first_frame_at_most : frame_at part 0 ≤ b
    first_frame_at_most = grind (arith, nat_tests)

    finished : (n f : ℕ) → IsEnd part n f → b ≡ f → unfinished_run_start g frames n f ≡ None
    finished n f end same =
        let low = first_frame_at_most in
        let k : ℕ = f - frame_at part 0 in
        let at : f ≡ frame_at part 0 + k = omega arith in
        let here : b ≡ frame_at part 0 + k = omega arith in
        first_unfinished_in_part n f end
        ∙ run_start_at_end_is_exact g part up k n f end at
        ∙ finished_frame_starts_no_run (unfinished_at g part up) (frame_at part 0) k
        (ap (unfinished_at g part up) (sym here) ∙ last_frame_is_finished)

    first_unfinished : (n f r : ℕ) → IsEnd part n f → b ≤ f → unfinished_run_start g frames n f
        ≡ Some r →
        b < r
    first_unfinished n f r end past is =
        let low = first_frame_at_most in
        let k : ℕ = f - frame_at part 0 in
        let at : f ≡ frame_at part 0 + k = omega arith in
        run_starts_after_finished (unfinished_at g part up) (frame_at part 0) k r b
        (sym (run_start_at_end_is_exact g part up k n f end at) ∙ sym (first_unfinished_in_part n
        f end) ∙
        is) last_frame_is_finished
        (omega arith)

    before_eq : (k : ℕ) → k < m → packets_before frames k ≡ packets_before part k
    before_eq k l =
        let all = rising_part_has_rising_count frames in
        sym (ap (λ (fs : Transmission). packets_before fs k) (take-append-drop m frames))
        ∙ packets_before-prefix g g.unread part (drop m frames) k (omega arith)

    packets : (k : ℕ) → k < m → a ≤ frame_at frames k → frame_at frames k ≤ b
        → KeepAllRules g.watched (packets_before frames k) (packets_of_frame frames k)
    packets k l low high p below r needed =
        let all = rising_part_has_rising_count frames in
        let at = frame_at-take frames m k l in
        let ps = packets-take frames m k l in
        subst
        (λ (qs : List (List ℕ)). p < length qs
        → breaks r g.watched (packets_before frames k ++ take p qs) (get_or qs p []) ≡ false) ps
        (λ under.
        rw (before_eq k l)
        (can.unreported.packets r needed k p (omega arith) under (omega arith) (omega arith))) below

    pub fits : (i : ℕ) → i < m → a ≤ frame_at frames i → frame_at frames i ≤ b
        → has_text_beginning g.watched.keeps (kind g.watched.page) (packets_of_frame frames i) ≡
        true
        → Fits g frames a b i
    fits i there low high header =
        grind (
          arith,
          nat_tests,
          rising_part_ends_at_count,
          some,
          rising_part_has_rising_count,
          packets,
          ends,
          finished,
          unseen_run_is_absent,
          first_unfinished,
        )
