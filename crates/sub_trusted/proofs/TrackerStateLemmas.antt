-- Before, during and after a frame, all frames of the current run are fault-free, and their numbers
-- increase.
use Rattle.std.proofs.lemmas.Bool.Decides.{nat_tests}
use Rattle.std.proofs.Common.{◌≡◌, ℕ, suc, ◌+◌, ◌-◌, ◌<◌, ◌≤◌, ◌⊎◌, inl, inr, Bool, true, false}
use Rattle.std.proofs.Common.{◌&&◌, ◌==◌, ◌∷◌, nat_lt, List, length, Option, Some, None, is_some}
use Rattle.std.proofs.Common.{refl, sym, ◌∙◌, subst, arith, if◌then◌else◌, le_refl}
use Rattle.std.proofs.lemmas.Bool.{cases_lt}
use Rattle.std.specs.Option.{option_or}
use Rattle.ttx_page.specs.PacketKind.{kind}
use Rattle.ttx_page.specs.Span.{has_text_beginning}
use Rattle.sub_rules.specs.Events.{gap_length, latest_frame, active_faults_at, active_faults_before}
use Rattle.sub_rules.specs.FrameRules.{Criteria, end_frame, frame_at, packets_before}
use Rattle.sub_rules.specs.FrameRules.{packets_of_frame}
use Rattle.sub_rules.specs.PacketTests.{breaks}
use Rattle.sub_rules.specs.Transmission.{Transmission}
use Rattle.sub_rules.specs.Trusted.CheckStep.{AtPes}
use Rattle.sub_rules.specs.declared.event.Event.{Event}
use Rattle.sub_rules.specs.declared.packet_rule.PacketRule.{PacketRule}
use Rattle.sub_rules.proofs.EndLemmas.{gap_length-is, active_faults_before_eq}
use Rattle.sub_laws.specs.CleanStretch.{IsEnd, is_needed_by_receivers}
use Rattle.sub_trusted.proofs.LateInvalidationLemmas.{KeepAllRules, seen_run_start}
use Rattle.sub_laws.proofs.PrefixLemmas.{RiseTo, before, packet_at, rising_frames_are_ordered}
use Rattle.sub_laws.proofs.RisingEndLemmas.{latest_at}
use Rattle.sub_trusted.proofs.EmittedStepLemmas.{AreEmitted, first_invalidated_frame}
use Rattle.sub_trusted.proofs.EmittedStepLemmas.{kept_run_was_valid}
use Rattle.sub_trusted.proofs.EmittedStepLemmas.{valid_events_have_no_order_fault, has_risen}
use Rattle.sub_trusted.proofs.TrustedRunLemmas.{EndsFaultFree, IsRun, Stays, RunLastsTo}
use Rattle.sub_rules.specs.PesPacketEvents.{needs_back_steps}
use Rattle.sub_rules.specs.Trusted.{CheckStep, back_frame_of, last_packet_frame, late_run_start}
use Rattle.sub_rules.specs.Trusted.{run_of}
use Rattle.sub_rules.specs.Trusted.{first_unfinished_of}
use Rattle.sub_rules.specs.Trusted.{has_no_active_faults, stays_fault_free, reports_order_fault}
use Rattle.sub_rules.specs.Trusted.{frame_if_finished, first_finished_of}

pub run_needs_rising_frames : (b : Bool) (run : Option ℕ) (from : ℕ) → (b ≡ false → run ≡ None) →
    run ≡ Some from
    → b ≡ true
run_needs_rising_frames b run from h is = grind (arith, nat_tests)

pub run_continues_or_begins : (clean none : Bool) (run : Option ℕ) (has : Bool) (f from : ℕ)
    → (if clean && none then option_or run (if has then Some f else None) else None) ≡ Some from
    → (clean ≡ true) × (none ≡ true)
    × ((run ≡ Some from) ⊎ ((run ≡ None) × (has ≡ true) × (f ≡ from)))
run_continues_or_begins clean none run has f from e = grind (arith, nat_tests)

pub correct_frame_continues_or_begins : (whole first_unfinished : Option ℕ) (f w : ℕ)
    → option_or whole (frame_if_finished f first_unfinished) ≡ Some w
    → (whole ≡ Some w) ⊎ ((first_unfinished ≡ None) × (f ≡ w))
correct_frame_continues_or_begins whole first_unfinished f w e = grind (arith, nat_tests)

-- The steps record neither an unfinished nor an overdue page, as when `within` is 0. The current
-- run, if any, has a frame at whose end the page was finished.
pub record SeesNoLateness (t : List CheckStep) : Type 0 where
  pub first_unfinished : first_unfinished_of t ≡ None
  pub late : late_run_start t ≡ None
  pub whole : is_some (run_of t) ≡ true → is_some (first_finished_of t) ≡ true

pub finished_frame_gives_correct_frame : (whole first_unfinished : Option ℕ) (f : ℕ) →
    first_unfinished ≡ None
    → is_some (option_or whole (frame_if_finished f first_unfinished)) ≡ true
finished_frame_gives_correct_frame whole first_unfinished f none = grind (arith, nat_tests)

module _ (g : Criteria) (frames : Transmission) where
  -- Frame w is not before frame `from`, frame numbers increase up to it, and the page is finished
  -- at its end or `within` is 0.
  pub record IsCorrectFrom (from w : ℕ) : Type 0 where
    pub low : from ≤ w
    pub n : ℕ
    pub end : IsEnd frames n w
    pub rises : RiseTo frames n
    pub finished : seen_run_start g frames n w ≡ None

  -- The frames `from` to `to` belong to a run of fault-free frames, and the page was finished at
  -- the end of one of them, or `within` is 0.
  pub record IsTrustedCorrect (from to : ℕ) : Type 0 where
    pub stays : RunLastsTo g frames from to
    pub w : ℕ
    pub high : w ≤ to
    pub whole : IsCorrectFrom from w

  -- The frame `from` is after the first `base` frames of the transmission.
  abbrev pub IsAfterFrames : ℕ → ℕ → Type 0
  IsAfterFrames base from = (i : ℕ) → i < base → frame_at frames i < from

  -- The frames `from` to `to` belong to a run of fault-free frames, with a finished page if
  -- `within` is not 0 (`IsTrustedCorrect`). They are after the first `base` frames of the
  -- transmission and, if all frame numbers increase, before frame `late`.
  pub record IsTrustedBetween (base late from to : ℕ) : Type 0 where
    pub stretch_is_trusted_correct : IsTrustedCorrect from to
    pub above : IsAfterFrames base from
    pub early : RiseTo frames (length frames) → to < late

  -- A run among the first n frames of the transmission may end before frame y: y is at most x and,
  -- if frame n follows, at most the greater of the numbers of frames n - 1 and n; otherwise y is at
  -- most `late`.
  pub record MayEndBefore (late n x y : ℕ) : Type 0 where
    pub within : n ≤ length frames
    pub low : y ≤ x
    pub next :
        n < length frames
        → ((frame_at frames (n - 1) < frame_at frames n) × (y ≤ frame_at frames n))
        ⊎ (y ≤ frame_at frames (n - 1))
    pub last : n ≡ length frames → y ≤ late

  run_ends_before_late_frame : (late n x y : ℕ) → MayEndBefore late n x y → 0 < n → end_frame frames
      ≤ late
      → RiseTo frames (length frames)
      → y ≤ late
  run_ends_before_late_frame late n x y may some after rises =
      let within = may.within in
      elim (cases_lt n (length frames)) [
        | inl more ↦
            let next =
            rising_frames_are_ordered frames (length frames) rises n (length frames - 1)
            (omega arith) (omega arith)
            in
            let own =
            rising_frames_are_ordered frames (length frames) rises (n - 1) (length frames - 1)
            (omega arith)
            (omega arith) in
            elim (may.next more) [ inl (up, low) ↦ omega arith | inr low ↦ omega arith ]
        | inr all ↦ may.last (omega arith)
      ]

  pub calm : (t u : List CheckStep) (es : List Event) → AreEmitted t u es → (from : ℕ) → run_of u
      ≡ Some from
      → first_invalidated_frame t es ≡ None
  calm t u es emitted from
      is = (kept_run_was_valid (run_of t) (first_invalidated_frame t es) from
      (sym emitted.run_eq ∙ is)).1

  -- If frame numbers increase up to frame n of the transmission, each frame that ends after at most
  -- n frames of the transmission is before frame n.
  pub earlier_end_is_before_frame : (n : ℕ) → RiseTo frames (suc n) → (m f : ℕ) → IsEnd frames m f →
      m ≤ n
      → f < frame_at frames n
  earlier_end_is_before_frame n rises m f (some, within, inl is) l =
      let up = rising_frames_are_ordered frames (suc n) rises (m - 1) (n - 1) (omega arith)
      (omega arith) in
      let last = rises n (omega arith) (omega arith) in
      omega arith
  earlier_end_is_before_frame n rises m f (some, within, inr (there, high, low)) l =
      let up = rising_frames_are_ordered frames (suc n) rises m n (omega arith) (omega arith)
      in omega arith

  -- If the numbers of the first n frames of the transmission increase, a frame that ends after
  -- fewer than n of them is not after frame n - 1.
  pub end_in_prefix_is_bounded : (n : ℕ) → RiseTo frames n → (m f : ℕ) → IsEnd frames m f → m < n
      → f ≤ frame_at frames (n - 1)
  end_in_prefix_is_bounded n rises m f (some, within, inl is) l =
      let up = rising_frames_are_ordered frames n rises (m - 1) (n - 1) (omega arith) (omega arith)
      in omega arith
  end_in_prefix_is_bounded n rises m f (some, within, inr (there, high, low)) l =
      let up = rising_frames_are_ordered frames n rises m (n - 1) (omega arith) (omega arith)
      in omega arith

  -- Frame n is not the first of the transmission, frame numbers increase up to it, and frame n - 1
  -- has the greatest number before it. All this is true if a run continues.
  pub record RunFacts (n : ℕ) : Type 0 where
    pub some : 0 < n
    pub last : latest_frame frames n ≡ frame_at frames (n - 1)
    pub rises : RiseTo frames (suc n)
    pub up : frame_at frames (n - 1) < frame_at frames n
    pub long : latest_frame frames n + suc (gap_length frames n) ≡ frame_at frames n

  pub gap_end : (n k : ℕ) → n < length frames → k < gap_length frames n → RunFacts n
      → IsEnd frames n (latest_frame frames n + suc k)
  gap_end n k there l h =
      let last = h.last in
      let long = h.long in
      let some = h.some in (
        some,
        omega arith,
        inr (
          there,
          omega arith,
          λ i m.
              let up = rising_frames_are_ordered frames (suc n) h.rises i (n - 1) (omega arith)
              (omega arith) in
              omega arith,
        ),
      )

  -- Frame n can belong to a run: frame numbers increase up to it, its packets break no rule that
  -- affects receivers, and no fault is active at its end.
  pub record IsFaultFreeFrame (n : ℕ) : Type 0 where
    pub rises : RiseTo frames (suc n)
    pub kept : KeepAllRules g.watched (packets_before frames n) (packets_of_frame frames n)
    pub none : has_no_active_faults (active_faults_at g frames (suc n) (frame_at frames n)) ≡ true

  fault_free_frame_breaks_no_rule : (n i : ℕ) → IsFaultFreeFrame n → n ≡ i → (r : PacketRule)
      (k : ℕ) → is_needed_by_receivers r ≡
      true
      → k < length (packets_of_frame frames i)
      → breaks r g.watched (before frames i k) (packet_at frames i k) ≡ false
  fault_free_frame_breaks_no_rule n i fault_free same r k needed l = grind (arith, nat_tests)

  fault_free_frame_has_no_fault : (n m e : ℕ) → IsFaultFreeFrame n → suc n ≡ m → IsEnd frames m e
      → e < frame_at frames (suc n - 1) + 1
      → has_no_active_faults (active_faults_at g frames m e) ≡ true
  fault_free_frame_has_no_fault n m e fault_free same end high = grind (arith, nat_tests)

  pub run_starts_by_last_frame : (n from : ℕ) → IsRun g frames n from → from ≤ frame_at frames
      (n - 1)
  run_starts_by_last_frame n from run =
      let below = run.below in
      let at = run.at in
      let up = rising_frames_are_ordered frames n run.rises run.j (n - 1) (omega arith)
      (omega arith) in
      omega arith

  pub fault_free_frame_extends_run : (n from : ℕ) → IsFaultFreeFrame n → IsRun g frames n from
      → EndsFaultFree g frames n from (frame_at frames n)
      → IsRun g frames (suc n) from
  fault_free_frame_extends_run n from fault_free run ends = record {
    j = run.j;
    below = let below = run.below in omega arith;
    at = run.at;
    header = run.header;
    rises = fault_free.rises;
    packets = λ r i k needed low high l. elim (cases_lt i n) [
      | inl earlier ↦ run.packets r i k needed low earlier l
      | inr here ↦ fault_free_frame_breaks_no_rule n i fault_free (omega arith) r k needed l
    ];
    ends = λ m e end few low high. elim (cases_lt n m) [
      | inl all ↦ fault_free_frame_has_no_fault n m e fault_free (omega arith) end high
      | inr fewer ↦
          ends m e end (omega arith) low
          (earlier_end_is_before_frame n fault_free.rises m e end (omega arith))
    ];
  }

  pub fault_free_header_begins_run : (n : ℕ) → IsFaultFreeFrame n
      → has_text_beginning g.watched.keeps (kind g.watched.page) (packets_of_frame frames n) ≡ true
      → IsRun g frames (suc n) (frame_at frames n)
  fault_free_header_begins_run n fault_free header = record {
    j = n;
    below = omega arith;
    at = refl;
    header = header;
    rises = fault_free.rises;
    packets = λ r i k needed low high l. fault_free_frame_breaks_no_rule n i fault_free
        (omega arith) r k needed
        l;
    ends = λ m e end few low high. elim (cases_lt n m) [
      | inl all ↦ fault_free_frame_has_no_fault n m e fault_free (omega arith) end high
      | inr fewer ↦
          let early = earlier_end_is_before_frame n fault_free.rises m e end (omega arith) in
          absurd (omega arith)
    ];
  }

module _ (g : Criteria) (frames : Transmission) (base : ℕ) where
  -- The current run, if any, begins after the first `base` frames of the transmission and lasts to
  -- frame n - 1. No fault is active at the end of any of its frames before frame x.
  pub record Keeps (n x : ℕ) (t : List CheckStep) : Type 0 where
    pub run : (from : ℕ) → run_of t ≡ Some from → IsRun g frames n from
    pub ends : (from : ℕ) → run_of t ≡ Some from → EndsFaultFree g frames n from x
    pub whole : (from w : ℕ) → run_of t ≡ Some from → first_finished_of t ≡ Some w → IsCorrectFrom g
        frames from w
    pub above : (from : ℕ) → run_of t ≡ Some from → IsAfterFrames g frames base from
    pub falls : has_risen t ≡ false → run_of t ≡ None
    pub at_once : (g.within == 0) ≡ true → SeesNoLateness t
    pub plain : needs_back_steps g ≡ false → back_frame_of t ≡ None

  pub tracking_holds_to_later_frame : (n x y : ℕ) (t : List CheckStep) → Keeps n x t
      → ((from : ℕ) → run_of t ≡ Some from → EndsFaultFree g frames n from y)
      → Keeps n y t
  tracking_holds_to_later_frame n x y t keeps ends = grind (arith, nat_tests)

  pub tracked_run_passes_before_frame : (late n x y : ℕ) (t : List CheckStep) → Keeps n x t
      → MayEndBefore g frames late n x y
      → end_frame frames ≤ late
      → late ≤ end_frame frames + 1
      → (from w : ℕ)
      → run_of t ≡ Some from
      → first_finished_of t ≡ Some w
      → w < y
      → IsTrustedBetween g frames base late from (y - 1)
  tracked_run_passes_before_frame late n x y t keeps may after until from w run whole l =
      let at = keeps.whole from w run whole in
      let low = at.low in
      let same : y ≡ y - 1 + 1 = omega arith in
      record {
        stretch_is_trusted_correct = record {
          stays = subst (Stays g frames from) same (record {
            n = n;
            within = may.within;
            run = keeps.run from run;
            before = omega arith;
            ends = λ m f end few after high.
                keeps.ends from run m f end few after (omega (arith, may.low));
            next = may.next;
            last = λ all. let high = may.last all in omega arith;
          });
          w = w;
          high = omega arith;
          whole = at;
        };
        above = keeps.above from run;
        early = λ rises.
            let below = (keeps.run from run).below in
            let high = run_ends_before_late_frame g frames late n x y may (omega arith) after rises
            in
            omega arith;
      }

  pub tracking_continues_after_events : (n x : ℕ) (t u : List CheckStep) (es : List Event) → Keeps n
      x t → AreEmitted
      t u es
      → Keeps n x u
  tracking_continues_after_events n x t u es keeps emitted = record {
    run = λ from is. keeps.run from (was from is);
    ends = λ from is. keeps.ends from (was from is);
    whole = λ from w is whole. keeps.whole from w (was from is)
        (sym emitted.first_finished_eq ∙
        whole);
    above = λ from is. keeps.above from (was from is);
    falls = falls;
    at_once = λ e.
        let none = keeps.at_once e in
        record {
          first_unfinished = emitted.first_unfinished_eq ∙ none.first_unfinished;
          late = emitted.late_eq ∙ none.late;
          whole = λ there. correct_frame_exists_after_events
              (none.whole (run_existed_before_events there));
        };
    plain = λ e. emitted.back_frames_agree ∙ keeps.plain e;
  }
    where
      run_existed_before_events : is_some (run_of u) ≡ true → is_some (run_of t) ≡ true
      run_existed_before_events there = let run_eq = emitted.run_eq in grind
          (arith, nat_tests)

      correct_frame_exists_after_events : is_some (first_finished_of t) ≡ true → is_some
          (first_finished_of u) ≡ true
      correct_frame_exists_after_events
          whole = let first_finished_eq = emitted.first_finished_eq in grind
          (arith, nat_tests)

      was : (from : ℕ) → run_of u ≡ Some from → run_of t ≡ Some from
      was from is = (kept_run_was_valid (run_of t) (first_invalidated_frame t es) from
          (sym emitted.run_eq ∙ is)).0

      falls : has_risen u ≡ false → run_of u ≡ None
      falls e =
          let run_eq = emitted.run_eq in
          let rises_is = emitted.rises_is in
          let before = keeps.falls in
          let orders = valid_events_have_no_order_fault t es in
          grind (arith, nat_tests)

  -- Of the frames without packets directly before frame n of the transmission, the first k have
  -- ended. The current run, if any, had no active fault at their ends. Frame numbers increase up to
  -- frame n, unless a step reports a number out of order.
  pub record HasEndedGapFrames (n k : ℕ) (t : List CheckStep) : Type 0 where
    pub keeps : Keeps n (latest_frame frames n + suc k) t
    pub base_at_most : base ≤ n
    pub rises : has_risen t ≡ true → RiseTo frames (suc n)
    pub back :
        has_risen t ≡ true
        → (r : ℕ)
        → back_frame_of t ≡ Some r
        → (0 < n) × (r ≤ latest_frame frames n + k)

  pub tracked_run_has_its_facts : (n x from : ℕ) (t : List CheckStep) → Keeps n x t
      → (has_risen t ≡ true → RiseTo frames (suc n))
      → run_of t ≡ Some from
      → RunFacts g frames n
  tracked_run_has_its_facts n x from t keeps so is =
      let run = keeps.run from is in
      let some : 0 < n = let below = run.below in omega arith in
      let rises = so (run_needs_rising_frames (has_risen t) (run_of t) from keeps.falls is) in
      let last = latest_at frames n run.rises some in
      let up = rises n some (omega arith) in
      let long = gap_length-is frames n some in
      record { some = some; last = last; rises = rises; up = up; long = omega arith }

  -- If a run continues, and frame f is after frame n - 1 of the transmission and not after frame n,
  -- no fault was active at the end of the frame before f.
  pub no_faults_before : (n f from : ℕ) (t : List CheckStep) → n < length frames → Keeps n f t
      → run_of t ≡ Some from
      → RunFacts g frames n
      → latest_frame frames n < f
      → f ≤ frame_at frames n
      → has_no_active_faults (active_faults_before g frames n f) ≡ true
  no_faults_before n f from t there keeps is h after high =
      let some = h.some in
      rw (active_faults_before_eq g frames n f some) (go (nat_lt (latest_frame frames n + 1) f)
      refl)
    where
      go : (b : Bool) → nat_lt (latest_frame frames n + 1) f ≡ b
          → has_no_active_faults
          (active_faults_at g frames n (if b then f - 1 else frame_at frames (n - 1)))
          ≡ true
      go false e =
          let low = run_starts_by_last_frame g frames n from (keeps.run from is) in
          let last = h.last in
          keeps.ends from is n (frame_at frames (n - 1)) (h.some, omega arith, inl refl) (le_refl n)
          low (omega arith)
      go true e =
          let low = run_starts_by_last_frame g frames n from (keeps.run from is) in
          let last = h.last in
          let long = h.long in
          let later : latest_frame frames n + 1 < f = grind (arith, nat_tests) in
          let k : ℕ = f - 1 - suc (latest_frame frames n) in
          let at : latest_frame frames n + suc k ≡ f - 1 = omega arith in
          keeps.ends from is n (f - 1)
          (subst (IsEnd frames n) at (gap_end g frames n k there (omega arith) h)) (le_refl n)
          (omega arith) (omega arith)

  -- The first n frames of the transmission have ended, and no later frame. The current run, if any,
  -- had no active fault up to the end of frame n - 1. The numbers of these n frames increase,
  -- unless a step reports a number out of order.
  pub record HasEndedFrames (n : ℕ) (t : List CheckStep) : Type 0 where
    pub keeps : Keeps n (frame_at frames (n - 1) + 1) t
    pub base_at_most : base ≤ n
    pub last : 0 < n → last_packet_frame t ≡ frame_at frames (n - 1)
    pub rises : has_risen t ≡ true → RiseTo frames n
    pub first_unfinished :
        (r from : ℕ) → run_of t ≡ Some from → first_unfinished_of t ≡ Some r → r ≤ frame_at frames
        (n - 1)
    pub back :
        has_risen t ≡ true
        → (r : ℕ)
        → back_frame_of t ≡ Some r
        → (0 < n) × (r ≤ frame_at frames (n - 1))

  -- The first n frames of the transmission have ended, and frame n has begun with these packets. If
  -- frame n stays fault-free, the packets break no rule that affects receivers.
  pub record HasBegunNextFrame (n : ℕ) (packets : List (List ℕ)) (t : List CheckStep) : Type 0 where
    pub keeps : Keeps n (frame_at frames n) t
    pub base_at_most : base ≤ suc n
    pub last : last_packet_frame t ≡ frame_at frames n
    pub rises : has_risen t ≡ true → RiseTo frames (suc n)
    pub clean :
        (stays_fault_free t) ≡ true
        → (has_risen t ≡ true) × KeepAllRules g.watched (packets_before frames n) packets
    pub fresh : stays_fault_free t ≡ true → base ≤ n
    pub back : has_risen t ≡ true → (r : ℕ) → back_frame_of t ≡ Some r → r ≤ frame_at frames n

  pub ended_frames_ignore_packet_number : (n pes : ℕ) (t : List CheckStep) → HasEndedFrames n t →
      HasEndedFrames n (AtPes pes ∷ t)
  unfolding run_of first_finished_of last_packet_frame first_unfinished_of late_run_start
      back_frame_of
      stays_fault_free
      reports_order_fault
  ended_frames_ignore_packet_number n pes t closed = grind (arith, nat_tests)

  pub rising_is_older_than_events : (t u : List CheckStep) (es : List Event) → AreEmitted t u es →
      has_risen u ≡
      true
      → has_risen t ≡ true
  rising_is_older_than_events t u es emitted
      e = let rises_is = emitted.rises_is in grind (arith, nat_tests)

  pub ended_frames_continue_after_events : (n : ℕ) (t u : List CheckStep) (es : List Event) →
      HasEndedFrames n t → AreEmitted t
      u es
      → HasEndedFrames n u
  ended_frames_continue_after_events n t u es closed emitted =
      grind (
        arith,
        nat_tests,
        tracking_continues_after_events,
        has_risen,
        kept_run_was_valid,
        first_invalidated_frame,
        rising_is_older_than_events,
      )

  pub begun_frame_ignores_packet_number : (n pes : ℕ) (packets : List (List ℕ)) (t : List CheckStep)
      → HasBegunNextFrame n packets t
      → HasBegunNextFrame n packets (AtPes pes ∷ t)
  unfolding run_of first_finished_of last_packet_frame first_unfinished_of late_run_start
      back_frame_of
      stays_fault_free
      reports_order_fault
  begun_frame_ignores_packet_number n pes packets t opens = grind (arith, nat_tests)

  pub run_may_end_in_frame : (n : ℕ) (packets : List (List ℕ)) (t : List CheckStep) → n < length
      frames
      → HasBegunNextFrame n packets t
      → (from : ℕ) → run_of t ≡ Some from
      → (late y : ℕ) → y ≤ frame_at frames n
      → MayEndBefore g frames late n (frame_at frames n) y
  run_may_end_in_frame n packets t there opens from is late y high = grind (arith, nat_tests)

  pub begun_frame_continues_after_events : (n : ℕ) (packets more : List (List ℕ))
      (t u : List CheckStep)
      (es : List Event)
      → HasBegunNextFrame n packets t
      → AreEmitted t u es
      → (first_invalidated_frame t es ≡ None
      → KeepAllRules g.watched (packets_before frames n) packets
      → KeepAllRules g.watched (packets_before frames n) more)
      → HasBegunNextFrame n more u
  begun_frame_continues_after_events n packets more t u es opens emitted still =
      grind (
        arith,
        nat_tests,
        tracking_continues_after_events,
        has_risen,
        first_invalidated_frame,
        before,
        valid_events_have_no_order_fault,
        rising_is_older_than_events,
      )
