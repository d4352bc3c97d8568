-- In a run of frames with an unfinished page, the page is unfinished from the run's first frame on,
-- and finished in the frame before, if any.
use Rattle.std.proofs.lemmas.Bool.Decides.{nat_tests}
use Rattle.std.proofs.Common.{◌≡◌, ℕ, zero, suc, ◌+◌, ◌-◌, ◌<◌, ◌≤◌, ◌⊎◌, inl, inr, Bool, true}
use Rattle.std.proofs.Common.{false, ◌&&◌, ◌||◌, Option, Some, None, is_some, length, refl, sym, ap}
use Rattle.std.proofs.Common.{◌∙◌, subst, arith, if◌then◌else◌}
use Rattle.std.proofs.lemmas.Bool.{cases_eq, cases_lt, true≢false}
use Rattle.std.proofs.lemmas.Option.{none-some, same_Some}
use Rattle.ttx_page.specs.PacketKind.{kind}
use Rattle.ttx_page.specs.Span.{is_open_after}
use Rattle.sub_rules.specs.Events.{gap_length, is_incomplete, is_unfinished, latest_frame}
use Rattle.sub_rules.specs.Events.{first_unfinished_in_frames}
use Rattle.sub_rules.specs.Events.{first_unfinished_in_gap, extended_unfinished_run}
use Rattle.sub_rules.specs.Events.{unfinished_run_start}
use Rattle.sub_rules.specs.Events.{first_wrong_cell_after}
use Rattle.sub_rules.specs.FrameRules.{Criteria, frame_at}
use Rattle.sub_rules.specs.Transmission.{Transmission, on_air_until}
use Rattle.sub_rules.proofs.EndLemmas.{gap_length-is}
use Rattle.sub_laws.specs.CleanStretch.{IsEnd}
use Rattle.sub_laws.proofs.PrefixLemmas.{RiseTo, end_is_on_air, rising_frames_are_ordered}
use Rattle.sub_laws.proofs.RisingEndLemmas.{latest_at}

module _ (un : ℕ → Bool) (first : ℕ) where
  -- The first frame of the run of unfinished frames up to frame `first` + k; `None` if that frame
  -- is finished.
  abbrev pub first_unfinished_at : ℕ → Option ℕ
  first_unfinished_at zero = extended_unfinished_run None (un first) first
  first_unfinished_at (suc k) = extended_unfinished_run (first_unfinished_at k) (un (first + suc k))
      (first + suc k)

  -- Frame r is the first of the run of unfinished frames up to frame `first` + k: all frames from r
  -- on are unfinished, and the frame before r, if any, is finished.
  pub record IsRunStart (k r : ℕ) : Type 0 where
    pub low : first ≤ r
    pub high : r ≤ first + k
    pub all : (e : ℕ) → r ≤ e → e ≤ first + k → un e ≡ true
    pub begins : (r ≡ first) ⊎ ((first < r) × (un (r - 1) ≡ false))

  pub absent_run_means_finished_frame : (k : ℕ) → first_unfinished_at k ≡ None → un (first + k) ≡
      false
  absent_run_means_finished_frame k h1 = grind (arith, nat_tests, none-some)

  pub finished_frame_starts_no_run : (k : ℕ) → un (first + k) ≡ false → first_unfinished_at k ≡ None
  finished_frame_starts_no_run k h1 = grind (arith, nat_tests)

  pub run_start_is_first_unfinished : (k r : ℕ) → first_unfinished_at k ≡ Some r → IsRunStart k r
  run_start_is_first_unfinished zero r e = go (un first) refl e
    where
      go : (b : Bool) → un first ≡ b → extended_unfinished_run None b first ≡ Some r → IsRunStart 0
          r
      go false is e = absurd (none-some r e)
      go true is e =
          let at : first ≡ r = same_Some _ _ e in
          record {
            low = omega arith;
            high = omega arith;
            all = λ x l m. let same : first ≡ x = omega arith in ap un (sym same) ∙ is;
            begins = inl (sym at);
          }
  run_start_is_first_unfinished (suc k) r e = go (run_start_is_first_unfinished k)
      (un (first + suc k)) refl
      (first_unfinished_at k) refl e
    where
      go : ((s : ℕ) → first_unfinished_at k ≡ Some s → IsRunStart k s)
          → (b : Bool) → un (first + suc k) ≡ b
          → (o : Option ℕ) → first_unfinished_at k ≡ o
          → extended_unfinished_run o b (first + suc k) ≡ Some r
          → IsRunStart (suc k) r
      go so_far false is o before e = absurd (none-some r e)
      go so_far true is None before e =
          let at : first + suc k ≡ r = same_Some _ _ e in
          let back : first + k ≡ r - 1 = omega arith in
          record {
            low = omega arith;
            high = omega arith;
            all = λ x l m. let same : first + suc k ≡ x = omega arith in ap un (sym same) ∙ is;
            begins = inr (omega arith, ap un (sym back) ∙ absent_run_means_finished_frame k before);
          }
      go so_far true is (Some s) before e =
          let at : s ≡ r = same_Some _ _ e in
          let earlier : IsRunStart k r = subst (IsRunStart k) at (so_far s before) in
          record {
            low = earlier.low;
            high = let l = earlier.high in omega arith;
            all = λ x l m. elim (cases_eq (first + suc k) x) [
              | inl same ↦ ap un (sym same) ∙ is
              | inr other ↦ earlier.all x l (omega arith)
            ];
            begins = earlier.begins;
          }

  -- At least one frame from a to `first` + k is finished, unless the run of unfinished frames
  -- begins at or before a.
  pub later_run_start_leaves_finished_frame : (a k : ℕ) → first ≤ a → a ≤ first + k
      → ((r : ℕ) → first_unfinished_at k ≡ Some r → r ≤ a → ⊥)
      → (e : ℕ) × (a ≤ e) × (e ≤ first + k) × (un e ≡ false)
  later_run_start_leaves_finished_frame a k low high late = go (first_unfinished_at k) refl
    where
      go : (o : Option ℕ) → first_unfinished_at k ≡ o
          → (e : ℕ) × (a ≤ e) × (e ≤ first + k) × (un e ≡ false)
      go None is = (first + k, high, omega arith, absent_run_means_finished_frame k is)
      go (Some r) is =
          let first_unfinished = run_start_is_first_unfinished k r is in
          elim (cases_lt a r) [
            | inr not_after ↦ absurd (late r is not_after)
            | inl after ↦ elim first_unfinished.begins [
              | inl start ↦ absurd (omega arith)
              | inr (some, before) ↦
                  let top = first_unfinished.high in (r - 1, omega arith, omega arith, before)
            ]
          ]

  -- The run of unfinished frames up to frame `first` + k begins after each finished frame up to
  -- there.
  pub run_starts_after_finished : (k r e : ℕ) → first_unfinished_at k ≡ Some r → un e ≡ false → e ≤
      first + k → e < r
  run_starts_after_finished k r e is finished high = elim (cases_lt e r) [
    | inl after ↦ after
    | inr not_before ↦
        absurd (true≢false (sym
        ((run_start_is_first_unfinished k r is).all e not_before high) ∙ finished))
  ]

module _ (g : Criteria) (t : Transmission) (rises : RiseTo t (length t)) where
  -- The page is unfinished at the end of frame f, given the packets on air up to that end.
  abbrev pub unfinished_at : ℕ → Bool
  unfinished_at f =
      is_some
      (if g.undecided f
      then None
      else first_wrong_cell_after g.watched.keeps g.watched.page (on_air_until t f) (g.due f))
      || (g.watched.complete && is_open_after (kind g.watched.page) (on_air_until t f))

  pub unfinished_test_is_exact : (n f : ℕ) → IsEnd t n f → is_unfinished g t n f ≡ unfinished_at f
  unfolding is_incomplete
  unfinished_test_is_exact n f end = rw (end_is_on_air t rises n f end) refl

  run_start_at_next_gap_frame : (n m : ℕ)
      → unfinished_run_start g t n (latest_frame t n + suc m)
      ≡ extended_unfinished_run (unfinished_run_start g t n (latest_frame t n + m))
      (is_unfinished g t n (latest_frame t n + suc m)) (latest_frame t n + suc m)
  unfolding unfinished_run_start first_unfinished_in_gap
  run_start_at_next_gap_frame n m = grind (arith, nat_tests)

  run_start_at_own_frame : (i : ℕ)
      → first_unfinished_in_frames g t (suc i)
      ≡ extended_unfinished_run (unfinished_run_start g t i (latest_frame t i + gap_length t i))
      (is_unfinished g t (suc i) (frame_at t i)) (frame_at t i)
  unfolding unfinished_run_start first_unfinished_in_frames
  run_start_at_own_frame i = grind (arith, nat_tests)

  no_run_before_first_frame : unfinished_run_start g t 0 (latest_frame t 0 + gap_length t 0) ≡ None
  unfolding unfinished_run_start first_unfinished_in_gap first_unfinished_in_frames latest_frame
      gap_length
  no_run_before_first_frame = refl

  last_is : (n : ℕ) → 0 < n → n ≤ length t → latest_frame t n ≡ frame_at t (n - 1)
  last_is n some l = latest_at t n (λ i a b. rises i a (omega arith)) some

  run_start_at_sent_frame : (i : ℕ) → i < length t
      → unfinished_run_start g t (suc i) (frame_at t i) ≡ first_unfinished_in_frames g t (suc i)
  unfolding unfinished_run_start first_unfinished_in_gap
  run_start_at_sent_frame i l = grind (arith, nat_tests, last_is)

  frame_before_next_is_an_end : (n x : ℕ) → 0 < n → n < length t → frame_at t (n - 1) ≤ x → x <
      frame_at t n
      → IsEnd t n x
  frame_before_next_is_an_end n x some there low high = elim (cases_eq x (frame_at t (n - 1))) [
    | inl own ↦ (some, omega arith, inl own)
    | inr other ↦ (
      some,
      omega arith,
      inr (
        there,
        high,
        λ i l.
            let up = rising_frames_are_ordered t (length t) rises i (n - 1) (omega arith)
            (omega arith) in
            omega arith,
      ),
    )
  ]

  pub record HasPreviousEnd (n f : ℕ) : Type 0 where
    pub m : ℕ
    pub end : IsEnd t m (f - 1)
    pub first_unfinished :
        unfinished_run_start g t n f
        ≡ extended_unfinished_run (unfinished_run_start g t m (f - 1)) (is_unfinished g t n f) f

  own_frame_has_previous_end : (i : ℕ) → suc i < length t → HasPreviousEnd (suc (suc i))
      (frame_at t (suc i))
  own_frame_has_previous_end i l =
      let up : frame_at t (suc i - 1) < frame_at t (suc i) = rises (suc i) (omega arith) l in
      let last = last_is (suc i) (omega arith) (omega arith) in
      let long = gap_length-is t (suc i) (omega arith) in
      let at : latest_frame t (suc i) + gap_length t (suc i) ≡ frame_at t (suc i) - 1 = omega arith
      in
      record {
        m = suc i;
        end = frame_before_next_is_an_end (suc i) (frame_at t (suc i) - 1) (omega arith) l
            (omega arith)
            (omega arith);
        first_unfinished =
            run_start_at_sent_frame (suc i) l ∙ run_start_at_own_frame (suc i)
            ∙ ap (λ x. extended_unfinished_run (unfinished_run_start g t (suc i) x)
            (is_unfinished g t (suc (suc i)) (frame_at t (suc i))) (frame_at t (suc i))) at;
      }

  gap_frame_has_previous_end : (n f : ℕ) → 0 < n → n < length t → f < frame_at t n → frame_at t
      (n - 1) < f
      → HasPreviousEnd n f
  gap_frame_has_previous_end n f some there high low =
      let last = last_is n some (omega arith) in
      let now : latest_frame t n + suc (f - 1 - latest_frame t n) ≡ f = omega arith in
      let earlier : latest_frame t n + (f - 1 - latest_frame t n) ≡ f - 1 = omega arith in
      record {
        m = n;
        end = frame_before_next_is_an_end n (f - 1) some there (omega arith) (omega arith);
        first_unfinished = rw (now, earlier) at
            (run_start_at_next_gap_frame n (f - 1 - latest_frame t n));
      }

  pub previous_end_frame : (n f : ℕ) → IsEnd t n f → frame_at t 0 < f → HasPreviousEnd n f
  previous_end_frame zero f (some, l, at) after = absurd (omega arith)
  previous_end_frame (suc zero) f (some, l, inl own) after =
      let first : frame_at t (suc zero - 1) ≡ frame_at t 0 = ap (frame_at t) (omega arith) in
      absurd (omega arith)
  previous_end_frame (suc (suc i)) f (some, l, inl own) after =
      let back : frame_at t (suc (suc i) - 1) ≡ frame_at t (suc i) =
      ap (frame_at t) (omega arith) in
      subst (HasPreviousEnd (suc (suc i))) (sym (own ∙ back)) (own_frame_has_previous_end i
      (omega arith))
  previous_end_frame (suc n) f (some, l, inr (there, high, low)) after =
      gap_frame_has_previous_end (suc n) f some there high (low (suc n - 1) (omega arith))

  pub run_start_at_first_frame : (n f : ℕ) → IsEnd t n f → f ≡ frame_at t 0
      → unfinished_run_start g t n f ≡ extended_unfinished_run None (is_unfinished g t n f) f
  run_start_at_first_frame zero f (some, l, at) first = absurd (omega arith)
  run_start_at_first_frame (suc zero) f end first =
      grind (
        arith,
        nat_tests,
        run_start_at_sent_frame,
        run_start_at_own_frame,
        no_run_before_first_frame,
      )
  run_start_at_first_frame (suc (suc i)) f (some, l, inl own) first =
      let up = rises (suc i) (omega arith) (omega arith) in
      let low = rising_frames_are_ordered t (length t) rises 0 (suc i - 1) (omega arith)
      (omega arith) in
      let back : frame_at t (suc (suc i) - 1) ≡ frame_at t (suc i) =
      ap (frame_at t) (omega arith) in
      absurd (omega arith)
  run_start_at_first_frame (suc (suc i)) f (some, l, inr (there, high, low)) first =
      let after = low 0 (omega arith) in absurd (omega arith)

  pub run_start_at_end_is_exact : (k n f : ℕ) → IsEnd t n f → f ≡ frame_at t 0 + k
      → unfinished_run_start g t n f ≡ first_unfinished_at unfinished_at (frame_at t 0) k
  run_start_at_end_is_exact zero n f end at =
      let first : f ≡ frame_at t 0 = omega arith in
      grind (arith, nat_tests, run_start_at_first_frame, unfinished_test_is_exact)
  run_start_at_end_is_exact (suc k) n f end at =
      let before = previous_end_frame n f end (omega arith) in
      let earlier = run_start_at_end_is_exact k before.m (f - 1) before.end (omega arith) in
      grind (arith, nat_tests, unfinished_test_is_exact)
