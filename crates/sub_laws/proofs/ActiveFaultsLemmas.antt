-- If `within` is 0, a fault is active at the end of a frame exactly if the transmission does not
-- meet the requirement of its rule.
use Rattle.std.proofs.Common.{◌≡◌, ◌↔◌, ℕ, zero, suc, ◌+◌, ◌-◌, ◌<◌, ◌≤◌, Bool, true, false, []}
use Rattle.std.proofs.Common.{length, take, Option, Some, None, refl, sym, subst, arith, not, ◌||◌}
use Rattle.std.proofs.Common.{◌&&◌, ◌==◌, ◌∙◌, ap, get_or, is_some, option_map, inl, inr, ◌⊎◌}
use Rattle.std.proofs.Common.{le_refl, ◌≢◌}
use Rattle.std.specs.Prelude.{option_and_then}
use Rattle.std.specs.List.{list_any}
use Rattle.std.proofs.lemmas.Bool.{cases_lt, or_parts, true≢false}
use Rattle.std.proofs.lemmas.Bool.Decides.{nat_tests, Decides-and, Decides-at, Decides-like}
use Rattle.std.proofs.lemmas.Bool.Decides.{Decides-ltb, Decides-or}
use Rattle.std.proofs.lemmas.List.{get_or-map}
use Rattle.std.proofs.lemmas.Option.{none-some, same_Some}
use Rattle.std.specs.Bool.{Decides}
use Rattle.std.proofs.lemmas.List.Folds.{list_any_more}
use Rattle.ttx_packet.specs.OneBit.{first_below}
use Rattle.ttx_packet.proofs.OneBitLemmas.{first_below_satisfies_test}
use Rattle.ttx_page.specs.Page.{IsCell}
use Rattle.ttx_page.specs.Shown.{kept}
use Rattle.sub_rules.specs.Events.{place_of_broken_rule, broken_cell, has_recent_header, first_cell}
use Rattle.sub_rules.specs.Events.{is_gap, is_silent}
use Rattle.sub_rules.specs.Events.{is_incomplete, is_late, is_right_cell, active_faults_at}
use Rattle.sub_rules.specs.Events.{first_wrong_cell_after}
use Rattle.sub_rules.specs.Events.{wrong_cell}
use Rattle.sub_rules.specs.Events.{is_silent_for, latest_frame, is_undecided_within}
use Rattle.sub_rules.specs.Events.{first_unexpected_cell_after}
use Rattle.sub_rules.specs.Events.{unexpected_cell}
use Rattle.sub_rules.specs.Events.{was_undecided}
use Rattle.sub_rules.specs.FrameRules.{Criteria, HasHeader, HasRecentPageHeader}
use Rattle.sub_rules.specs.FrameRules.{IsCompleteIfRequired}
use Rattle.sub_rules.specs.FrameRules.{HasRecentPesPacket, IsCorrectCell}
use Rattle.sub_rules.specs.FrameRules.{frame_at, packets_before}
use Rattle.sub_rules.specs.Transmission.{SentFrame, Transmission}
use Rattle.sub_rules.proofs.TestLemmas.{first_below_is_least, no_first_below_fails_each, holds}
use Rattle.sub_rules.specs.declared.end_rule.EndRule.{EndRule}
use Rattle.sub_rules.specs.declared.end_rule.EndRule.TheVariants as end
use Rattle.sub_rules.proofs.EndRuleLemmas.{no_active_faults_break_no_rule}
use Rattle.sub_laws.specs.BrokenPlaces.{IsKept, AreActiveFaults, IsFirstWrongCell}
use Rattle.sub_laws.proofs.FrameByFrame.{IsFaultFree}

pub record IsFirstCell (test : ℕ → ℕ → Bool) (row column : ℕ) : Type 0 where
  pub is_cell : IsCell row column
  pub passes : test row column ≡ true
  pub above : (r c : ℕ) → IsCell r c → r < row → test r c ≡ false
  pub before : (c : ℕ) → c < column → test row c ≡ false

module _ (test : ℕ → ℕ → Bool) where
  abbrev row_has_passing_cell : ℕ → Bool
  row_has_passing_cell above = is_some (first_below 40 (test (above + 1)))

  abbrev in_row : ℕ → Option (ℕ × ℕ)
  in_row above = option_map (λ column. (above + 1, column)) (first_below 40 (test (above + 1)))

  failed_row_has_no_passing_cell : (above : ℕ) → row_has_passing_cell above ≡ false → (c : ℕ) → c <
      40
      → test (above + 1) c ≡ false
  failed_row_has_no_passing_cell above e = go (first_below 40 (test (above + 1))) refl e
    where
      go : (o : Option ℕ) → first_below 40 (test (above + 1)) ≡ o → is_some o ≡ false
          → (c : ℕ) → c < 40 → test (above + 1) c ≡ false
      go None is e = no_first_below_fails_each 40 (test (above + 1)) is
      go (Some k) is e = grind arith

  rows_count_from_one : (P : ℕ → Type 0) (r : ℕ) → 1 ≤ r → P (r - 1 + 1) → P r
  rows_count_from_one P r l p = let e : r - 1 + 1 ≡ r = omega arith in subst P e p

  at_row : (above : ℕ) → above < 24 → row_has_passing_cell above ≡ true
      → ((k : ℕ) → k < above → row_has_passing_cell k ≡ false)
      → (o : Option ℕ) → first_below 40 (test (above + 1)) ≡ o
      → (x : ℕ × ℕ) → option_map (λ column. (above + 1, column)) o ≡ Some x
      → IsFirstCell test x.0 x.1
  at_row above l found none None is x e = absurd (none-some x e)
  at_row above l found none (Some column) is x e =
      let same : (above + 1, column) ≡ x = same_Some _ _ e in
      let first = first_below_satisfies_test 40 (test (above + 1)) column is in
      subst (λ (y : ℕ × ℕ). IsFirstCell test y.0 y.1) same (record {
        is_cell = (omega arith, omega arith, first.0);
        passes = first.1;
        above = λ r c of m.
            rows_count_from_one (λ k. test k c ≡ false) r of.0
            (failed_row_has_no_passing_cell (r - 1) (none (r - 1) (omega (arith, of.0))) c of.2);
        before = first_below_is_least 40 (test (above + 1)) column is;
      })

  pub found_cell_is_the_first : (x : ℕ × ℕ) → first_cell test ≡ Some x → IsFirstCell test x.0 x.1
  unfolding first_cell
  found_cell_is_the_first x e = go (first_below 24 row_has_passing_cell) refl e
    where
      go : (o : Option ℕ) → first_below 24 row_has_passing_cell ≡ o
          → option_and_then in_row o
          ≡ Some x
          → IsFirstCell test x.0 x.1
      go None is e = absurd (none-some x e)
      go (Some above) is e =
          let first = first_below_satisfies_test 24 row_has_passing_cell above is in
          at_row above first.0 first.1 (first_below_is_least 24 row_has_passing_cell above is)
          (first_below 40 (test (above + 1))) refl x e

  pub no_first_cell_fails_all : first_cell test ≡ None → (r c : ℕ) → IsCell r c → test r c ≡ false
  unfolding first_cell
  no_first_cell_fails_all e r c is_cell =
      rows_count_from_one (λ k. test k c ≡ false) r is_cell.0
      (failed_row_has_no_passing_cell (r - 1) (go (first_below 24 row_has_passing_cell) refl e) c
      is_cell.2)
    where
      go : (o : Option ℕ) → first_below 24 row_has_passing_cell ≡ o
          → option_and_then in_row o
          ≡ None
          → row_has_passing_cell (r - 1) ≡ false
      go None is e = no_first_below_fails_each 24 row_has_passing_cell is (r - 1)
          (omega (arith, is_cell.0, is_cell.1))
      go (Some above) is e =
          let first = first_below_satisfies_test 24 row_has_passing_cell above is in
          absurd (some_in (first_below 40 (test (above + 1))) first.1 e)
        where
          some_in : (o : Option ℕ) → is_some o ≡ true
              → (let pairs : Option (ℕ × ℕ) = option_map (λ column. (above + 1, column)) o in
              pairs ≡ None) → ⊥
          some_in None t n = grind arith
          some_in (Some k) t n = grind arith

  pub failing_cells_leave_no_first_cell : ((r c : ℕ) → IsCell r c → test r c ≡ false) → first_cell
      test ≡ None
  failing_cells_leave_no_first_cell none = go (first_cell test) refl
    where
      go : (o : Option (ℕ × ℕ)) → first_cell test ≡ o → o ≡ None
      go None e = refl
      go (Some x) e =
          let found = found_cell_is_the_first x e in
          absurd (true≢false (sym found.passes ∙ none x.0 x.1 found.is_cell))

pub decided_frames_were_decided : (undecided : ℕ → Bool) → ((frame : ℕ) → undecided frame ≡ false)
    → (first f m : ℕ) → was_undecided undecided first f m ≡ false
unfolding was_undecided
decided_frames_were_decided undecided each first f zero = grind (arith, nat_tests)
decided_frames_were_decided undecided each first f (suc m) =
    grind (arith, nat_tests, (decided_frames_were_decided undecided each first f m))

pub no_refusals_leave_all_decided : (first f m : ℕ) → was_undecided (λ frame. false) first f m ≡
    false
no_refusals_leave_all_decided = decided_frames_were_decided (λ frame. false) (λ frame. refl)

right_cell_test_is_exact : (kept due blank : ℕ) (again : Bool)
    → Decides (not (not (kept == due && (due == blank || again))))
    ((kept ≡ due) × (due ≢ blank → again ≡ true))
right_cell_test_is_exact kept due blank again = grind (arith, nat_tests)

module _ (g : Criteria) (frames : Transmission) (n f : ℕ) where
  abbrev is_wrong : ℕ → ℕ → Bool
  is_wrong row column =
      not (is_right_cell g.watched.keeps g.watched.page (packets_before frames n) (g.due f) row
      column)

  -- The first cell that differs from the page `g.due f` at the end of frame f, even if the expected
  -- page of this frame is unknown; `None` if no cell differs.
  abbrev first_wrong_cell_of_page : Option (ℕ × ℕ)
  first_wrong_cell_of_page = first_wrong_cell_after g.watched.keeps g.watched.page
      (packets_before frames n) (g.due f)

  wrong_cell_test_is_exact : (row column : ℕ)
      → Decides (not (is_wrong row column)) (IsCorrectCell g frames n f row column)
  wrong_cell_test_is_exact row column = grind (arith, nat_tests, right_cell_test_is_exact)

  wrong_eq : g.undecided f ≡ false → wrong_cell g frames n f ≡ first_wrong_cell_of_page
  wrong_eq known = rw known refl

  wrong_cell_has_known_page : (x : ℕ × ℕ) → wrong_cell g frames n f ≡ Some x → g.undecided f ≡ false
  wrong_cell_has_known_page x e = grind (arith, nat_tests, none-some)

  pub no_wrong_cell_shows_due_page : wrong_cell g frames n f ≡ None → g.undecided f ≡ false
      → (row column : ℕ) → IsCell row column
      → IsCorrectCell g frames n f row column
  unfolding first_wrong_cell_after
  no_wrong_cell_shows_due_page e known row column is =
      (wrong_cell_test_is_exact row column).0
      (ap not (no_first_cell_fails_all is_wrong (sym (wrong_eq known) ∙ e) row column is))

  pub first_wrong : (x : ℕ × ℕ) → wrong_cell g frames n f ≡ Some x → IsFirstWrongCell g frames n f
      x.0 x.1
  unfolding first_wrong_cell_after
  first_wrong x e = grind (
    arith,
    nat_tests,
    found_cell_is_the_first,
    wrong_eq,
    wrong_cell_has_known_page,
    wrong_cell_test_is_exact,
  )

  pub due_page_has_no_wrong_cell : ((row column : ℕ) → IsCell row column
      → IsCorrectCell g frames n f row column)
      → wrong_cell g frames n f ≡ None
  due_page_has_no_wrong_cell shows = go (wrong_cell g frames n f) refl
    where
      go : (o : Option (ℕ × ℕ)) → wrong_cell g frames n f ≡ o → o ≡ None
      go None e = refl
      go (Some x) e =
          let w = first_wrong x e in absurd (w.broken (shows x.0 x.1 w.is_cell))

  abbrev HasRecentHeaderAmong : ℕ → Type 0
  HasRecentHeaderAmong m =
      (j : ℕ) × (j < m) × (f < frame_at frames j + g.every) × HasHeader g frames j

  recent_header_test_is_exact : (i : ℕ) (d : SentFrame) → i < length frames
      → Decides (has_recent_header g f (get_or frames i d))
      (HasHeader g frames i × (f < frame_at frames i + g.every))
  recent_header_test_is_exact i d l =
      grind (arith, nat_tests, get_or-map, Decides-like, Decides-and, holds, Decides-ltb)

  recent_headers_test_is_exact : (m : ℕ) → m ≤ length frames
      → Decides (list_any (has_recent_header g f) (take m frames)) (HasRecentHeaderAmong m)
  recent_headers_test_is_exact zero l = (
    λ e. absurd (true≢false (sym e)),
    λ h. absurd
        (omega (arith, h.1)),
  )
  recent_headers_test_is_exact (suc m) l =
      let d : SentFrame = record { frame = 0; packets = [] } in
      let next : suc m ≡ m + 1 = omega arith in
      let more : list_any (has_recent_header g f) (take (suc m) frames)
      ≡ (list_any (has_recent_header g f) (take m frames) || has_recent_header g f
      (get_or frames m d)) =
      grind (arith, nat_tests, list_any_more (has_recent_header g f) frames m d) in
      Decides-at _ _ more
      (Decides-like _
      (λ h. grind (arith, nat_tests))
      (λ h. grind (arith, nat_tests, cases_lt))
      (Decides-or _ _ (recent_headers_test_is_exact m (omega arith)) (recent_header_test_is_exact m
      d (omega arith))))

  pub gap_test_is_exact : n ≤ length frames → Decides (not (is_gap g frames n f))
      (HasRecentPageHeader g frames n f)
  unfolding is_gap
  gap_test_is_exact l = let near = recent_headers_test_is_exact n l in grind (arith, nat_tests)

  -- One of the first m frames of the transmission is less than `pace` frames before frame f, or is
  -- after it.
  abbrev HasRecentPacketAmong : ℕ → ℕ → Type 0
  HasRecentPacketAmong pace m = (j : ℕ) × (j < m) × (f < frame_at frames j + pace)

  latest_frame_has_recent_packet : (pace m : ℕ) → f < latest_frame frames (suc m) + pace →
      HasRecentPacketAmong pace (suc m)
  unfolding latest_frame
  latest_frame_has_recent_packet pace zero l = grind (arith, nat_tests)
  latest_frame_has_recent_packet pace (suc m) l = grind
      (arith, nat_tests, (latest_frame_has_recent_packet pace m))

  recent_packet_bounds_latest_frame : (pace m : ℕ) → HasRecentPacketAmong pace m → f < latest_frame
      frames m + pace
  unfolding latest_frame
  recent_packet_bounds_latest_frame pace zero (j, below, near) = absurd (omega arith)
  recent_packet_bounds_latest_frame pace (suc m) (j, below, near) = elim (cases_lt j m) [
    | inl earlier ↦
        let before = recent_packet_bounds_latest_frame pace m (j, earlier, near) in grind
        (arith, nat_tests)
    | inr late ↦
        let same : j ≡ m = omega arith in
        let here = ap (frame_at frames) same in grind (arith, nat_tests)
  ]

  pub silence_test_is_exact_for_pace : Decides (not (is_silent g frames n f))
      (HasRecentPesPacket g frames n f)
  unfolding is_silent
  silence_test_is_exact_for_pace = by n g.pace refl
    where
      by : (m : ℕ) (pace : Option ℕ) → g.pace ≡ pace
          → Decides (not (is_silent g frames m f)) (HasRecentPesPacket g frames m f)
      by zero None is =
          (λ e k asks. absurd (none-some k (sym is ∙ asks)), λ h. ap (λ o. not (is_some o)) is)
      by zero (Some pace) is = (
        λ e. grind (arith, nat_tests),
        λ h. absurd (let near = h pace is in omega (arith, near.1)),
      )
      by (suc m) None is = (
        λ e k asks. absurd (none-some k (sym is ∙ asks)),
        λ h. ap (λ o. not (is_silent_for o (latest_frame frames (suc m)) f)) is,
      )
      by (suc m) (Some pace) is =
          let test = ap (λ o. not (is_silent_for o (latest_frame frames (suc m)) f)) is in (
            λ e k asks.
                let same : pace ≡ k = same_Some _ _ (sym is ∙ asks) in
                subst (λ k. HasRecentPacketAmong k (suc m)) same
                (latest_frame_has_recent_packet pace m (grind (arith, nat_tests))),
            λ h. let near = recent_packet_bounds_latest_frame pace (suc m) (h pace is) in grind
                (arith, nat_tests),
          )

  -- If `was_undecided` is false, the expected page is known at frame f, and at each of the m frames
  -- before it that is not before frame `first`.
  pub decided_range_is_known : (first m : ℕ) → was_undecided g.undecided first f m ≡ false
      → (k : ℕ) → k ≤ f → f ≤ k + m → (first ≤ k) ⊎ (k ≡ f)
      → g.undecided k ≡ false
  unfolding was_undecided
  decided_range_is_known first zero e k high low from = grind (arith, nat_tests)
  decided_range_is_known first (suc m) e k high low from =
      grind (arith, nat_tests, or_parts, (decided_range_is_known first m))

  pub decided_range_includes_frame : is_undecided_within g frames f ≡ false → g.undecided f ≡ false
  decided_range_includes_frame e =
      decided_range_is_known (frame_at frames 0) g.within e f (le_refl f) (omega arith) (inr refl)

  pub unexpected_cell_of_decided_page : is_undecided_within g frames f ≡ false
      → unexpected_cell g frames n f
      ≡ first_unexpected_cell_after g.watched.keeps g.watched.page (packets_before frames n) g.due
      (frame_at frames 0) f g.within
  unexpected_cell_of_decided_page known = rw known refl

  pub incomplete_test_is_exact_for_page : Decides (not (is_incomplete g frames n))
      (IsCompleteIfRequired g frames n)
  unfolding is_incomplete
  incomplete_test_is_exact_for_page = grind (arith, nat_tests)

  pub fault_free_means_no_active_fault : IsFaultFree g frames n f
      ↔ ((broken_cell g frames n f ≡ None)
      × (is_gap g frames n f ≡ false)
      × ((is_late g frames n f && is_incomplete g frames n) ≡ false)
      × (is_silent g frames n f ≡ false)
      × (is_undecided_within g frames f ≡ false))
  unfolding active_faults_at
  fault_free_means_no_active_fault = grind (arith, nat_tests)

  module _ (at_once : g.within ≡ 0) where
    pub undelayed_fault_is_always_late : is_late g frames n f ≡ true
    unfolding is_late
    undelayed_fault_is_always_late = grind (arith, nat_tests)

    pub broken_is : broken_cell g frames n f ≡ wrong_cell g frames n f
    broken_is = rw undelayed_fault_is_always_late refl

    pub undelayed_incomplete_is_late : (is_late g frames n f && is_incomplete g frames n) ≡
        is_incomplete g frames n
    undelayed_incomplete_is_late = rw undelayed_fault_is_always_late refl

    undelayed_undecided_is_current : is_undecided_within g frames f ≡ g.undecided f
    unfolding was_undecided
    undelayed_undecided_is_current = rw at_once refl

    kept_content_has_no_wrong_cell : IsKept end.Content g frames n f → (b : Bool) → g.undecided f ≡
        b
        → wrong_cell g frames n f ≡ None
    kept_content_has_no_wrong_cell kept true is = rw is refl
    kept_content_has_no_wrong_cell kept false is = due_page_has_no_wrong_cell (kept is)

    kept_eq : n ≤ length frames → (rule : EndRule)
        → (place_of_broken_rule rule (active_faults_at g frames n f) ≡ None) ↔ IsKept rule g frames
        n f
    unfolding active_faults_at
    kept_eq l end.Content = (
      λ e. no_wrong_cell_shows_due_page (sym broken_is ∙ e),
      λ kept. broken_is ∙ kept_content_has_no_wrong_cell kept (g.undecided f) refl,
    )
    kept_eq l end.Gap = grind (arith, nat_tests, gap_test_is_exact l)
    kept_eq l end.Incomplete = let ended = undelayed_incomplete_is_late in grind
        (arith, nat_tests, incomplete_test_is_exact_for_page)
    kept_eq l end.Undecided = let is = undelayed_undecided_is_current in grind (arith, nat_tests)
    kept_eq l end.Silent = grind (arith, nat_tests, silence_test_is_exact_for_pace)

    pub all_arrive : n ≤ length frames → IsFaultFree g frames n f → (rule : EndRule)
        → IsKept rule g frames n f
    all_arrive l fault_free rule = (kept_eq l rule).0 (ap (place_of_broken_rule rule) fault_free ∙
        no_active_faults_break_no_rule
        rule)

    pub active_faults_are_exact : n ≤ length frames → AreActiveFaults g frames n f
    unfolding active_faults_at
    active_faults_are_exact l =
        record { rules = kept_eq l; cell = λ x e. first_wrong x (sym broken_is ∙ e) }
