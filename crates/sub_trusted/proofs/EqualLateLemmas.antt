-- Suppose that two sets of criteria differ only in their subtitles, and that at each frame whose
-- expected page the first set knows, both expect the same page and the same subtitle to end. If
-- frame numbers increase, a frame that has no active fault at its end for the first set has none
-- for the second.
use Rattle.std.proofs.lemmas.Bool.Decides.{nat_tests}
use Rattle.std.proofs.Common.{◌≡◌, ℕ, ◌+◌, ◌-◌, ◌≤◌, inl, inr, Bool, true, false}
use Rattle.std.proofs.Common.{◌&&◌, ◌||◌, ◌==◌, nat_le, Option, Some, None, length, refl, sym, ap}
use Rattle.std.proofs.Common.{◌∙◌, arith, le_refl}
use Rattle.std.proofs.lemmas.Bool.{cases_eq, cases_lt, true≢false}
use Rattle.std.proofs.lemmas.Option.{none-some}
use Rattle.ttx_page.specs.Page.{Rows, cell}
use Rattle.sub_rules.specs.Events.{broken_cell, is_gap, is_incomplete, is_late}
use Rattle.sub_rules.specs.Events.{is_overdue, is_silent}
use Rattle.sub_rules.specs.Events.{is_unfinished, is_undecided_within, unexpected_cell}
use Rattle.sub_rules.specs.Events.{first_wrong_cell_after, wrong_cell}
use Rattle.sub_rules.specs.FrameRules.{Criteria, frame_at, packets_before}
use Rattle.sub_rules.specs.Transmission.{Transmission}
use Rattle.sub_laws.specs.CleanStretch.{IsEnd}
use Rattle.sub_laws.proofs.DueCodeLemmas.{MayShow, expected_codes_are_not_unexpected}
use Rattle.sub_laws.proofs.DueCodeLemmas.{no_unexpected_cell_shows_expected_codes}
use Rattle.sub_laws.proofs.FrameByFrame.{IsFaultFree}
use Rattle.sub_laws.proofs.PrefixLemmas.{RiseTo, end_is_at_least_first}
use Rattle.sub_laws.proofs.ActiveFaultsLemmas.{no_refusals_leave_all_decided}
use Rattle.sub_laws.proofs.ActiveFaultsLemmas.{decided_range_includes_frame}
use Rattle.sub_laws.proofs.ActiveFaultsLemmas.{decided_range_is_known}
use Rattle.sub_laws.proofs.ActiveFaultsLemmas.{fault_free_means_no_active_fault}
use Rattle.sub_laws.proofs.ActiveFaultsLemmas.{unexpected_cell_of_decided_page}
use Rattle.sub_laws.proofs.UnfinishedLemmas.{finished_frame_starts_no_run, first_unfinished_at}
use Rattle.sub_laws.proofs.UnfinishedLemmas.{run_start_at_end_is_exact}
use Rattle.sub_laws.proofs.UnfinishedLemmas.{absent_run_means_finished_frame}
use Rattle.sub_laws.proofs.UnfinishedLemmas.{run_start_is_first_unfinished}
use Rattle.sub_laws.proofs.UnfinishedLemmas.{unfinished_at}

-- The criteria `g` with other subtitles, which give a known expected page `due` for each frame.
abbrev pub criteria_with_known_pages : Criteria → (ℕ → Rows) → (ℕ → Option ℕ) → Option ℕ → Option ℕ
    → Criteria
criteria_with_known_pages g due ending first_tci last_tco =
    record g {
      due = due;
      ending = ending;
      first_tci = first_tci;
      last_tco = last_tco;
      any_unreliable = false;
      undecided = λ frame. false;
    }

-- At each frame whose expected page is known, `due` gives the expected page of the criteria `g`,
-- and `ending` gives, as `g` does, the TCI of the subtitle whose TCO is the next frame.
pub record HasSameCriteria (g : Criteria) (due : ℕ → Rows) (ending : ℕ → Option ℕ) : Type 0 where
  pub due_eq : (f : ℕ) → g.undecided f ≡ false → due f ≡ g.due f
  pub ending_eq : (f : ℕ) → g.undecided f ≡ false → ending (f + 1) ≡ g.ending (f + 1)

or_true : (b : Bool) → (b || true) ≡ true
or_true b = grind (arith, nat_tests)

overdue_run_is_late : (first_unfinished within f : ℕ) → first_unfinished + within ≤ f → nat_le
    (first_unfinished + within) f ≡ true
overdue_run_is_late first_unfinished within f l = grind (arith, nat_tests)

module _ (g : Criteria) (due : ℕ → Rows) (ending : ℕ → Option ℕ) (first_tci last_tco : Option ℕ)
    (same_criteria : HasSameCriteria g due ending) where
  abbrev h : Criteria
  h = criteria_with_known_pages g due ending first_tci last_tco

  pub known_page_is_unfinished_in_both : (t : Transmission) (n f : ℕ) → g.undecided f ≡ false
      → is_unfinished h t n f ≡ is_unfinished g t n f
  unfolding is_incomplete
  known_page_is_unfinished_in_both t n f known = rw (known, same_criteria.due_eq f known) refl

  module _ (t : Transmission) (up : RiseTo t (length t)) where
    abbrev first : ℕ
    first = frame_at t 0

    abbrev un : ℕ → Bool
    un = unfinished_at g t up

    abbrev is_known_page_unfinished : ℕ → Bool
    is_known_page_unfinished = unfinished_at h t up

    known_end_is_unfinished_in_both : (f : ℕ) → g.undecided f ≡ false → is_known_page_unfinished f ≡
        un f
    known_end_is_unfinished_in_both f known = rw (known, same_criteria.due_eq f known) refl

    unfinished_end_with_more_known : (f : ℕ) → un f ≡ true → is_known_page_unfinished f ≡ true
    unfinished_end_with_more_known f e = grind (
      arith,
      nat_tests,
      known_end_is_unfinished_in_both,
      or_true,
    )

    -- The expected page is known at frame f and at each of the `within` frames before it, from
    -- frame `first` on.
    abbrev pub IsDueKnownUpTo : ℕ → Type 0
    IsDueKnownUpTo f = (e : ℕ) → first ≤ e → e ≤ f → f ≤ e + g.within → g.undecided e ≡ false

    overdue_tests_agree_if_known : (k f : ℕ) → f ≡ first + k → IsDueKnownUpTo f
        → (o p : Option ℕ) → first_unfinished_at un first k ≡ o → first_unfinished_at
        is_known_page_unfinished first
        k ≡ p
        → is_overdue h first p f ≡ is_overdue g first o f
    overdue_tests_agree_if_known k f at known None None is so = refl
    overdue_tests_agree_if_known k f at known None (Some r) is so =
        let own : g.undecided f ≡ false = known f (omega arith) (le_refl f) (omega arith) in
        let whole : un f ≡ false = ap un at ∙ absent_run_means_finished_frame un first k is in
        let none : is_known_page_unfinished (first + k) ≡ false =
        ap is_known_page_unfinished (sym at) ∙ known_end_is_unfinished_in_both f own ∙ whole in
        absurd (none-some r (sym (finished_frame_starts_no_run is_known_page_unfinished first k
        none) ∙ so))
    overdue_tests_agree_if_known k f at known (Some r) None is so =
        let top = (run_start_is_first_unfinished un first k r is).high in
        let open_here = (run_start_is_first_unfinished un first k r is).all f (omega arith)
        (omega arith) in
        let none : is_known_page_unfinished f ≡ false = ap is_known_page_unfinished at ∙
        absent_run_means_finished_frame is_known_page_unfinished first k so
        in
        absurd (true≢false (sym (unfinished_end_with_more_known f open_here) ∙ none))
    overdue_tests_agree_if_known k f at known (Some s) (Some r) is so =
        let own : g.undecided f ≡ false = known f (omega arith) (le_refl f) (omega arith) in
        let one = run_start_is_first_unfinished un first k s is in
        let other = run_start_is_first_unfinished is_known_page_unfinished first k r so in
        let low = one.low in
        let high = one.high in
        let bottom = other.low in
        let top = other.high in
        elim (cases_eq r s) [
          | inl same ↦
              rw (same, same_criteria.ending_eq f own) refl
          | inr differ ↦ elim (cases_lt s r) [
            | inl later ↦ elim other.begins [
              | inl start ↦ absurd (omega arith)
              | inr (after, whole) ↦
                  absurd
                  (true≢false
                  (sym (unfinished_end_with_more_known (r - 1) (one.all (r - 1) (omega arith)
                  (omega arith))) ∙ whole))
            ]
            | inr not_later ↦
                let long : s + g.within ≤ f =
                elim one.begins [
                  | inl start ↦ absurd (omega arith)
                  | inr (after, whole) ↦ elim (cases_lt (s - 1 + g.within) f) [
                    | inl before ↦ omega arith
                    | inr near ↦
                        let sure : g.undecided (s - 1) ≡ false =
                        known (s - 1) (omega arith) (omega arith) near in
                        absurd
                        (true≢false
                        (sym (other.all (s - 1) (omega arith) (omega arith))
                        ∙ known_end_is_unfinished_in_both (s - 1) sure
                        ∙ whole))
                  ]
                ] in
                rw (
                  overdue_run_is_late s g.within f long,
                  overdue_run_is_late r g.within f
                      (omega arith),
                ) refl
          ]
        ]

    late_same : (n f : ℕ) → IsEnd t n f → IsDueKnownUpTo f → is_late h t n f ≡ is_late g t n f
    unfolding is_late
    late_same n f end known =
        let low = end_is_at_least_first t up n f end in
        let k : ℕ = f - first in
        let at : f ≡ first + k = omega arith in
        ap (λ (b : Bool). (g.within == 0) || b)
        (ap (λ (o : Option ℕ). is_overdue h first o f) (run_start_at_end_is_exact h t up k n f end
        at)
        ∙ overdue_tests_agree_if_known k f at known (first_unfinished_at un first k)
        (first_unfinished_at is_known_page_unfinished
        first k) refl refl
        ∙ sym (ap (λ (o : Option ℕ). is_overdue g first o f) (run_start_at_end_is_exact g t up k n f
        end
        at)))

    module _ (n f : ℕ) (sure : is_undecided_within g t f ≡ false) where
      page_is_known_up_to_frame : IsDueKnownUpTo f
      page_is_known_up_to_frame e low high near = decided_range_is_known g t n f first g.within sure
          e high near
          (inl low)

      here : g.undecided f ≡ false
      here = decided_range_includes_frame g t n f sure

      no_wrong_cell_in_other_programme : wrong_cell g t n f ≡ None → wrong_cell h t n f ≡ None
      no_wrong_cell_in_other_programme e =
          let none :
          first_wrong_cell_after g.watched.keeps g.watched.page (packets_before t n) (g.due f) ≡
          None =
          rw here at e in
          rw (same_criteria.due_eq f here) none

      code_may_show_in_other_programme : (row column : ℕ)
          → MayShow g.watched.keeps g.watched.page (packets_before t n) g.due first f g.within row
          column
          → MayShow g.watched.keeps g.watched.page (packets_before t n) due first f g.within row
          column
      code_may_show_in_other_programme row column (inl blank) = inl blank
      code_may_show_in_other_programme row column (inr (e, from, high, low, same)) =
          let known = decided_range_is_known g t n f first g.within sure e high low from in
          inr (
            e,
            from,
            high,
            low,
            same ∙ sym (ap (λ (rows : Rows). cell rows row column) (same_criteria.due_eq e known)),
          )

      no_unexpected_cell_in_other_programme : unexpected_cell g t n f ≡ None → unexpected_cell h t n
          f ≡ None
      no_unexpected_cell_in_other_programme e =
          unexpected_cell_of_decided_page h t n f (no_refusals_leave_all_decided first f g.within)
          ∙ expected_codes_are_not_unexpected g.watched.keeps g.watched.page (packets_before t n)
          due first f g.within
          (λ row column named.
          code_may_show_in_other_programme row column
          (no_unexpected_cell_shows_expected_codes g.watched.keeps g.watched.page
          (packets_before t n) g.due first f
          g.within
          (sym (unexpected_cell_of_decided_page g t n f sure) ∙ e) row column named))

      no_broken_cell_in_other_programme : (b : Bool) → is_late h t n f ≡ b → is_late g t n f ≡ b
          → broken_cell g t n f ≡ None
          → broken_cell h t n f ≡ None
      no_broken_cell_in_other_programme true so is e = rw so (no_wrong_cell_in_other_programme
          (rw is at e))
      no_broken_cell_in_other_programme false so is e = rw so (no_unexpected_cell_in_other_programme
          (rw is at e))

      pub end_is_fault_free_in_both : IsEnd t n f → IsFaultFree g t n f → IsFaultFree h t n f
      unfolding is_gap is_incomplete is_silent
      end_is_fault_free_in_both end fault_free =
          let parts = (fault_free_means_no_active_fault g t n f).0 fault_free in
          let late = late_same n f end page_is_known_up_to_frame in
          (fault_free_means_no_active_fault h t n f).1 (
            no_broken_cell_in_other_programme (is_late g t n f) late refl parts.0,
            parts.1,
            ap (λ (b : Bool). b && is_incomplete g t n) late ∙ parts.2,
            parts.3,
            no_refusals_leave_all_decided first f g.within,
          )
