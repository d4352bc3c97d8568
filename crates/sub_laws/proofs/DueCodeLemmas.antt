-- The checker's test is true exactly if a code was expected in a cell at a frame or in the n frames
-- before it.
use Rattle.std.proofs.lemmas.Bool.Decides.{nat_tests}
use Rattle.std.proofs.Common.{◌≡◌, ◌≢◌, ℕ, zero, suc, ◌+◌, ◌-◌, ◌<◌, ◌≤◌, ◌⊎◌, inl, inr, Bool, true}
use Rattle.std.proofs.Common.{false, not, ◌&&◌, ◌==◌, nat_le, List, Contains, get_or}
use Rattle.std.proofs.Common.{Some, None, option_map, refl, ap, ◌∙◌, arith, find}
use Rattle.std.proofs.lemmas.Bool.{cases_lt}
use Rattle.std.proofs.lemmas.List.Elements.{All-contains}
use Rattle.std.proofs.lemmas.List.Recursion.{found_at}
use Rattle.std.proofs.lemmas.Option.{none-some, same_Some}
use Rattle.ttx_packet.specs.PageId.{PageIdValue}
use Rattle.ttx_page.specs.Page.{IsCell, Rows, cell, space}
use Rattle.ttx_page.specs.Shown.{kept}
use Rattle.ttx_page.proofs.SpanListLemmas.{found_item_passes_test}
use Rattle.stl_file.specs.Subtitle.{IsSubtitle, SubtitleValue}
use Rattle.stl_rows.specs.DuePage.{ends_at, tci_of_subtitle_ending_at}
use Rattle.stl_rows.specs.Programme.{IsProgramme}
use Rattle.stl_rows.specs.declared.layout.Drawing.{Drawing}
use Rattle.sub_rules.specs.Events.{first_unexpected_cell_after, was_due}
use Rattle.sub_laws.proofs.ActiveFaultsLemmas.{found_cell_is_the_first, no_first_cell_fails_all}
use Rattle.sub_laws.proofs.ActiveFaultsLemmas.{failing_cells_leave_no_first_cell}

module _ (due : ℕ → Rows) (first f row column code : ℕ) where
  -- The code was expected in the cell at frame f or at one of the n frames before f. Of the frames
  -- before f, those before `first` do not count.
  abbrev pub WasDue : ℕ → Type 0
  WasDue n =
      (e : ℕ)
      × ((first ≤ e) ⊎ (e ≡ f))
      × (e ≤ f)
      × (f ≤ e + n)
      × (code ≡ cell (due e) row column)

  code_was_due_in_oldest_frame : (n : ℕ)
      → (nat_le (first + n) f && (cell (due (f - n)) row column == code)) ≡ true
      → (first + n ≤ f) × (code ≡ cell (due (f - n)) row column)
  code_was_due_in_oldest_frame n e = grind (arith, nat_tests)

  pub was_due_names_a_frame : (n : ℕ) → was_due due first f n row column code ≡ true → WasDue n
  unfolding was_due
  was_due_names_a_frame zero e = grind (arith, nat_tests)
  was_due_names_a_frame (suc n) e = grind (
    arith,
    nat_tests,
    code_was_due_in_oldest_frame,
    (was_due_names_a_frame n),
  )

  pub due_code_passes_was_due : (n : ℕ) → WasDue n → was_due due first f n row column code ≡ true
  unfolding was_due
  due_code_passes_was_due zero (e, from, high, low, same) =
      let at : e ≡ f = omega arith in
      let here : code ≡ cell (due f) row column = same ∙ ap (λ x. cell (due x) row column) at in
      grind (arith, nat_tests)
  due_code_passes_was_due (suc n) (e, from, high, low, same) = elim (cases_lt (e + n) f) [
    | inr near ↦
        let so_far = due_code_passes_was_due n (e, from, high, near, same) in grind
        (arith, nat_tests)
    | inl far ↦
        let at : e ≡ f - suc n = omega arith in
        let here : code ≡ cell (due (f - suc n)) row column =
        same ∙ ap (λ x. cell (due x) row column) at in
        let some : first + suc n ≤ f = old from far in
        grind (arith, nat_tests)
  ]
    where
      old : (first ≤ e) ⊎ (e ≡ f) → e + n < f → first + suc n ≤ f
      old (inl after) far = omega arith
      old (inr own) far = absurd (omega arith)

module _ (keeps : Bool) (page : PageIdValue) (packets : List (List ℕ)) (due : ℕ → Rows)
    (first f n : ℕ) where
  abbrev code_at : ℕ → ℕ → ℕ
  code_at row column = kept keeps page packets row column

  -- The cell has a space, or a code that was expected in it at frame f or at one of the n frames
  -- before f. Of the frames before f, those before `first` do not count.
  abbrev pub MayShow : ℕ → ℕ → Type 0
  MayShow row column =
      (code_at row column ≡ space) ⊎ WasDue due first f row column (code_at row column) n

  -- The cell has a code other than a space that was expected in it neither at frame f nor at any of
  -- the n frames before f. Of the frames before f, those before `first` do not count.
  abbrev is_unexpected : ℕ → ℕ → Bool
  is_unexpected row column =
      not (code_at row column == space)
      && not (was_due due first f n row column (code_at row column))

  expected_code_may_show : (row column : ℕ) → is_unexpected row column ≡ false → MayShow row column
  expected_code_may_show row column e = grind (arith, nat_tests, was_due_names_a_frame)

  code_that_may_show_is_expected : (row column : ℕ) → MayShow row column → is_unexpected row column
      ≡ false
  code_that_may_show_is_expected row column h1 = grind (arith, nat_tests, due_code_passes_was_due)

  pub no_unexpected_cell_shows_expected_codes : first_unexpected_cell_after keeps page packets due
      first f n ≡ None
      → (row column : ℕ) → IsCell row column → MayShow row column
  unfolding first_unexpected_cell_after
  no_unexpected_cell_shows_expected_codes e row column named = expected_code_may_show row column
      (no_first_cell_fails_all is_unexpected e row column
      named)

  pub expected_codes_are_not_unexpected : ((row column : ℕ) → IsCell row column → MayShow row
      column)
      → first_unexpected_cell_after keeps page packets due first f n ≡ None
  unfolding first_unexpected_cell_after
  expected_codes_are_not_unexpected may =
      failing_cells_leave_no_first_cell is_unexpected
      (λ row column named. code_that_may_show_is_expected row column (may row column named))

  pub unexpected_cell_shows_no_expected_code : (x : ℕ × ℕ) → first_unexpected_cell_after keeps page
      packets due first f n ≡ Some x
      → IsCell x.0 x.1 × (MayShow x.0 x.1 → ⊥)
  unfolding first_unexpected_cell_after
  unexpected_cell_shows_no_expected_code x e = grind (
    arith,
    nat_tests,
    found_cell_is_the_first,
    code_that_may_show_is_expected,
  )

module _ (drawing : Drawing) (records : List SubtitleValue) (is : IsProgramme drawing records)
  where
    other_tco_does_not_end : (f : ℕ) (t : SubtitleValue) → t.tco ≢ f → ends_at f t ≡ false
    other_tco_does_not_end f t h = grind (arith, nat_tests)

    pub ending_eq : (t : SubtitleValue) → Contains records t
        → tci_of_subtitle_ending_at records t.tco ≡ Some t.tci
    unfolding tci_of_subtitle_ending_at
    ending_eq t member =
        let times : t.tci < t.tco = (All-contains IsSubtitle records t is.each member).times in
        let own : ends_at t.tco t ≡ true = grind (arith, nat_tests) in
        ap (option_map (λ (s : SubtitleValue). s.tci))
        (found_at (find (ends_at t.tco)) (ends_at t.tco) Some None refl (λ x xs. refl) records
        member.0 t member.1
        (λ k below. other_tco_does_not_end t.tco (get_or records k t)
        (let order : (get_or records k t).tco ≤ t.tci =
        rw member.2 at (is.in_order k member.0 t below member.1) in
        λ same. absurd (omega arith)))
        (rw member.2 own)
        ∙ ap Some member.2)

    pub tci_of_ending_has_subtitle : (f tci : ℕ) → tci_of_subtitle_ending_at records f ≡ Some tci
        → (t : SubtitleValue) × Contains records t × (t.tco ≡ f) × (t.tci ≡ tci)
    unfolding tci_of_subtitle_ending_at
    tci_of_ending_has_subtitle f tci e = grind (
      arith,
      nat_tests,
      none-some,
      found_item_passes_test,
      same_Some,
    )
