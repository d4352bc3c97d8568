-- The expected page stays the same between two cues. So each code that was expected within the last
-- frames can be replaced by a space, and the first code left other than a space is the first
-- unexpected one.
use Rattle.std.proofs.lemmas.Bool.Decides.{nat_tests}
use Rattle.std.proofs.lemmas.List.{get_or-replicate}
use Rattle.std.proofs.Common.{◌≡◌, ℕ, zero, suc, ◌+◌, ◌-◌, ◌<◌, ◌≤◌}
use Rattle.std.proofs.Common.{Option, None, MatchOption}
use Rattle.std.proofs.Common.{sym, ◌∙◌, subst, arith}
use Rattle.stl_rows.specs.DuePage.{IsEdge}
use Rattle.stl_rows.specs.Programme.{ProgrammeValue}
use Rattle.stl_rows.proofs.DuePageLemmas.{due_page_stays_without_edges}
use Rattle.ttx_page.proofs.DifferingLemmas.{zero_difference_equal_cells}
use Rattle.ttx_page.proofs.DifferingLemmas.{zero_difference_equal_columns}
use Rattle.ttx_page.specs.Differing.{differing_cell_count, row_difference}
use Rattle.ttx_page.specs.Page.{DiffersFirst, IsCell, Rows, blank, blank_row, cell, row_at}
use Rattle.ttx_page.specs.Page.{space}
use Rattle.sub_plan.specs.Schedule.{due_page_in}
use Rattle.sub_packets.specs.StoredPage.{first_unexpected_kept_cell}
use Rattle.sub_packets.specs.UnexpectedCodes.{LacksDueCodes, space_if_due}
use Rattle.sub_packets.specs.declared.listener.Listener.{Listener}
use Rattle.sub_packets.proofs.WrongCellLemmas.{cell_equality_matches_page_equality, cell-blank}
use Rattle.sub_packets.proofs.WrongCellLemmas.{first_cell-none}
use Rattle.sub_packets.proofs.WrongCellLemmas.{first_difference}
use Rattle.sub_rules.specs.Events.{was_due}

pub due_page_is_constant_between_cues : (programme : ProgrammeValue) (f at : ℕ)
    → f ≤ at
    → ((e : ℕ) → IsEdge programme.records e → f < e → e ≤ at → ⊥)
    → due_page_in programme f ≡ due_page_in programme at
due_page_is_constant_between_cues programme f at until none =
    let back : at - (at - f) ≡ f = omega arith in
    subst (λ g. due_page_in programme g ≡ due_page_in programme at) back
    (due_page_stays_without_edges programme.drawing programme.records at (at - f) (omega arith)
    (λ e edge after low. none e edge (omega arith) low))

module _ (page : ℕ → Rows) (first f : ℕ) where
  was_due-one : (n row column code : ℕ)
      → (first + suc n ≤ f → page (f - suc n) ≡ page (f - n))
      → was_due page first f (suc n) row column code ≡ was_due page first f n row column code
  unfolding was_due
  was_due-one zero row column code same =
      let here : f - 0 ≡ f = omega arith in grind (arith, nat_tests)
  was_due-one (suc n) row column code same = grind (arith, nat_tests)

  was_due-same : (n m row column code : ℕ)
      → n ≤ m
      → ((j : ℕ) → n ≤ j → j < m → first + suc j ≤ f → page (f - suc j) ≡ page (f - j))
      → was_due page first f m row column code ≡ was_due page first f n row column code
  was_due-same n zero row column code low same = grind (arith, nat_tests)
  was_due-same n (suc m) row column code low same =
      grind (arith, nat_tests, was_due-one, (was_due-same n m row column code))

  -- If `left` is the page `shown` in which each code expected at frame f is replaced by a space,
  -- `left` lacks exactly the codes that were expected at frame f.
  pub removing_first_page_leaves_others : (shown left : Rows)
      → ((row column : ℕ) → IsCell row column
      → cell left row column ≡ space_if_due (cell (page f) row column) (cell shown row column))
      → LacksDueCodes page first f (f - f) shown left
  unfolding was_due
  removing_first_page_leaves_others shown left cells row column is =
      let none : f - f ≡ 0 = omega arith in rw none (cells row column is)

  -- Let `left` lack exactly the codes that were expected from frame `at` to frame f, and let the
  -- expected page be the same in all frames after `before` up to `at`. If the codes expected at
  -- frame `before` are replaced by spaces as well, the page lacks exactly the codes that were
  -- expected from frame `before` to frame f.
  pub removing_earlier_page_leaves_others : (at before : ℕ) (shown left new : Rows)
      → before < at
      → at ≤ f
      → first ≤ before
      → ((g : ℕ) → before < g → g ≤ at → page g ≡ page at)
      → LacksDueCodes page first f (f - at) shown left
      → ((row column : ℕ) → IsCell row column
      → cell new row column ≡ space_if_due (cell (page before) row column) (cell left row column))
      → LacksDueCodes page first f (f - before) shown new
  unfolding was_due
  removing_earlier_page_leaves_others at before shown left new less until low same old cells row
      column is =
      let m = f - suc before in
      let next : f - before ≡ suc m = omega arith in
      let there : f - suc m ≡ before = omega arith in
      let kept = old row column is in
      let now = cells row column is in
      let alike =
      was_due-same (f - at) m row column (cell shown row column) (omega arith)
      (λ j after earlier counts.
      same (f - suc j) (omega arith) (omega arith)
      ∙ sym (same (f - j) (omega arith) (omega arith))) in
      rw next (grind (arith, nat_tests))

  -- If `left` lacks exactly the codes that were expected from frame `at` to frame f, and the
  -- expected page did not change from frame f - n to frame `at`, `left` lacks exactly the codes
  -- that were expected from frame f - n to frame f.
  pub constant_page_leaves_same_codes : (at n : ℕ) (shown left : Rows)
      → at ≤ f
      → f ≤ at + n
      → ((g : ℕ) → first ≤ g → f ≤ g + n → g ≤ at → page g ≡ page at)
      → LacksDueCodes page first f (f - at) shown left
      → LacksDueCodes page first f n shown left
  constant_page_leaves_same_codes at n shown left h1 h2 h3 h4 = grind
      (arith, nat_tests, was_due-same)

pub unexpected_eq :
    (s : Listener) (page : ℕ → Rows) (first f n : ℕ) (left : Rows) (o : Option (ℕ × ℕ))
    → LacksDueCodes page first f n s.comparison.page left
    → MatchOption o (left ≡ blank) (λ place. DiffersFirst left blank place.0 place.1)
    → o ≡ first_unexpected_kept_cell s page first f n
unfolding first_unexpected_kept_cell
unexpected_eq s page first f n left o is_left found =
    first_difference _ left blank o
    (λ row column is.
    let rest = is_left row column is in
    let space_eq = cell-blank row column is in
    grind (arith, nat_tests))
    (cell_equality_matches_page_equality left blank o (λ place. DiffersFirst left blank place.0
    place.1) found)

pub blank_page_has_no_unexpected_cell :
    (s : Listener) (page : ℕ → Rows) (first f n : ℕ)
    → differing_cell_count blank s.comparison.page ≡ 0
    → first_unexpected_kept_cell s page first f n ≡ None
unfolding first_unexpected_kept_cell
blank_page_has_no_unexpected_cell s page first f n same =
    first_cell-none _
    (λ row column is.
    let space_eq = cell-blank row column is in
    let equal = zero_difference_equal_cells blank s.comparison.page same row column is in
    grind (arith, nat_tests))

pub blank_row_is_left_unchanged : (left : Rows) (row column due : ℕ)
    → row_difference (row_at left row) blank_row ≡ 0
    → column < 40
    → cell left row column ≡ space_if_due due (cell left row column)
unfolding blank_row
blank_row_is_left_unchanged left row column due same l =
    let is = zero_difference_equal_columns 40 (row_at left row) blank_row same column l in
    let space_eq = get_or-replicate 40 column space 0 l in
    grind (arith, nat_tests)
