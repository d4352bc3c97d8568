-- The stored page agrees with the packets received, so its first wrong cell is the first wrong cell
-- by the rules.
use Rattle.std.proofs.lemmas.Bool.Decides.{nat_tests}
use Rattle.std.proofs.Common.{◌≡◌, ℕ, ◌+◌, ◌-◌, ◌<◌, ◌≤◌, ◌⊎◌, ◌||◌, ◌==◌, Bool, true, false, not}
use Rattle.std.proofs.Common.{List, [], Option, None, Some, MatchOption, option_map, unwrap_or}
use Rattle.std.proofs.Common.{is_some, get_or, cond, replicate, refl, sym, ap, ◌∙◌}
use Rattle.std.proofs.Common.{arith, zero, suc}
use Rattle.std.specs.Prelude.{option_and_then}
use Rattle.std.proofs.lemmas.List.{get_or-drop, get_or-replicate}
use Rattle.ttx_packet.specs.OneBit.{first_below}
use Rattle.ttx_packet.proofs.OneBitLemmas.{first_below-at, first_below-none}
use Rattle.ttx_packet.proofs.OneBitLemmas.{first_below_satisfies_test}
use Rattle.ttx_packet.specs.Parity.{character_code}
use Rattle.ttx_packet.specs.RowPacket.{text_byte}
use Rattle.ttx_page.specs.Page.{DiffersFirst, IsCell, Rows, blank, blank_row, cell, space}
use Rattle.ttx_page.specs.Shown.{kept}
use Rattle.sub_rules.proofs.CodesLemmas.{code_of_commutes_with_get}
use Rattle.sub_rules.specs.Events.{first_cell}
use Rattle.sub_packets.specs.StoredPage.{is_kept_cell_right, first_wrong_kept_cell}
use Rattle.sub_packets.specs.Listener.{Knows, row_or_blank}
use Rattle.sub_packets.specs.CellOrder.{earlier}
use Rattle.sub_packets.specs.declared.listener.Listener.{Listener}

code_held :
    (o : Option (List ℕ)) (column : ℕ)
    → column < 40
    → get_or (row_or_blank o) column 0
    ≡ unwrap_or (option_map (λ p. character_code (text_byte p column)) o) space
unfolding blank_row
code_held None column l = get_or-replicate 40 column space 0 l
code_held (Some p) column l = grind (arith, nat_tests, code_of_commutes_with_get, get_or-drop)

pub shown_is :
    (heard : List (List ℕ)) (s : Listener)
    → Knows heard s
    → (row column : ℕ)
    → IsCell row column
    → cell s.comparison.page row column ≡ kept s.watched.keeps s.watched.page heard row column
shown_is heard s known row column is = grind (arith, nat_tests, code_held)

pub cell-blank : (row column : ℕ) → IsCell row column → cell blank row column ≡ space
unfolding blank blank_row
cell-blank row column is =
    rw (get_or-replicate 24 (row - 1) (replicate 40 space) [] (omega (arith, is.0, is.1)))
    (get_or-replicate 40 column space 0 is.2)

pub cell_equality_matches_page_equality : (a b : Rows) (o : Option (ℕ × ℕ)) (P : ℕ × ℕ → Type 0)
    → MatchOption o (a ≡ b) P
    → MatchOption o
    ((row column : ℕ) → IsCell row column → cell a row column ≡ cell b row column) P
cell_equality_matches_page_equality a b None P same = λ row column is. ap
    (λ page. cell page row column) same
cell_equality_matches_page_equality a b (Some place) P differ = differ

module _ (test : ℕ → ℕ → Bool) where
  pub first_cell-none : ((row column : ℕ) → IsCell row column → test row column ≡ false)
      → first_cell test ≡ None
  unfolding first_cell
  first_cell-none none =
      rw (first_below-none 24 (λ above. is_some (first_below 40 (test (above + 1))))
      (λ k l. ap is_some
      (first_below-none 40 (test (k + 1))
      (λ c m. none (k + 1) c (omega arith, omega arith, m))))) refl

  first_cell-below : (above column : ℕ) → above < 24 → column < 40
      → test (above + 1) column ≡ true
      → ((r c : ℕ) → IsCell r c → r < above + 1 → test r c ≡ false)
      → ((c : ℕ) → c < column → test (above + 1) c ≡ false)
      → first_cell test ≡ Some (above + 1, column)
  unfolding first_cell
  first_cell-below above column l m passes rows cells =
      let row = first_below-at 40 (test (above + 1)) column m passes cells in
      let first = first_below-at 24 (λ k. is_some (first_below 40 (test (k + 1)))) above l
      (ap is_some row)
      (λ k b. ap is_some
      (first_below-none 40 (test (k + 1))
      (λ c d. rows (k + 1) c (omega arith, omega arith, d) (omega arith)))) in
      rw (first, row) refl

  pub first_cell-at : (row column : ℕ) → IsCell row column → test row column ≡ true
      → ((r c : ℕ) → IsCell r c → r < row → test r c ≡ false)
      → ((c : ℕ) → c < column → test row c ≡ false)
      → first_cell test ≡ Some (row, column)
  first_cell-at row column is passes rows cells = grind (arith, nat_tests, first_cell-below)

-- (row, column) is the first cell that passes a test, by row and then by column.
pub record IsFirstPassingCell (test : ℕ → ℕ → Bool) (row column : ℕ) : Type 0 where
  pub is_cell : IsCell row column
  pub passes : test row column ≡ true
  pub rows_above : (r c : ℕ) → IsCell r c → r < row → test r c ≡ false
  pub cells_before : (c : ℕ) → c < column → test row c ≡ false

equal_tests_have_equal_first_below : (n : ℕ) (p q : ℕ → Bool) → ((k : ℕ) → k < n → p k ≡ q k)
    → first_below n p ≡ first_below n q
equal_tests_have_equal_first_below zero p q same = refl
equal_tests_have_equal_first_below (suc n) p q same =
    rw (
      equal_tests_have_equal_first_below n p q (λ k l. same k (omega arith)),
      same n
          (omega arith),
    ) refl

abbrev first_cell_in_row_above : (ℕ → ℕ → Bool) → ℕ → Option (ℕ × ℕ)
first_cell_in_row_above test above = option_map (λ column. (above + 1, column))
    (first_below 40 (test (above + 1)))

pub first_cell-same : (p q : ℕ → ℕ → Bool)
    → ((row column : ℕ) → IsCell row column → p row column ≡ q row column)
    → first_cell p ≡ first_cell q
unfolding first_cell
first_cell-same p q same =
    rw (equal_tests_have_equal_first_below 24 (λ above. is_some (first_below 40 (p (above + 1))))
    (λ above. is_some (first_below 40 (q (above + 1)))) (λ k l. ap is_some (in_row k l)))
    (go (first_below 24 (λ above. is_some (first_below 40 (q (above + 1))))) refl)
  where
    in_row : (above : ℕ) → above < 24
        → first_below 40 (p (above + 1)) ≡ first_below 40 (q (above + 1))
    in_row above l =
        equal_tests_have_equal_first_below 40 (p (above + 1)) (q (above + 1))
        (λ c m. same (above + 1) c (omega arith, omega arith, m))

    go : (o : Option ℕ) → first_below 24 (λ above. is_some (first_below 40 (q (above + 1)))) ≡ o
        → option_and_then (first_cell_in_row_above p) o ≡ option_and_then (first_cell_in_row_above
        q) o
    go None is = refl
    go (Some above) is =
        let first : ℕ → Bool = λ k. is_some (first_below 40 (q (k + 1))) in
        let place : Option ℕ → Option (ℕ × ℕ) = option_map (λ column. (above + 1, column)) in
        ap place (in_row above (first_below_satisfies_test 24 first above is).0)

no_first_below_fails_each_number : (n : ℕ) (test : ℕ → Bool) → first_below n test ≡ None
    → (k : ℕ) → k < n → test k ≡ false
no_first_below_fails_each_number zero test none k l = absurd (omega arith)
no_first_below_fails_each_number (suc n) test none k l = let rest = no_first_below_fails_each_number
    n test in grind
    (arith, nat_tests)

passing_row_has_a_cell : (test : ℕ → ℕ → Bool) (above : ℕ) → is_some
    (first_below 40 (test (above + 1))) ≡ true
    → first_cell_in_row_above test above ≡ None → ⊥
passing_row_has_a_cell test above some none = go (first_below 40 (test (above + 1))) some none
  where
    go : (o : Option ℕ) → is_some o ≡ true
        → (let place : Option (ℕ × ℕ) = option_map (λ column. (above + 1, column)) o in
        place ≡ None) → ⊥
    go None some none = grind arith
    go (Some column) some none = grind arith

pub no_first_cell_fails_each_cell : (test : ℕ → ℕ → Bool) → first_cell test ≡ None
    → (row column : ℕ) → IsCell row column → test row column ≡ false
unfolding first_cell
no_first_cell_fails_each_cell test none row column is = go (first_below 24 in_row) refl none
  where
    in_row : ℕ → Bool
    in_row above = is_some (first_below 40 (test (above + 1)))

    absent_option_is_none : (o : Option ℕ) → is_some o ≡ false → o ≡ None
    absent_option_is_none None e = refl
    absent_option_is_none (Some k) e = grind arith

    go : (o : Option ℕ) → first_below 24 in_row ≡ o → option_and_then (first_cell_in_row_above test)
        o ≡ None
        → test row column ≡ false
    go (Some above) first e = absurd
        (passing_row_has_a_cell test above (first_below_satisfies_test 24 in_row above first).1 e)
    go None first e =
        let at : row - 1 + 1 ≡ row = omega (arith, is.0) in
        let none_there : first_below 40 (test row) ≡ None =
        absent_option_is_none (first_below 40 (test row))
        (ap (λ (k : ℕ). is_some (first_below 40 (test k))) (sym at)
        ∙ no_first_below_fails_each_number 24 in_row first (row - 1) (omega (arith, is.0, is.1))) in
        no_first_below_fails_each_number 40 (test row) none_there column is.2

abbrev pub IsFirstFoundCell : (ℕ → ℕ → Bool) → Option (ℕ × ℕ) → Type 0
IsFirstFoundCell test o =
    MatchOption o ((row column : ℕ) → IsCell row column → test row column ≡ false)
    (λ place. IsFirstPassingCell test place.0 place.1)

found_cell_is_first_cell : (test : ℕ → ℕ → Bool) (o : Option (ℕ × ℕ)) → IsFirstFoundCell test o → o
    ≡ first_cell test
found_cell_is_first_cell test None none = sym (first_cell-none test none)
found_cell_is_first_cell test (Some place) first =
    sym
    (first_cell-at test place.0 place.1 first.is_cell first.passes first.rows_above
    first.cells_before)

differing_found :
    (test : ℕ → ℕ → Bool) (a b : Rows) (o : Option (ℕ × ℕ))
    → ((row column : ℕ)
    → IsCell row column
    → test row column ≡ not (cell a row column == cell b row column))
    → MatchOption o
    ((row column : ℕ) → IsCell row column → cell a row column ≡ cell b row column)
    (λ place. DiffersFirst a b place.0 place.1)
    → IsFirstFoundCell test o
differing_found test a b o is same = grind (arith, nat_tests)

-- If exactly the cells in which two pages differ pass a test, the first of these cells is the first
-- cell that passes the test. If the pages do not differ, no cell passes the test.
pub first_difference :
    (test : ℕ → ℕ → Bool) (a b : Rows) (o : Option (ℕ × ℕ))
    → ((row column : ℕ)
    → IsCell row column
    → test row column ≡ not (cell a row column == cell b row column))
    → MatchOption o
    ((row column : ℕ) → IsCell row column → cell a row column ≡ cell b row column)
    (λ place. DiffersFirst a b place.0 place.1)
    → o ≡ first_cell test
first_difference test a b o is found = found_cell_is_first_cell test o (differing_found test a b o
    is found)

module _ (ta tb test : ℕ → ℕ → Bool) (one : (r c : ℕ) → ta r c ≡ true → test r c ≡ true)
    (none : (r c : ℕ) → ta r c ≡ false → tb r c ≡ false → test r c ≡ false) where
  first_alone : (row column : ℕ)
      → IsFirstPassingCell ta row column
      → ((r c : ℕ) → IsCell r c → tb r c ≡ false)
      → IsFirstPassingCell test row column
  first_alone row column a fails = grind (arith, nat_tests)

  first_of : (row column y x : ℕ)
      → IsFirstPassingCell ta row column
      → IsFirstPassingCell tb y x
      → (row < y) ⊎ ((row ≡ y) × (column ≤ x))
      → IsFirstPassingCell test row column
  first_of row column y x a b before = grind (arith, nat_tests)

earlier_cell_is_first_of_either : (ta tb : ℕ → ℕ → Bool) (a b : Option (ℕ × ℕ))
    → IsFirstFoundCell ta a
    → IsFirstFoundCell tb b
    → IsFirstFoundCell (λ row column. ta row column || tb row column) (earlier a b)
earlier_cell_is_first_of_either ta tb a b na nb = grind (arith, nat_tests, first_alone, first_of)

module _ (s : Listener) where
  -- The code in the cell of the stored page differs from the code in that cell of the expected
  -- page.
  abbrev other : ℕ → ℕ → Bool
  other row column =
      not (cell s.comparison.page row column == cell s.comparison.due row column)

  -- The expected page has a code other than a space in the cell, but its row was not received since
  -- the last header of the page.
  abbrev lacks_row : ℕ → ℕ → Bool
  lacks_row row column =
      not (cell s.comparison.due row column == space || get_or s.again (row - 1) false)

  abbrev wrong : ℕ → ℕ → Bool
  wrong row column = not (is_kept_cell_right s row column)

  wrong_cell_differs_or_lacks_row : (row column : ℕ) → s.watched.keeps ≡ true
      → wrong row column ≡ (other row column || lacks_row row column)
  wrong_cell_differs_or_lacks_row row column keeps = grind (arith, nat_tests)

  pub wrong_eq : (o : Option (ℕ × ℕ))
      → s.watched.keeps ≡ false
      → MatchOption o
      ((row column : ℕ)
      → IsCell row column
      → cell s.comparison.page row column ≡ cell s.comparison.due row column)
      (λ place. DiffersFirst s.comparison.page s.comparison.due place.0 place.1)
      → o ≡ first_wrong_kept_cell s
  unfolding first_wrong_kept_cell
  wrong_eq o none found =
      first_difference wrong s.comparison.page s.comparison.due o
      (λ row column is. grind (arith, nat_tests)) found

  abbrev pub HasOnlyMissingRows : Rows → Type 0
  HasOnlyMissingRows missing =
      (row column : ℕ)
      → IsCell row column
      → cell missing row column
      ≡ cond (get_or s.again (row - 1) false) space (cell s.comparison.due row column)

  first_missing_row_is_found : (missing : Rows) (o : Option (ℕ × ℕ))
      → HasOnlyMissingRows missing
      → MatchOption o (missing ≡ blank) (λ place. DiffersFirst missing blank place.0 place.1)
      → IsFirstFoundCell lacks_row o
  first_missing_row_is_found missing o cells found =
      grind (arith, nat_tests, differing_found, cell-blank, cell_equality_matches_page_equality)

  pub first_wrong_cell_of_kept_page : (missing : Rows) (a b : Option (ℕ × ℕ))
      → s.watched.keeps ≡ true
      → HasOnlyMissingRows missing
      → MatchOption a
      ((row column : ℕ)
      → IsCell row column
      → cell s.comparison.page row column ≡ cell s.comparison.due row column)
      (λ place. DiffersFirst s.comparison.page s.comparison.due place.0 place.1)
      → MatchOption b (missing ≡ blank) (λ place. DiffersFirst missing blank place.0 place.1)
      → earlier a b ≡ first_wrong_kept_cell s
  unfolding first_wrong_kept_cell
  first_wrong_cell_of_kept_page missing a b keeps cells one two =
      found_cell_is_first_cell (λ row column. other row column || lacks_row row column)
      (earlier a b)
      (earlier_cell_is_first_of_either other lacks_row a b
      (differing_found other s.comparison.page s.comparison.due a (λ row column is. refl) one)
      (first_missing_row_is_found missing b cells two))
      ∙ sym (ap first_cell (λ k row column. wrong_cell_differs_or_lacks_row row column keeps k))
