-- The row that shows a line has 40 codes: the cells of the line, and spaces around them. If the
-- cells are below 128, all codes of the row are.
use Rattle.std.proofs.Common.{◌≡◌, ℕ, ◌+◌, ◌-◌, ◌<◌, ◌≤◌, List, [], ◌∷◌, ◌++◌, length, map, get_or}
use Rattle.std.proofs.Common.{take, drop, replicate, arith, lit<}
use Rattle.std.proofs.lemmas.Bool.Decides.{nat_tests}
use Rattle.std.proofs.lemmas.List.{get_or-replicate, get_or_past, places}
use Rattle.std.proofs.lemmas.List.Elements.{All-from_get_or, recursion_from_All}
use Rattle.std.proofs.lemmas.List.FromFn.{fill_by_all, length-map-range_with_len}
use Rattle.std.specs.List.{AllByRecursion}
use Rattle.ttx_page.specs.Page.{AreCodes, space}
use Rattle.stl_rows.specs.Line.{code_in_column}
use Rattle.stl_rows.specs.PreparedLine.{row_starting_at}

pub row_starting_at-put : (start : ℕ) (line row : List ℕ)
    → start + length line ≤ 40
    → row ≡ replicate 40 space
    → take start row ++ (line ++ drop (start + length line - start) (drop start row))
    ≡ row_starting_at start line
unfolding row_starting_at
row_starting_at-put start line row room is =
    let blank : (k : ℕ) → k < 40 → get_or row k 0 ≡ space =
    λ k l. rw is (get_or-replicate 40 k space 0 l) in
    fill_by_all (code_in_column start line) _ 40 0 (grind (arith, places))
    (λ k h. grind (arith, nat_tests, places, blank, get_or_past line (k - start) space))

abbrev pub AreSevenBitCodes : List ℕ → Type 0
AreSevenBitCodes codes = AllByRecursion (λ (c : ℕ). c < 128) codes

pub property_holds_at_index : {X : Type 0} (P : X → Type 0) (xs : List X) (k : ℕ) (d : X)
    → P d
    → AllByRecursion P xs
    → P (get_or xs k d)
property_holds_at_index P [] k d none h = none
property_holds_at_index P (x ∷ xs) k d none h = grind (
  arith,
  nat_tests,
  property_holds_at_index P
      xs,
)

pub property_holds_on_map : {X Y : Type 0} (P : Y → Type 0) (f : X → Y) (xs : List X)
    → ((x : X) → P (f x))
    → AllByRecursion P (map f xs)
property_holds_on_map P f [] h = tt
property_holds_on_map P f (x ∷ xs) h = (h x, property_holds_on_map P f xs h)

column_code_is_seven_bit : (start column : ℕ) (line : List ℕ)
    → AreSevenBitCodes line
    → code_in_column start line column < 128
column_code_is_seven_bit start column line h = grind (arith, nat_tests, property_holds_at_index)

pub row_has_40_columns : (start : ℕ) (line : List ℕ) → length (row_starting_at start line) ≡ 40
unfolding row_starting_at
row_has_40_columns start line = grind (arith, nat_tests, length-map-range_with_len)

pub row_is_seven_bit : (start : ℕ) (line : List ℕ) → AreSevenBitCodes line → AreSevenBitCodes
    (row_starting_at start line)
unfolding row_starting_at
row_is_seven_bit start line h = grind
    (arith, nat_tests, property_holds_on_map, column_code_is_seven_bit)

pub row_starting_at-codes : (start : ℕ) (line : List ℕ) → AreCodes line → AreCodes
    (row_starting_at start line)
row_starting_at-codes start line codes column =
    property_holds_at_index (λ c. c < 128) (row_starting_at start line) column 0 (lit< tt)
    (row_is_seven_bit start line
    (recursion_from_All (λ c. c < 128) line
    (All-from_get_or (λ c. c < 128) line 0 (λ k l. codes k))))
