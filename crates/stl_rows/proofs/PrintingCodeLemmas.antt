-- A line and its prepared form have the same printable characters, and so has the row that shows
-- the line, if the line fits in the row.
use Rattle.std.proofs.Common.{◌≡◌, ℕ, zero, suc, ◌+◌, ◌-◌, ◌≤◌, Bool, true, List, []}
use Rattle.std.proofs.Common.{◌∷◌, ◌++◌, length, take, drop, replicate, refl, sym, ap, ◌∙◌}
use Rattle.std.proofs.Common.{arith, Option, Some, None, append-nil}
use Rattle.std.proofs.lemmas.Bool.Decides.{nat_tests}
use Rattle.std.proofs.lemmas.List.{take-append-drop}
use Rattle.std.specs.List.{AllByRecursion, filter, list_all}
use Rattle.ttx_page.specs.Page.{space}
use Rattle.stl_rows.specs.declared.layout.Attribute.{Attribute}
use Rattle.stl_rows.specs.declared.layout.LayoutItems.{LayoutItems}
use Rattle.stl_rows.specs.Layout.{attribute_code, codes_of_places}
use Rattle.stl_rows.specs.PrintingCodes.{cell_before_rest, from_first_printable, printing_codes}
use Rattle.stl_rows.specs.PrintingCodes.{printed_part}
use Rattle.stl_rows.specs.PrintingCodes.{printed_lines, is_printable_cell}
use Rattle.stl_rows.specs.PrintingCodes.{up_to_last_printable}
use Rattle.stl_rows.specs.PreparedLine.{codes_to_append, line_with_layout_codes}
use Rattle.stl_rows.specs.PreparedLine.{line_with_before_codes, leading_count, prepared_by_layout}
use Rattle.stl_rows.specs.PreparedLine.{row_starting_at, trailing_count, trimmed, codes_with_colour}
use Rattle.stl_rows.specs.PreparedLine.{without_leading_spaces}
use Rattle.stl_rows.specs.TextCode.{is_within}
use Rattle.stl_rows.proofs.LineLemmas.{row_starting_at-put}

abbrev pub AreNonPrinting : List ℕ → Type 0
AreNonPrinting cells = AllByRecursion (λ (c : ℕ). c ≤ space) cells

none-append : (xs ys : List ℕ) → AreNonPrinting xs → AreNonPrinting ys → AreNonPrinting (xs ++ ys)
none-append [] ys h k = k
none-append (x ∷ xs) ys h k = (h.0, none-append xs ys h.1 k)

none-take : (n : ℕ) (xs : List ℕ) → AreNonPrinting xs → AreNonPrinting (take n xs)
none-take zero xs h = tt
none-take (suc n) [] h = tt
none-take (suc n) (x ∷ xs) h = (h.0, none-take n xs h.1)

none-drop : (n : ℕ) (xs : List ℕ) → AreNonPrinting xs → AreNonPrinting (drop n xs)
none-drop zero xs h = h
none-drop (suc n) [] h = tt
none-drop (suc n) (x ∷ xs) h = none-drop n xs h.1

none-spaces : (n : ℕ) → AreNonPrinting (replicate n space)
none-spaces zero = tt
none-spaces (suc n) = (omega arith, none-spaces n)

none-leading_count : (first last : ℕ) (cells : List ℕ) → last ≤ space
    → AreNonPrinting (take (leading_count first last cells) cells)
none-leading_count first last [] low = tt
none-leading_count first last (c ∷ cells) low =
    grind (arith, nat_tests, none-leading_count first last cells low)

none-all : (first last : ℕ) (cells : List ℕ) → last ≤ space
    → list_all (is_within first last) cells ≡ true
    → AreNonPrinting cells
none-all first last [] low all = tt
none-all first last (c ∷ cells) low all =
    grind (arith, nat_tests, none-all first last cells low)

trailing_count-few : (first last : ℕ) (cells : List ℕ)
    → trailing_count first last cells ≤ length cells
trailing_count-few first last [] = omega arith
trailing_count-few first last (c ∷ cells) =
    grind (arith, nat_tests, trailing_count-few first last cells)

none-trailing-by : (first last c : ℕ) (cells : List ℕ) (all : Bool) → last ≤ space
    → list_all (is_within first last) (c ∷ cells) ≡ all
    → AreNonPrinting (drop (length cells - trailing_count first last cells) cells)
    → AreNonPrinting (drop (length (c ∷ cells) - trailing_count first last (c ∷ cells)) (c ∷ cells))
none-trailing-by first last c cells all low is rest =
    grind (arith, nat_tests, none-drop, none-all, trailing_count-few)

none-trailing : (first last : ℕ) (cells : List ℕ) → last ≤ space
    → AreNonPrinting (drop (length cells - trailing_count first last cells) cells)
none-trailing first last [] low = tt
none-trailing first last (c ∷ cells) low =
    none-trailing-by first last c cells (list_all (is_within first last) (c ∷ cells)) low refl
    (none-trailing first last cells low)

attribute-low : (a : Attribute) → attribute_code a ≤ space
unfolding attribute_code
attribute-low a = grind (arith, nat_tests)

none-codes : (places : List (Option Attribute)) → AreNonPrinting (codes_of_places places)
none-codes [] = tt
none-codes (None ∷ places) = none-codes places
none-codes (Some a ∷ places) = (attribute-low a, none-codes places)

from_first_printable-none : (xs cells : List ℕ) → AreNonPrinting xs → from_first_printable
    (xs ++ cells) ≡ from_first_printable
    cells
from_first_printable-none [] cells h = refl
from_first_printable-none (x ∷ xs) cells h = grind (
  arith,
  nat_tests,
  from_first_printable-none xs
      cells h.1,
)

up_to_last_printable-nothing : (xs : List ℕ) → AreNonPrinting xs → up_to_last_printable xs ≡ []
up_to_last_printable-nothing [] h = refl
up_to_last_printable-nothing (x ∷ xs) h = grind (
  arith,
  nat_tests,
  up_to_last_printable-nothing xs
      h.1,
)

up_to_last_printable-none : (cells xs : List ℕ) → AreNonPrinting xs → up_to_last_printable
    (cells ++ xs) ≡ up_to_last_printable cells
up_to_last_printable-none [] xs h = up_to_last_printable-nothing xs h
up_to_last_printable-none (c ∷ cells) xs h = ap (cell_before_rest c) (up_to_last_printable-none
    cells xs h)

printed_part-following : (cells xs : List ℕ) → AreNonPrinting xs → printed_part (cells ++ xs) ≡
    printed_part cells
unfolding printed_part
printed_part-following [] xs h =
    grind (
      arith,
      nat_tests,
      from_first_printable-none xs [] h,
      append-nil,
      up_to_last_printable-nothing,
    )
printed_part-following (c ∷ cells) xs h =
    grind (
      arith,
      nat_tests,
      up_to_last_printable-none (c ∷ cells) xs h,
      printed_part-following
          cells xs h,
    )

printed_part-ahead : (xs cells : List ℕ) → AreNonPrinting xs → printed_part (xs ++ cells) ≡
    printed_part cells
unfolding printed_part
printed_part-ahead xs cells h = ap up_to_last_printable (from_first_printable-none xs cells h)

printed_part-drop : (n : ℕ) (cells : List ℕ) → AreNonPrinting (take n cells)
    → printed_part (drop n cells) ≡ printed_part cells
printed_part-drop n cells h =
    sym (printed_part-ahead (take n cells) (drop n cells) h) ∙ ap printed_part
    (take-append-drop n cells)

printed_part-take : (n : ℕ) (cells : List ℕ) → AreNonPrinting (drop n cells)
    → printed_part (take n cells) ≡ printed_part cells
printed_part-take n cells h =
    sym (printed_part-following (take n cells) (drop n cells) h) ∙ ap printed_part
    (take-append-drop n cells)

printed_part-trimmed : (cells : List ℕ) → printed_part (trimmed cells) ≡ printed_part cells
unfolding trimmed
printed_part-trimmed cells =
    printed_part-take _ (without_leading_spaces cells)
    (none-trailing 0x20 0x20 (without_leading_spaces cells) (omega arith))
    ∙ printed_part-drop _ cells (none-leading_count 0x20 0x20 cells (omega arith))

none-codes_with_colour : (items : LayoutItems) (codes : List ℕ) → AreNonPrinting codes
    → AreNonPrinting (codes_with_colour items codes)
none-codes_with_colour items codes h =
    grind (arith, nat_tests, none-append codes (0x07 ∷ []) h (omega arith, tt))

none-codes_to_append : (items : LayoutItems) (n : ℕ) → AreNonPrinting (codes_to_append items n)
none-codes_to_append items n = grind (arith, nat_tests, none-codes items.after, none-take)

printed_part-line_with_before_codes : (items : LayoutItems) (cells : List ℕ)
    → printed_part (line_with_before_codes items cells) ≡ printed_part cells
unfolding line_with_before_codes
printed_part-line_with_before_codes items cells =
    grind (
      arith,
      nat_tests,
      none-leading_count,
      printed_part-ahead,
      none-append,
      none-codes,
      none-codes_with_colour,
      printed_part-drop,
    )

printed_part-line_with_layout_codes : (items : LayoutItems) (cells : List ℕ)
    → printed_part (line_with_layout_codes items cells) ≡ printed_part cells
unfolding line_with_layout_codes
printed_part-line_with_layout_codes items cells = grind (
  arith,
  nat_tests,
  printed_part-following,
  none-codes_to_append,
  printed_part-line_with_before_codes,
)

-- The prepared form of a line has the same cells as the line, from the first printable cell to the
-- last.
pub printed_part-prepared : (items : LayoutItems) (cells : List ℕ)
    → printed_part (prepared_by_layout items cells) ≡ printed_part cells
unfolding prepared_by_layout
printed_part-prepared items cells = grind (
  arith,
  nat_tests,
  printed_part-line_with_layout_codes,
  printed_part-trimmed,
)

-- If a line fits in its row, the row that shows the line has the same cells as the line, from the
-- first printable cell to the last.
pub printed_part-row : (start : ℕ) (line : List ℕ) → start + length line ≤ 40
    → printed_part (row_starting_at start line) ≡ printed_part line
printed_part-row start line room =
    let row : List ℕ = replicate 40 space in
    let all = none-spaces 40 in
    ap printed_part (sym (row_starting_at-put start line row room refl))
    ∙ printed_part-ahead (take start row) _ (none-take start row all)
    ∙ printed_part-following line _ (none-drop _ _ (none-drop start row all))

printing_codes-from_first_printable : (cells : List ℕ) → filter is_printable_cell
    (from_first_printable cells) ≡ filter is_printable_cell
    cells
printing_codes-from_first_printable [] = refl
printing_codes-from_first_printable (c ∷ cells) = grind
    (arith, nat_tests, printing_codes-from_first_printable cells)

printing_codes-cell_before_rest : (c : ℕ) (cells : List ℕ)
    → filter is_printable_cell (cell_before_rest c cells) ≡ filter is_printable_cell (c ∷ cells)
printing_codes-cell_before_rest c [] = grind (arith, nat_tests)
printing_codes-cell_before_rest c (x ∷ cells) = refl

printing_codes-up_to_last_printable : (cells : List ℕ) → filter is_printable_cell
    (up_to_last_printable cells) ≡ filter is_printable_cell cells
printing_codes-up_to_last_printable [] = refl
printing_codes-up_to_last_printable (c ∷ cells) =
    printing_codes-cell_before_rest c (up_to_last_printable cells) ∙ grind (
      arith,
      nat_tests,
      printing_codes-up_to_last_printable
          cells,
    )

printing_codes-printed_part : (cells : List ℕ) → filter is_printable_cell (printed_part cells) ≡
    filter is_printable_cell cells
unfolding printed_part
printing_codes-printed_part cells = printing_codes-up_to_last_printable (from_first_printable cells)
    ∙ printing_codes-from_first_printable
    cells

printing_codes-line : (line own : List ℕ) (lines : List (List ℕ))
    → printed_part line ≡ own
    → printing_codes (printed_lines lines) ≡ printing_codes lines
    → printing_codes (printed_lines (line ∷ lines)) ≡ printing_codes (line ∷ lines)
printing_codes-line line own lines is rest = grind (arith, nat_tests, printing_codes-printed_part)

pub printing_codes-lines : (lines : List (List ℕ)) → printing_codes (printed_lines lines) ≡
    printing_codes lines
printing_codes-lines [] = refl
printing_codes-lines (line ∷ lines) =
    printing_codes-line line (printed_part line) lines refl (printing_codes-lines lines)
