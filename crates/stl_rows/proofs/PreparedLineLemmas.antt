-- `trailing_count` is the number of cells at the end of a line that are in a range of codes. With
-- `fit`, a layout adds only codes that fit in the row at the end of a line; without `fit`, it adds
-- all codes. An empty line gets no codes.
use Rattle.std.proofs.Common.{◌≡◌, ℕ, zero, suc, ◌+◌, ◌-◌, ◌<◌, ◌≤◌, true, false, List, [], ◌∷◌}
use Rattle.std.proofs.Common.{length}
use Rattle.std.proofs.Common.{get_or, drop, refl, arith, ◌++◌, take, max, ap, ◌∙◌}
use Rattle.std.proofs.lemmas.Bool.Decides.{nat_tests}
use Rattle.std.specs.List.{list_all}
use Rattle.std.proofs.Math.Seq.{take-append-add}
use Rattle.stl_rows.specs.declared.layout.LayoutItems.{LayoutItems}
use Rattle.stl_rows.specs.Layout.{codes_of_places}
use Rattle.stl_rows.specs.PreparedLine.{line_with_layout_codes, line_with_before_codes}
use Rattle.stl_rows.specs.PreparedLine.{trailing_count}
use Rattle.stl_rows.specs.TextCode.{is_within}

pub all_within_are_trailing : (first last : ℕ) (cells : List ℕ)
    → list_all (is_within first last) cells ≡ true
    → trailing_count first last cells ≡ length cells
all_within_are_trailing first last [] all = refl
all_within_are_trailing first last (c ∷ cells) all = rw all refl

element_outside_breaks_all : (first last : ℕ) (cells : List ℕ) (at : ℕ)
    → at < length cells
    → is_within first last (get_or cells at 0) ≡ false
    → list_all (is_within first last) cells ≡ false
element_outside_breaks_all first last [] at low not = absurd (omega (arith, low))
element_outside_breaks_all first last (c ∷ cells) zero low not = rw not refl
element_outside_breaks_all first last (c ∷ cells) (suc at) low not =
    grind (
      arith,
      nat_tests,
      element_outside_breaks_all first last cells at (omega (arith, low))
          not,
    )

trailing_starts_after_outside : (first last : ℕ) (cells : List ℕ) (at : ℕ)
    → at < length cells
    → is_within first last (get_or cells at 0) ≡ false
    → list_all (is_within first last) (drop (suc at) cells) ≡ true
    → trailing_count first last cells ≡ length cells - suc at
trailing_starts_after_outside first last [] at low not all = omega (arith, low)
trailing_starts_after_outside first last (c ∷ cells) zero low not all =
    rw (element_outside_breaks_all first last (c ∷ cells) 0 (omega arith) not)
    (all_within_are_trailing first last cells all ∙ omega arith)
trailing_starts_after_outside first last (c ∷ cells) (suc at) low not all =
    rw (element_outside_breaks_all first last (c ∷ cells) (suc at) low not)
    (trailing_starts_after_outside first last cells at (omega (arith, low)) not all ∙ omega arith)

pub trailing_ends_at_outside : (first last : ℕ) (cells : List ℕ) (left : ℕ)
    → 0 < left
    → left ≤ length cells
    → is_within first last (get_or cells (left - 1) 0) ≡ false
    → list_all (is_within first last) (drop left cells) ≡ true
    → trailing_count first last cells ≡ length cells - left
trailing_ends_at_outside first last cells left some low not all = grind
    (arith, nat_tests, trailing_starts_after_outside)

take_of_40_cells_splits : (xs ys : List ℕ)
    → take (max (length xs) 40) (xs ++ ys) ≡ xs ++ take (40 - length xs) ys
take_of_40_cells_splits xs ys =
    ap (λ n. take n (xs ++ ys)) (room (length xs)) ∙ take-append-add xs ys (40 - length xs)
  where
    room : (n : ℕ) → max n 40 ≡ n + (40 - n)
    room n = omega arith

pub line_with_layout_codes-fits : (items : LayoutItems) (cells : List ℕ)
    → 0 < length cells
    → items.fit ≡ true
    → take (max (length (line_with_before_codes items cells)) 40)
    (line_with_before_codes items cells ++ codes_of_places items.after)
    ≡ line_with_layout_codes items cells
unfolding line_with_layout_codes
line_with_layout_codes-fits items [] some fit = absurd (omega (arith, some))
line_with_layout_codes-fits items (c ∷ cells) some fit =
    take_of_40_cells_splits (line_with_before_codes items (c ∷ cells)) (codes_of_places items.after)
    ∙ rw fit refl

pub line_with_layout_codes-all : (items : LayoutItems) (cells : List ℕ)
    → 0 < length cells
    → items.fit ≡ false
    → line_with_before_codes items cells ++ codes_of_places items.after ≡ line_with_layout_codes
    items cells
unfolding line_with_layout_codes
line_with_layout_codes-all items [] some fit = absurd (omega (arith, some))
line_with_layout_codes-all items (c ∷ cells) some fit = rw fit refl
