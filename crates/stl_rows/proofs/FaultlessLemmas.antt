-- Each line without a fault fits on the page, and has at most 40 cells while it is still being
-- read.
use Rattle.std.proofs.Common.{◌≡◌, ℕ, zero, suc, ◌+◌, ◌<◌, ◌≤◌, Bool, List, [], ◌∷◌, ◌++◌, length}
use Rattle.std.proofs.Common.{map, get_or, refl, arith}
use Rattle.std.proofs.lemmas.Bool.Decides.{nat_tests}
use Rattle.std.specs.List.{onto_first}
use Rattle.stl_rows.specs.PlainPage.{last_row, line_fault_kinds, line_faults}
use Rattle.stl_rows.specs.Line.{has_double_height, boxed_line}
use Rattle.stl_rows.specs.LineByLine.{cells_onto_lines}
use Rattle.stl_rows.proofs.LineByLineLemmas.{preparing_never_shortens_line}

pub empty_append_has_empty_parts : {A : Type 0} (xs ys : List A) → xs ++ ys ≡ [] → (xs ≡ []) ×
    (ys ≡ [])
empty_append_has_empty_parts [] ys e = (refl, e)
empty_append_has_empty_parts (x ∷ xs) ys e = cc

pub empty_map_has_empty_list : {A B : Type 0} (f : A → B) (xs : List A) → map f xs ≡ [] → xs ≡ []
empty_map_has_empty_list f [] e = refl
empty_map_has_empty_list f (x ∷ xs) e = cc

-- A prepared line has at most 40 cells, and its row is not below row 23 unless the line is empty.
pub record IsOnPage (row : ℕ) (line : List ℕ) : Type 0 where
  pub few : length line ≤ 40
  pub last : 0 < length line → row ≤ last_row

faultless_line_is_on_page : (row : ℕ) (under : Bool) (line : List ℕ)
    → line_fault_kinds row under line ≡ []
    → IsOnPage row line
unfolding line_fault_kinds
faultless_line_is_on_page row under line e = grind (arith, nat_tests)

-- If no line has a fault, each line fits on the page.
pub faultless_lines_are_on_page : (number row at : ℕ) (under : Bool) (lines : List (List ℕ)) (k : ℕ)
    → at ≡ row + k
    → line_faults number row under lines ≡ []
    → IsOnPage at (get_or lines k [])
faultless_lines_are_on_page number row at under [] k is e = record
    { few = omega arith; last = λ some. omega arith }
faultless_lines_are_on_page number row at under (line ∷ lines) zero is e =
    grind (
      arith,
      nat_tests,
      faultless_line_is_on_page,
      empty_map_has_empty_list,
      empty_append_has_empty_parts,
    )
faultless_lines_are_on_page number row at under (line ∷ lines) (suc k) is e =
    let rest = faultless_lines_are_on_page (number + 1) (row + 1) at (has_double_height line) lines
    k in
    grind (arith, nat_tests, empty_append_has_empty_parts)

pub line_fits_in_40_cells : (row : ℕ) (cells : List ℕ) (lines : List (List ℕ))
    → IsOnPage row (get_or (map boxed_line (cells_onto_lines cells lines)) 0 [])
    → length cells ≤ 40
line_fits_in_40_cells row cells lines on =
    omega (
      arith,
      on.few,
      first_line_includes_cells cells,
      preparing_keeps_first_line_long
          (cells_onto_lines cells lines),
    )
  where
    adding_code_lengthens_first_line : (c : ℕ) (ls : List (List ℕ))
        → suc (length (get_or ls 0 [])) ≤ length (get_or (onto_first c ls) 0 [])
    adding_code_lengthens_first_line c ls = grind arith

    first_line_includes_cells : (cs : List ℕ) → length cs ≤ length
        (get_or (cells_onto_lines cs lines) 0 [])
    first_line_includes_cells [] = omega arith
    first_line_includes_cells (c ∷ cs) = omega (
      arith,
      first_line_includes_cells cs,
      adding_code_lengthens_first_line c
          (cells_onto_lines cs lines),
    )

    preparing_keeps_first_line_long : (ls : List (List ℕ))
        → length (get_or ls 0 []) ≤ length (get_or (map boxed_line ls) 0 [])
    preparing_keeps_first_line_long [] = omega arith
    preparing_keeps_first_line_long (line ∷ ls) = preparing_never_shortens_line line
