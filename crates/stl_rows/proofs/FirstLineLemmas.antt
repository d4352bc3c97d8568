-- The first line of a text ends before the first new line, or with the last cell if the text has no
-- new line.
use Rattle.std.proofs.lemmas.Bool.Decides.{nat_tests}
use Rattle.std.proofs.Common.{arith}
use Rattle.std.proofs.Common.{◌≡◌, ℕ, ◌+◌, ◌<◌, ◌≤◌, List, [], ◌∷◌, ◌++◌, length, get_or, take}
use Rattle.std.proofs.Common.{drop}
use Rattle.std.proofs.Common.{refl, true, false, ◌==◌, add-one, drop-cons}
use Rattle.std.proofs.Math.Seq.{take-suc}
use Rattle.std.proofs.lemmas.List.{drop_all, take_all}
use Rattle.std.proofs.lemmas.List.Splits.{slice_split-cons_no, slice_split-cons_yes}
use Rattle.stl_rows.specs.LineByLayout.{cut_lines}
use Rattle.stl_rows.specs.LineByLine.{cells_onto_lines}
use Rattle.stl_rows.specs.TextCode.{new_line}
use Rattle.stl_rows.proofs.LineByLineLemmas.{code_joins_cells, line_end_closes_cells}

module _ (cells : List ℕ) (at : ℕ) where
  abbrev pub CellsBeginFirstLine : Type 0
  CellsBeginFirstLine = cut_lines cells ≡ cells_onto_lines (take at cells)
      (cut_lines (drop at cells))

  drop_splits_at_element : at < length cells → drop at cells ≡ get_or cells at 0 ∷ drop (at + 1)
      cells
  drop_splits_at_element low = rw (add-one, drop-cons cells at 0) refl

  take_adds_next_element : at < length cells
      → take (at + 1) cells ≡ take at cells ++ get_or cells at 0 ∷ []
  take_adds_next_element low = rw add-one (take-suc cells at 0 low)

  pub first_line-more : at < length cells
      → (get_or cells at 0 == new_line) ≡ false
      → CellsBeginFirstLine
      → cut_lines cells ≡ cells_onto_lines (take (at + 1) cells) (cut_lines (drop (at + 1) cells))
  first_line-more low other h =
      grind (
        arith,
        nat_tests,
        drop_splits_at_element,
        slice_split-cons_no,
        code_joins_cells,
        take_adds_next_element,
      )

  pub first_line-end : (more : List ℕ)
      → at < length cells
      → (get_or cells at 0 == new_line) ≡ true
      → CellsBeginFirstLine
      → more ≡ drop 1 (drop at cells)
      → cut_lines cells ≡ take at cells ∷ cut_lines more
  first_line-end more low own h is =
      grind (arith, nat_tests, drop_splits_at_element, slice_split-cons_yes, line_end_closes_cells)

  pub first_line-all : length cells ≤ at → CellsBeginFirstLine → cut_lines cells ≡ cells ∷ []
  first_line-all past h = grind (arith, nat_tests, drop_all, line_end_closes_cells, take_all)
