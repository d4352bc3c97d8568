-- The lines of a subtitle are drawn one after another; the first fault ends the drawing.
use Rattle.std.proofs.Common.{◌≡◌, ℕ, ◌+◌, ◌≤◌, List, [], ◌∷◌, map, refl, ap, ◌∙◌, sym, arith}
use Rattle.std.proofs.Common.{Option, Some, None, Ok, Err}
use Rattle.std.proofs.lemmas.Bool.Decides.{nat_tests}
use Rattle.std.specs.Borrow.{Bor}
use Rattle.std.specs.Option.{option_map_or}
use Rattle.ttx_page.specs.Page.{AreCodes, Rows}
use Rattle.stl_rows.specs.declared.fault.RowFault.{RowFault}
use Rattle.stl_rows.specs.declared.layout_drawing.Place.{Place}
use Rattle.stl_rows.specs.declared.layout.LayoutItems.{LayoutItems}
use Rattle.stl_rows.specs.LineByLayout.{HaveSevenBitCells, cut_lines, drawn_from_place}
use Rattle.stl_rows.specs.LineByLayout.{line_fault_at, page_with_line}
use Rattle.stl_rows.specs.LineByLayout.{next_place, prepared_cut_lines}
use Rattle.stl_rows.specs.PreparedLine.{prepared_by_layout}
use Rattle.stl_rows.proofs.LineLemmas.{property_holds_at_index}
use Rattle.stl_rows.proofs.PageShapeLemmas.{prepared_line_is_seven_bit}

abbrev pub lines_after_first : Option (Bor (List ℕ)) → List (List ℕ)
lines_after_first following = option_map_or (λ more. cut_lines more.now) following []

module _ (items : LayoutItems) (jc row_shift : ℕ) (place : Place) (page : Rows)
    (rest first line : List ℕ) (following : Option (Bor (List ℕ)))
    (cut : cut_lines rest ≡ first ∷ lines_after_first following)
    (is : line ≡ prepared_by_layout items first) where
  prepared_cut_splits : prepared_cut_lines items rest ≡ line ∷ map (prepared_by_layout items)
      (lines_after_first following)
  prepared_cut_splits =
      ap (map (prepared_by_layout items)) cut
      ∙ ap (λ own. own ∷ map (prepared_by_layout items) (lines_after_first following)) (sym is)

  -- If the first line has a fault, that fault is the result of drawing all lines.
  pub line-fault : (fault : RowFault)
      → line_fault_at items row_shift place line ≡ Some fault
      → drawn_from_place items jc row_shift place page (prepared_cut_lines items rest) ≡ Err fault
  unfolding drawn_from_place
  line-fault fault reported = rw (prepared_cut_splits, reported) refl

  -- If the first line has no fault, drawing continues with the other lines.
  pub line-next : line_fault_at items row_shift place line ≡ None
      → drawn_from_place items jc row_shift place page (prepared_cut_lines items rest)
      ≡ drawn_from_place items jc row_shift (next_place items place line)
      (page_with_line items jc row_shift place line page)
      (map (prepared_by_layout items) (lines_after_first following))
  unfolding drawn_from_place
  line-next sound = rw (prepared_cut_splits, sound) refl

  pub line-codes : HaveSevenBitCells (cut_lines rest) → AreCodes line
  line-codes h1 = grind (arith, nat_tests, property_holds_at_index, prepared_line_is_seven_bit)

  pub following-codes : HaveSevenBitCells (cut_lines rest) → HaveSevenBitCells
      (lines_after_first following)
  following-codes h = (rw cut at h).1

pub line-end : (items : LayoutItems) (jc row_shift : ℕ) (place : Place) (page : Rows)
    → drawn_from_place items jc row_shift place page [] ≡ Ok page
unfolding drawn_from_place
line-end items jc row_shift place page = refl

pub place-grows : (items : LayoutItems) (place : Place) (line : List ℕ)
    → ((next_place items place line).number ≡ place.number + 1)
    × ((next_place items place line).depth ≤ place.depth + 2)
unfolding next_place
place-grows items place line = grind (arith, nat_tests)
