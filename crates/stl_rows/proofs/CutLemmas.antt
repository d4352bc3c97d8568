-- The lines of a text are its cells, cut at each new line.
use Rattle.std.proofs.Common.{◌≡◌, ℕ, zero, suc, ◌+◌, List, [], ◌∷◌, ◌++◌, refl}
use Rattle.std.proofs.Common.{arith, Some, Err, false}
use Rattle.std.proofs.lemmas.Bool.Decides.{nat_tests}
use Rattle.std.specs.List.{AllByRecursion}
use Rattle.ttx_page.specs.Page.{Rows, blank}
use Rattle.stl_file.specs.Subtitle.{SubtitleValue}
use Rattle.stl_rows.specs.declared.fault.RowFault.{RowFault}
use Rattle.stl_rows.specs.declared.layout_drawing.Place.{Place}
use Rattle.stl_rows.specs.declared.layout.LayoutItems.{LayoutItems}
use Rattle.stl_rows.specs.declared.national.National.{National}
use Rattle.stl_rows.specs.declared.text_code.TextCode.{TextCode}
use Rattle.stl_rows.specs.DrawnPage.{codes_by_layout, drawn_by, first_depth, lines_by_layout}
use Rattle.stl_rows.specs.DrawnPage.{shift_of_lines, text_after_strip}
use Rattle.stl_rows.specs.LineByLayout.{cut_lines, drawn_from_place, cells_and_new_lines}
use Rattle.stl_rows.specs.LineByLayout.{prepared_cut_lines}
use Rattle.stl_rows.specs.PlainPage.{value_unless_error}
use Rattle.stl_rows.specs.TextCode.{HasSevenBits, code_and_extra_bytes, text_codes_after_skip}
use Rattle.stl_rows.specs.TextCode.{first_of}
use Rattle.stl_rows.specs.TextCode.{lines_of_codes, faults_of_codes, text_codes, lines_with_code}
use Rattle.stl_rows.proofs.LaidOutLemmas.{drawn_from_place-is}
use Rattle.stl_rows.proofs.LineLemmas.{AreSevenBitCodes}
use Rattle.stl_rows.proofs.PageShapeLemmas.{text_lines_are_seven_bit}
use Rattle.stl_rows.proofs.TextCodeLemmas.{code_and_extra_bytes-small}

cut-code : (at : ℕ) (code : TextCode) (codes : List (ℕ × TextCode))
    → HasSevenBits code
    → cut_lines (cells_and_new_lines codes) ≡ lines_of_codes codes
    → cut_lines (cells_and_new_lines ((at, code) ∷ codes)) ≡ lines_with_code code
    (lines_of_codes codes)
cut-code at code codes small is = grind (arith, nat_tests)

pub cutting_flat_codes_gives_lines : (n : National) (at skip : ℕ) (bytes : List ℕ)
    → cut_lines (cells_and_new_lines (text_codes_after_skip n at skip bytes))
    ≡ lines_of_codes (text_codes_after_skip n at skip bytes)
cutting_flat_codes_gives_lines n at skip [] = refl
cutting_flat_codes_gives_lines n at (suc skip) (b ∷ bytes) = cutting_flat_codes_gives_lines n
    (at + 1) skip bytes
cutting_flat_codes_gives_lines n at zero (b ∷ bytes) =
    let s = code_and_extra_bytes n b bytes in
    cut-code at s.0 (text_codes_after_skip n (at + 1) s.1 bytes) (code_and_extra_bytes-small n b
    bytes)
    (cutting_flat_codes_gives_lines n (at + 1) s.1 bytes)

module _ (n : National) (items : LayoutItems) (t : SubtitleValue) (cells : List ℕ)
    (is : cells ≡ cells_and_new_lines (text_codes n 0 (text_after_strip items t.text))) where
  pub cut_lines_are_prepared_lines : prepared_cut_lines items cells ≡ lines_by_layout n items t.text
  cut_lines_are_prepared_lines = rw
      (is, cutting_flat_codes_gives_lines n 0 0 (text_after_strip items t.text)) refl

  pub cut_lines_are_seven_bit : AllByRecursion AreSevenBitCodes (cut_lines cells)
  cut_lines_are_seven_bit =
      rw (is, cutting_flat_codes_gives_lines n 0 0 (text_after_strip items t.text))
      (text_lines_are_seven_bit n 0 0 (text_after_strip items t.text))

  -- If no byte of the text is rejected, drawing the lines that are cut from the cells gives the
  -- result of drawing the subtitle.
  pub drawn_by-cut : (row_shift : ℕ) (place : Place)
      → faults_of_codes (codes_by_layout n items t.text) ≡ []
      → row_shift ≡ shift_of_lines items (prepared_cut_lines items cells)
      → place ≡ record {
        number = 0;
        depth = first_depth items t.vp;
        is_below_double_height = false;
      }
      → drawn_from_place items t.jc row_shift place blank (prepared_cut_lines items cells) ≡
      drawn_by n items t
  unfolding drawn_by
  drawn_by-cut row_shift place sound off_is place_is =
      rw (off_is, place_is, cut_lines_are_prepared_lines, sound)
      (drawn_from_place-is items t.jc (shift_of_lines items (lines_by_layout n items t.text)) _ _)

first_fault : (faults more : List RowFault) (page : Rows) (fault : RowFault)
    → first_of faults ≡ Some fault
    → Err fault ≡ value_unless_error (faults ++ more) page
first_fault [] more page fault e = cc
first_fault (f ∷ faults) more page fault e = cc

-- If a byte of the text is rejected, the fault of the first rejected byte is the result of drawing.
pub drawn_by-refused : (n : National) (items : LayoutItems) (t : SubtitleValue) (fault : RowFault)
    → first_of (faults_of_codes (codes_by_layout n items t.text)) ≡ Some fault
    → Err fault ≡ drawn_by n items t
unfolding drawn_by
drawn_by-refused n items t fault e =
    first_fault (faults_of_codes (codes_by_layout n items t.text)) _ _ fault e
