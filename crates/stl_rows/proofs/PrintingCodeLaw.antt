-- A drawn page has the same printable characters as the text of its subtitle.
use Rattle.std.proofs.Common.{◌≡◌, ◌≢◌, ℕ, zero, suc, ◌+◌, ◌<◌, ◌≤◌, Bool, true, false, List, []}
use Rattle.std.proofs.Common.{◌∷◌, ◌++◌, map, refl, sym, ap, ◌∙◌, arith, Option}
use Rattle.std.proofs.Common.{None, Ok, inl, inr, ◌⊎◌}
use Rattle.std.proofs.lemmas.Bool.{cases_lt}
use Rattle.std.proofs.lemmas.Bool.Decides.{nat_tests}
use Rattle.std.specs.List.{AllByRecursion, filter, find, onto_first, range_with_len}
use Rattle.std.specs.Prelude.{if◌then◌else◌}
use Rattle.ttx_page.specs.Page.{Rows, blank_row}
use Rattle.stl_file.specs.Subtitle.{SubtitleValue}
use Rattle.stl_rows.specs.declared.layout.LayoutItems.{LayoutItems}
use Rattle.stl_rows.specs.declared.national.National.{National}
use Rattle.stl_rows.specs.declared.sub_sets.NationalCharacter.{NationalCharacter}
use Rattle.stl_rows.specs.declared.text_code.TextCode.{TextCode}
use Rattle.stl_rows.specs.declared.text_code.TextCode.TheVariants.{Cell, NoCell}
use Rattle.stl_rows.specs.DrawnPage.{PlacedLine, codes_by_layout, drawn, drawn_by, first_depth}
use Rattle.stl_rows.specs.DrawnPage.{is_on_row}
use Rattle.stl_rows.specs.DrawnPage.{lines_by_layout}
use Rattle.stl_rows.specs.DrawnPage.{page_of_placed, pitch, placed_lines_from, placed_fault_kinds}
use Rattle.stl_rows.specs.DrawnPage.{placed_faults, shown_row, takes_no_row, text_after_strip}
use Rattle.stl_rows.specs.Layout.{items_of_layout, strips_byte}
use Rattle.stl_rows.specs.PrintingCodes.{LawOfPrintingCodes, printing_codes, printed_part}
use Rattle.stl_rows.specs.PrintingCodes.{printed_lines}
use Rattle.stl_rows.specs.PrintingCodes.{is_printable_cell}
use Rattle.stl_rows.specs.Line.{has_cells, has_double_height}
use Rattle.stl_rows.specs.PreparedLine.{prepared_by_layout, row_starting_at, start_column_by_layout}
use Rattle.stl_rows.specs.SubSets.{cell_of_character, is_encoded_by, sub_set}
use Rattle.stl_rows.specs.TextCode.{cell_of, cell_of_pair, code_and_extra_bytes, code_without_cell}
use Rattle.stl_rows.specs.TextCode.{text_codes_after_skip}
use Rattle.stl_rows.specs.TextCode.{first_of, is_common, lines_of_codes, lines_with_code}
use Rattle.stl_rows.proofs.FaultlessLemmas.{empty_append_has_empty_parts, empty_map_has_empty_list}
use Rattle.stl_rows.proofs.LaidOutLemmas.{drawn_by-lines, no_line_above_first}
use Rattle.stl_rows.proofs.LaidOutLemmas.{shift_of_subtitle, faultless_lines_are_on_page}
use Rattle.stl_rows.proofs.PrintingCodeLemmas.{printing_codes-lines, printed_part-prepared}
use Rattle.stl_rows.proofs.PrintingCodeLemmas.{printed_part-row}

abbrev cells_of : List PlacedLine → List (List ℕ)
cells_of lines = map (λ (line : PlacedLine). line.cells) lines

printed_part-blank : printed_part blank_row ≡ []
unfolding printed_part blank_row
printed_part-blank = refl

-- A line without a fault has at most 40 cells, so the row that shows the line has the same
-- printable characters.
printed_part-shown : (items : LayoutItems) (jc row_shift : ℕ) (line : PlacedLine)
    → placed_fault_kinds items row_shift line ≡ []
    → printed_part (row_starting_at (start_column_by_layout items jc line.cells) line.cells) ≡
    printed_part line.cells
unfolding placed_fault_kinds start_column_by_layout
printed_part-shown items jc row_shift line none =
    printed_part-row (start_column_by_layout items jc line.cells) line.cells
    (grind (arith, nat_tests))

printed_lines-cons : (line : List ℕ) (lines : List (List ℕ)) (own : List ℕ)
    → printed_part line ≡ own
    → printed_lines (line ∷ lines) ≡ filter has_cells (own ∷ []) ++ printed_lines lines
printed_lines-cons line lines [] is = rw is refl
printed_lines-cons line lines (c ∷ own) is = rw is refl

abbrev RowsShow : LayoutItems → ℕ → ℕ → List PlacedLine → ℕ → ℕ → Type 0
RowsShow items jc row_shift lines row count =
    printed_lines (map (shown_row items jc row_shift lines) (range_with_len row count))
    ≡ printed_lines (cells_of lines)

equal_functions_map_range_equally : (f g : ℕ → List ℕ) (row count : ℕ)
    → ((at : ℕ) → row ≤ at → f at ≡ g at)
    → map f (range_with_len row count) ≡ map g (range_with_len row count)
equal_functions_map_range_equally f g row zero h = refl
equal_functions_map_range_equally f g row (suc count) h =
    let rest = equal_functions_map_range_equally f g (row + 1) count
    (λ at low. h at (omega (arith, low))) in
    rw (h row (omega arith), rest) refl

rows-none : (items : LayoutItems) (jc row_shift row count : ℕ)
    → RowsShow items jc row_shift [] row count
rows-none items jc row_shift row zero = refl
rows-none items jc row_shift row (suc count) =
    printed_lines-cons blank_row _ [] printed_part-blank ∙ rows-none items jc row_shift (row + 1)
    count

faultless_lines_split : (items : LayoutItems) (row_shift : ℕ) (line : PlacedLine)
    (rest : List PlacedLine)
    → placed_faults items row_shift (line ∷ rest) ≡ []
    → (placed_fault_kinds items row_shift line ≡ []) × (placed_faults items row_shift rest ≡ [])
faultless_lines_split items row_shift line rest none = grind
    (arith, nat_tests, empty_append_has_empty_parts, empty_map_has_empty_list)

printed_part-nothing : printed_part [] ≡ []
unfolding printed_part
printed_part-nothing = refl

printed_lines-empty : (line : List ℕ) (lines : List (List ℕ))
    → has_cells line ≡ false
    → printed_lines (line ∷ lines) ≡ printed_lines lines
printed_lines-empty [] lines none = printed_lines-cons [] lines [] printed_part-nothing
printed_lines-empty (c ∷ line) lines none = cc

abbrev placed_line_of : ℕ → ℕ → Bool → List ℕ → PlacedLine
placed_line_of number depth under line = record {
  number = number;
  depth = depth;
  is_below_double_height = under;
  cells = line;
}

abbrev following : LayoutItems → ℕ → ℕ → List ℕ → List (List ℕ) → List PlacedLine
following items number depth line lines =
    placed_lines_from items (number + 1) (depth + pitch items) (has_double_height line) lines

-- The distance between two lines is at least one row.
pitch_is_positive : (items : LayoutItems) → 0 < pitch items
pitch_is_positive items = grind (arith, nat_tests)

line_has_cells_or_not : (line : List ℕ) → (has_cells line ≡ false) ⊎ (has_cells line ≡ true)
line_has_cells_or_not [] = inl refl
line_has_cells_or_not (c ∷ line) = inr refl

skipped_line_has_no_cells : (items : LayoutItems) (line : List ℕ) → takes_no_row items line ≡ true
    → has_cells line ≡ false
skipped_line_has_no_cells items line is = grind (arith, nat_tests)

placing_splits_by_line : (items : LayoutItems) (number depth : ℕ) (under : Bool) (line : List ℕ)
    (lines : List (List ℕ)) (P : List PlacedLine → Type 0) (b : Bool)
    → takes_no_row items line ≡ b
    → (takes_no_row items line ≡ true → P (placed_lines_from items (number + 1) depth under lines))
    → (takes_no_row items line ≡ false
    → P (placed_line_of number depth under line ∷ following items number depth line lines))
    → P (placed_lines_from items number depth under (line ∷ lines))
placing_splits_by_line items number depth under line lines P true is none some = rw is (none is)
placing_splits_by_line items number depth under line lines P false is none some = rw is (some is)

module _ (items : LayoutItems) (jc row_shift : ℕ) where
  abbrev PrintsNothingBelow : List PlacedLine → Type 0
  PrintsNothingBelow lines = placed_faults items row_shift lines ≡ [] → printed_lines
      (cells_of lines) ≡
      []

  nothing-cells : (place : PlacedLine) (rest : List PlacedLine) (b : Bool)
      → row_shift + 24 ≤ place.depth
      → has_cells place.cells ≡ b
      → PrintsNothingBelow rest
      → PrintsNothingBelow (place ∷ rest)
  nothing-cells place rest b h1 h2 h3 =
      grind (
        arith,
        nat_tests,
        faultless_lines_are_on_page,
        faultless_lines_split,
        printed_lines-empty,
      )

  lines_below_print_nothing : (number depth : ℕ) (under : Bool) (lines : List (List ℕ))
      → row_shift + 24 ≤ depth
      → PrintsNothingBelow (placed_lines_from items number depth under lines)
  lines_below_print_nothing number depth under [] low = λ none. refl
  lines_below_print_nothing number depth under (line ∷ lines) low =
      placing_splits_by_line items number depth under line lines PrintsNothingBelow
      (takes_no_row items line) refl
      (λ is. lines_below_print_nothing (number + 1) depth under lines low)
      (λ is. nothing-cells (placed_line_of number depth under line)
      (following items number depth line lines) (has_cells line) low refl
      (lines_below_print_nothing (number + 1) (depth + pitch items) (has_double_height line) lines
      (omega (arith, low))))

  abbrev Show : ℕ → ℕ → List PlacedLine → Type 0
  Show row count lines =
      placed_faults items row_shift lines ≡ [] → RowsShow items jc row_shift lines row count

  others : (place : PlacedLine) (rest : List PlacedLine) (at : ℕ)
      → (has_cells place.cells ≡ false) ⊎ (row_shift + at ≢ place.depth)
      → shown_row items jc row_shift (place ∷ rest) at ≡ shown_row items jc row_shift rest at
  others place rest at other = grind (arith, nat_tests)

  show-empty : (place : PlacedLine) (rest : List PlacedLine) (row count : ℕ)
      → has_cells place.cells ≡ false
      → Show row count rest
      → Show row count (place ∷ rest)
  show-empty place rest row count empty more sound =
      ap printed_lines (equal_functions_map_range_equally _ _ row count (λ at above. others place
      rest at (inl empty)))
      ∙ more (faultless_lines_split items row_shift place rest sound).1
      ∙ sym (printed_lines-empty place.cells (cells_of rest) empty)

  show-line : (place : PlacedLine) (rest : List PlacedLine) (row count : ℕ)
      → has_cells place.cells ≡ true
      → row_shift + row ≡ place.depth
      → Show (row + 1) count rest
      → Show row (suc count) (place ∷ rest)
  show-line place rest row count h1 h2 h3 =
      grind (
        arith,
        nat_tests,
        faultless_lines_split,
        printed_lines-cons,
        printed_part-shown,
        equal_functions_map_range_equally,
        others,
      )

  show-above : (lines : List PlacedLine) (row count : ℕ)
      → find (is_on_row row_shift row) lines ≡ None
      → Show (row + 1) count lines
      → Show row (suc count) lines
  show-above lines row count h1 h2 = grind
      (arith, nat_tests, printed_lines-cons, printed_part-blank)

  rows_show_placed_lines : (lines : List (List ℕ)) (count number depth row : ℕ) (under : Bool)
      → row + count ≡ 25
      → row_shift + row ≤ depth
      → Show row count (placed_lines_from items number depth under lines)
  rows_show_placed_lines [] count number depth row under all low = λ none. rows-none items jc
      row_shift row count
  rows_show_placed_lines (line ∷ lines) zero number depth row under all low = λ none.
      sym (lines_below_print_nothing number depth under (line ∷ lines) (omega (arith, low, all))
      none)
  rows_show_placed_lines (line ∷ lines) (suc count) number depth row under all low =
      elim (cases_lt (row_shift + row) depth) [
        | inl above ↦
            show-above (placed_lines_from items number depth under (line ∷ lines)) row count
            (no_line_above_first items row_shift row number depth under (line ∷ lines) above)
            (rows_show_placed_lines (line ∷ lines) count number depth (row + 1) under
            (omega (arith, all))
            (omega (arith, above)))
        | inr at ↦
            placing_splits_by_line items number depth under line lines (Show row (suc count))
            (takes_no_row items line) refl
            (λ is. rows_show_placed_lines lines (suc count) (number + 1) depth row under all low)
            (λ is. elim (line_has_cells_or_not line) [
              | inl empty ↦
                  show-empty (placed_line_of number depth under line)
                  (following items number depth line lines) row (suc count) empty
                  (rows_show_placed_lines lines (suc count) (number + 1) (depth + pitch items) row
                  (has_double_height line) all (omega (arith, low)))
              | inr some ↦
                  show-line (placed_line_of number depth under line)
                  (following items number depth line lines) row count some (omega (arith, low, at))
                  (rows_show_placed_lines lines count (number + 1) (depth + pitch items) (row + 1)
                  (has_double_height line) (omega (arith, all))
                  (omega (arith, low, pitch_is_positive items)))
            ])
      ]

  page-empty : (place : PlacedLine) (rest : List PlacedLine) (b : Bool)
      → place.depth ≤ row_shift
      → has_cells place.cells ≡ b
      → Show 1 24 rest
      → Show 1 24 (place ∷ rest)
  page-empty place rest true above some more sound =
      let on = faultless_lines_are_on_page items row_shift place (faultless_lines_split items
      row_shift place rest sound).0 some in
      absurd (omega (arith, above, on.0))
  page-empty place rest false above empty more sound =
      show-empty place rest 1 24 empty more sound

  page_shows_placed_lines : (lines : List (List ℕ)) (number depth : ℕ) (under : Bool)
      → Show 1 24 (placed_lines_from items number depth under lines)
  page_shows_placed_lines [] number depth under = λ none. rows-none items jc row_shift 1 24
  page_shows_placed_lines (line ∷ lines) number depth under =
      elim (cases_lt row_shift depth) [
        | inl below ↦
            rows_show_placed_lines (line ∷ lines) 24 number depth 1 under refl
            (omega (arith, below))
        | inr above ↦
            placing_splits_by_line items number depth under line lines (Show 1 24)
            (takes_no_row items line) refl
            (λ is. page_shows_placed_lines lines (number + 1) depth under)
            (λ is. page-empty (placed_line_of number depth under line)
            (following items number depth line lines) (has_cells line) above refl
            (page_shows_placed_lines lines (number + 1) (depth + pitch items)
            (has_double_height line)))
      ]

-- The lines that take a row have the printable characters of all lines.
printed_part-placed : (items : LayoutItems) (number depth : ℕ) (under : Bool)
    (lines : List (List ℕ))
    → printed_lines (cells_of (placed_lines_from items number depth under lines)) ≡ printed_lines
    lines
printed_part-placed items number depth under [] = refl
printed_part-placed items number depth under (line ∷ lines) =
    placing_splits_by_line items number depth under line lines
    (λ taken. printed_lines (cells_of taken) ≡ printed_lines (line ∷ lines))
    (takes_no_row items line) refl
    (λ is. printed_part-placed items (number + 1) depth under lines
    ∙ sym (printed_lines-empty line lines (skipped_line_has_no_cells items line is)))
    (λ is. printed_lines-cons line _ (printed_part line) refl
    ∙ ap (λ more. filter has_cells (printed_part line ∷ []) ++ more)
    (printed_part-placed items (number + 1) (depth + pitch items)
    (has_double_height line) lines)
    ∙ sym (printed_lines-cons line lines (printed_part line) refl))

-- A layout does not change the printable characters of a line.
printed_part-lines : (items : LayoutItems) (lines : List (List ℕ))
    → printed_lines (map (prepared_by_layout items) lines) ≡ printed_lines lines
printed_part-lines items [] = refl
printed_part-lines items (line ∷ lines) =
    printed_lines-cons (prepared_by_layout items line) _ (printed_part line)
    (printed_part-prepared items line)
    ∙ ap (λ more. filter has_cells (printed_part line ∷ []) ++ more) (printed_part-lines items
    lines)
    ∙ sym (printed_lines-cons line lines (printed_part line) refl)

abbrev HavePrintingCodes : List NationalCharacter → Type 0
HavePrintingCodes characters =
    AllByRecursion (λ (c : NationalCharacter). (0x20 < c.byte) × (c.byte ≢ 0x80)) characters

have_printing_codes : (n : National) → HavePrintingCodes (sub_set n).characters
unfolding sub_set
have_printing_codes n = grind (arith, nat_tests)

low_byte_has_no_cell : (characters : List NationalCharacter) (mark : Option ℕ) (byte : ℕ)
    → HavePrintingCodes characters
    → (byte ≤ 0x20) ⊎ (byte ≡ 0x80)
    → cell_of_character characters mark byte ≡ None
unfolding is_encoded_by
low_byte_has_no_cell [] mark byte h other = refl
low_byte_has_no_cell (c ∷ characters) mark byte h other =
    grind (arith, nat_tests, low_byte_has_no_cell characters mark byte h.1 other)

abbrev printing_code_of : TextCode → List ℕ
printing_code_of (Cell code) = filter is_printable_cell (code ∷ [])
printing_code_of _ = []

printing_codes-first : (code : ℕ) (lines : List (List ℕ))
    → printing_codes (onto_first code lines) ≡ filter is_printable_cell (code ∷ []) ++
    printing_codes lines
printing_codes-first code [] = grind (arith, nat_tests)
printing_codes-first code (line ∷ lines) = grind (arith, nat_tests)

printing_codes-code : (code : TextCode) (lines : List (List ℕ))
    → printing_codes (lines_with_code code lines) ≡ printing_code_of code ++ printing_codes lines
printing_codes-code code lines = grind (arith, nat_tests, printing_codes-first)

abbrev PrintTheSameCode : TextCode × ℕ → TextCode × ℕ → Type 0
PrintTheSameCode a b = (printing_code_of a.0 ≡ printing_code_of b.0) × (a.1 ≡ b.1)

control_byte_has_no_code : (n : National) (byte : ℕ) (bytes : List ℕ)
    → (byte < 0x20) ⊎ (byte ≡ 0x80)
    → PrintTheSameCode (code_and_extra_bytes n byte bytes) (NoCell, 0)
unfolding cell_of cell_of_pair code_without_cell is_common
control_byte_has_no_code n byte bytes low = grind (
  arith,
  nat_tests,
  low_byte_has_no_cell,
  have_printing_codes,
)

stripping_keeps_pairs : (items : LayoutItems) (n : National) (byte : ℕ) (bytes : List ℕ)
    → cell_of_pair n byte (first_of (text_after_strip items bytes))
    ≡ cell_of_pair n byte (first_of bytes)
unfolding cell_of_pair
stripping_keeps_pairs items n byte bytes = grind (
  arith,
  nat_tests,
  low_byte_has_no_cell,
  have_printing_codes,
)

stripping_keeps_printing_codes-by : (items : LayoutItems) (n : National) (byte : ℕ) (bytes : List ℕ)
    (b : Bool)
    → strips_byte items byte ≡ b
    → PrintTheSameCode
    (code_and_extra_bytes n (if strips_byte items byte then 0x80 else byte)
    (text_after_strip items bytes))
    (code_and_extra_bytes n byte bytes)
stripping_keeps_printing_codes-by items n byte bytes true is =
    let own = control_byte_has_no_code n byte bytes (inl (grind (arith, nat_tests))) in
    let other = control_byte_has_no_code n 0x80 (text_after_strip items bytes) (inr refl) in
    rw is (other.0 ∙ sym own.0, other.1 ∙ sym own.1)
stripping_keeps_printing_codes-by items n byte bytes false is = rw (
  is,
  stripping_keeps_pairs items
      n byte bytes,
) (refl, refl)

stripping_keeps_printing_codes : (items : LayoutItems) (n : National) (byte : ℕ) (bytes : List ℕ)
    → PrintTheSameCode
    (code_and_extra_bytes n (if strips_byte items byte then 0x80 else byte)
    (text_after_strip items bytes))
    (code_and_extra_bytes n byte bytes)
stripping_keeps_printing_codes items n byte bytes = stripping_keeps_printing_codes-by items n byte
    bytes (strips_byte items byte) refl

printing_codes-kept : (items : LayoutItems) (n : National) (place taken : ℕ) (bytes : List ℕ)
    → printing_codes (lines_of_codes
    (text_codes_after_skip n place taken (text_after_strip items bytes)))
    ≡ printing_codes (lines_of_codes (text_codes_after_skip n place taken bytes))
printing_codes-kept items n place taken [] = refl
printing_codes-kept items n place (suc taken) (byte ∷ bytes) =
    printing_codes-kept items n (place + 1) taken bytes
printing_codes-kept items n place zero (byte ∷ bytes) =
    let alike = stripping_keeps_printing_codes items n byte bytes in
    printing_codes-code
    (code_and_extra_bytes n (if strips_byte items byte then 0x80 else byte)
    (text_after_strip items bytes)).0
    (lines_of_codes (text_codes_after_skip n (place + 1)
    (code_and_extra_bytes n (if strips_byte items byte then 0x80 else byte)
    (text_after_strip items bytes)).1
    (text_after_strip items bytes)))
    ∙ ap (λ own. own ++ printing_codes (lines_of_codes (text_codes_after_skip n (place + 1)
    (code_and_extra_bytes n (if strips_byte items byte then 0x80 else byte)
    (text_after_strip items bytes)).1
    (text_after_strip items bytes)))) alike.0
    ∙ ap (λ more. printing_code_of (code_and_extra_bytes n byte bytes).0 ++ more)
    (ap (λ k. printing_codes
    (lines_of_codes (text_codes_after_skip n (place + 1) k (text_after_strip items bytes))))
    alike.1
    ∙ printing_codes-kept items n (place + 1) (code_and_extra_bytes n byte bytes).1 bytes)
    ∙ sym (printing_codes-code (code_and_extra_bytes n byte bytes).0
    (lines_of_codes (text_codes_after_skip n (place + 1) (code_and_extra_bytes n byte bytes).1
    bytes)))

-- A drawn page has the same printable characters as the lines of the subtitle's text.
printed_part-drawn : (national : National) (items : LayoutItems) (t : SubtitleValue) (page : Rows)
    → drawn_by national items t ≡ Ok page
    → printed_lines page ≡ printed_lines (lines_of_codes (codes_by_layout national items t.text))
unfolding page_of_placed
printed_part-drawn national items t page e =
    let is = drawn_by-lines national items t page e in
    let lines = lines_by_layout national items t.text in
    let row_shift = shift_of_subtitle national items t in
    let first = first_depth items t.vp in
    ap printed_lines is.1
    ∙ page_shows_placed_lines items t.jc row_shift lines 0 first false is.0
    ∙ printed_part-placed items 0 first false lines
    ∙ printed_part-lines items (lines_of_codes (codes_by_layout national items t.text))

pub drawing_keeps_printing_codes : LawOfPrintingCodes
unfolding drawn
drawing_keeps_printing_codes national layout t page e =
    let items = items_of_layout layout in
    let lines = printed_part-drawn national items t page e in
    record {
      printing_codes =
          sym (printing_codes-lines page)
          ∙ ap printing_codes lines
          ∙ printing_codes-lines (lines_of_codes (codes_by_layout national items t.text))
          ∙ printing_codes-kept items national 0 0 t.text;
      lines = lines;
    }
