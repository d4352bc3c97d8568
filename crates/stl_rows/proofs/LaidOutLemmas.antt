-- Drawing lines by a layout, one after another, gives the page that shows the lines, or their first
-- fault. The lines of a drawn page have no fault.
use Rattle.std.proofs.Common.{◌≡◌, ℕ, ◌+◌, ◌-◌, ◌<◌, ◌≤◌, Bool, true, false, List, [], ◌∷◌}
use Rattle.std.proofs.Common.{length, map, get_or, refl, sym, ap, ◌∙◌, arith}
use Rattle.std.proofs.Common.{None, Result, Ok, Err}
use Rattle.std.proofs.lemmas.Bool.Decides.{nat_tests}
use Rattle.std.proofs.lemmas.List.{ext_get_or, get_or-replicate, get_or-set_other, length-set}
use Rattle.std.proofs.lemmas.List.{get_or-set_same}
use Rattle.std.proofs.lemmas.List.FromFn.{get_or-map-range_with_len, length-map-range_with_len}
use Rattle.std.specs.List.{find, range_with_len}
use Rattle.std.specs.Option.{option_map_or}
use Rattle.ttx_page.specs.Page.{Rows, blank, blank_row, row_at}
use Rattle.stl_file.specs.Subtitle.{SubtitleValue}
use Rattle.stl_rows.specs.declared.fault.RowFault.{RowFault}
use Rattle.stl_rows.specs.declared.fault.RowFaultKind.{RowFaultKind}
use Rattle.stl_rows.specs.declared.layout_drawing.Place.{Place}
use Rattle.stl_rows.specs.declared.layout.LayoutItems.{LayoutItems}
use Rattle.stl_rows.specs.declared.national.National.{National}
use Rattle.stl_rows.specs.DrawnPage.{PlacedLine, drawn_by, is_on_row, lines_by_layout}
use Rattle.stl_rows.specs.DrawnPage.{page_of_placed, pitch, placed_lines_from, placed_fault_kinds}
use Rattle.stl_rows.specs.DrawnPage.{placed_faults, placed_lines, shift_of_lines, shown_row}
use Rattle.stl_rows.specs.DrawnPage.{takes_no_row}
use Rattle.stl_rows.specs.Line.{has_cells, has_double_height}
use Rattle.stl_rows.specs.LineByLayout.{drawn_from_place, line_fault_at, placed_line_at}
use Rattle.stl_rows.specs.LineByLayout.{page_with_line, next_place}
use Rattle.stl_rows.specs.PlainPage.{value_unless_error}
use Rattle.stl_rows.specs.PreparedLine.{row_starting_at, start_column_by_layout}
use Rattle.stl_rows.specs.TextCode.{fault_of, first_of}
use Rattle.stl_rows.proofs.FaultlessLemmas.{empty_append_has_empty_parts, empty_map_has_empty_list}

pub no_line_above_first : (items : LayoutItems) (row_shift row number depth : ℕ) (under : Bool)
    (lines : List (List ℕ))
    → row_shift + row < depth
    → find (is_on_row row_shift row) (placed_lines_from items number depth under lines) ≡ None
no_line_above_first items row_shift row number depth under [] low = refl
no_line_above_first items row_shift row number depth under (line ∷ lines) low =
    grind (
      arith,
      nat_tests,
      no_line_above_first items row_shift row (number + 1) depth under lines,
      no_line_above_first items row_shift row (number + 1) (depth + pitch items)
          (has_double_height line) lines,
    )

abbrev row_drawn_over : LayoutItems → ℕ → ℕ → Rows → List PlacedLine → ℕ → List ℕ
row_drawn_over items jc row_shift page lines row =
    option_map_or (λ (line : PlacedLine). row_starting_at (start_column_by_layout items jc
    line.cells) line.cells)
    (find (is_on_row row_shift row) lines) (row_at page row)

abbrev page_drawn_over : LayoutItems → ℕ → ℕ → Rows → List PlacedLine → Rows
page_drawn_over items jc row_shift page lines =
    map (row_drawn_over items jc row_shift page lines) (range_with_len 1 24)

equal_rows_make_equal_pages : (f g : ℕ → List ℕ)
    → ((row : ℕ) → 1 ≤ row → row ≤ 24 → f row ≡ g row)
    → map f (range_with_len 1 24) ≡ map g (range_with_len 1 24)
equal_rows_make_equal_pages f g h =
    grind (arith, nat_tests, ext_get_or, length-map-range_with_len, get_or-map-range_with_len)

page_consists_of_its_rows : (page : Rows) → length page ≡ 24 → page ≡ map (row_at page)
    (range_with_len 1 24)
page_consists_of_its_rows page long =
    ext_get_or [] page (map (row_at page) (range_with_len 1 24))
    (long ∙ sym (length-map-range_with_len (row_at page) 1 24)) (λ k l.
    ap (λ at. get_or page at []) (at_row k)
    ∙ sym (get_or-map-range_with_len (row_at page) 1 24 k (k + 1) [] (omega (arith, l, long))
    (omega arith)))
  where
    at_row : (k : ℕ) → k ≡ k + 1 - 1
    at_row k = omega arith

-- A line that has cells and no fault is drawn in a row from 1 to 23.
pub faultless_lines_are_on_page : (items : LayoutItems) (row_shift : ℕ) (line : PlacedLine)
    → placed_fault_kinds items row_shift line ≡ []
    → has_cells line.cells ≡ true
    → (row_shift < line.depth) × (line.depth ≤ row_shift + 23)
unfolding placed_fault_kinds
faultless_lines_are_on_page items row_shift line none some = grind (arith, nat_tests)

drawing_line_adds_its_row : (items : LayoutItems) (jc row_shift : ℕ) (place : Place) (line : List ℕ)
    (page : Rows)
    (rest : List PlacedLine) (row : ℕ)
    → length page ≡ 24
    → placed_fault_kinds items row_shift (placed_line_at place line) ≡ []
    → (row_shift + row ≡ place.depth → find (is_on_row row_shift row) rest ≡ None)
    → 1 ≤ row
    → row ≤ 24
    → row_drawn_over items jc row_shift (page_with_line items jc row_shift place line page) rest row
    ≡ row_drawn_over items jc row_shift page (placed_line_at place line ∷ rest) row
unfolding page_with_line
drawing_line_adds_its_row items jc row_shift place line page rest row long none above low high =
    grind (arith, nat_tests, faultless_lines_are_on_page, get_or-set_same, get_or-set_other)

module _ (items : LayoutItems) (jc row_shift : ℕ) (place : Place) (line : List ℕ) (page : Rows)
  where
    skipped : takes_no_row items line ≡ true
        → (line_fault_at items row_shift place line ≡ None)
        × (next_place items place line ≡ record place { number = place.number + 1 })
        × (page_with_line items jc row_shift place line page ≡ page)
    unfolding line_fault_at next_place page_with_line
    skipped none = grind (arith, nat_tests)

    taken : takes_no_row items line ≡ false
        → (line_fault_at items row_shift place line
        ≡ first_of (map (fault_of place.number)
        (placed_fault_kinds items row_shift (placed_line_at place line))))
        × (next_place items place line ≡ record {
          number = place.number + 1;
          depth = place.depth + pitch items;
          is_below_double_height = has_double_height line;
        })
    unfolding line_fault_at next_place
    taken some = grind (arith, nat_tests)

    drawing_keeps_page_length : length page ≡ 24 → length (page_with_line items jc row_shift place
        line page) ≡ 24
    unfolding page_with_line
    drawing_keeps_page_length long = grind (arith, nat_tests, length-set)

abbrev placed_lines_at : LayoutItems → Place → List (List ℕ) → List PlacedLine
placed_lines_at items place lines =
    placed_lines_from items place.number place.depth place.is_below_double_height lines

abbrev result_drawn_over : LayoutItems → ℕ → ℕ → Rows → List PlacedLine → Result Rows RowFault
result_drawn_over items jc row_shift page lines =
    value_unless_error (placed_faults items row_shift lines) (page_drawn_over items jc row_shift
    page lines)

line_faults_decide_drawing : (items : LayoutItems) (jc row_shift : ℕ) (place : Place)
    (line : List ℕ) (page : Rows)
    (rest : List PlacedLine) (kinds : List RowFaultKind) (drawn : Result Rows RowFault)
    → length page ≡ 24
    → placed_fault_kinds items row_shift (placed_line_at place line) ≡ kinds
    → drawn ≡ result_drawn_over items jc row_shift (page_with_line items jc row_shift place line
    page) rest
    → ((row : ℕ) → row_shift + row ≡ place.depth → find (is_on_row row_shift row) rest ≡ None)
    → option_map_or Err (first_of (map (fault_of place.number) kinds)) drawn
    ≡ result_drawn_over items jc row_shift page (placed_line_at place line ∷ rest)
line_faults_decide_drawing items jc row_shift place line page rest [] drawn long none is above =
    grind (arith, nat_tests, equal_rows_make_equal_pages, drawing_line_adds_its_row)
line_faults_decide_drawing items jc row_shift place line page rest (k ∷ ks) drawn long some is
    above =
    grind (arith, nat_tests)

drawn_from_place-step : (items : LayoutItems) (jc row_shift : ℕ) (place : Place) (page : Rows)
    (line : List ℕ) (lines : List (List ℕ)) (none : Bool)
    → length page ≡ 24
    → takes_no_row items line ≡ none
    → ((place : Place) (page : Rows) → length page ≡ 24
    → drawn_from_place items jc row_shift place page lines
    ≡ result_drawn_over items jc row_shift page (placed_lines_at items place lines))
    → option_map_or Err (line_fault_at items row_shift place line)
    (drawn_from_place items jc row_shift (next_place items place line)
    (page_with_line items jc row_shift place line page) lines)
    ≡ result_drawn_over items jc row_shift page (placed_lines_at items place (line ∷ lines))
drawn_from_place-step items jc row_shift place page line lines true long is rest =
    let p = skipped items jc row_shift place line page is in
    rw (p.0, p.1, p.2, is)
    (rest (record place { number = place.number + 1 }) page long)
drawn_from_place-step items jc row_shift place page line lines false long is rest =
    let t = taken items jc row_shift place line page is in
    let next : Place = record {
      number = place.number + 1;
      depth = place.depth + pitch items;
      is_below_double_height = has_double_height line;
    } in
    rw (t.0, t.1, is)
    (line_faults_decide_drawing items jc row_shift place line page (placed_lines_at items next
    lines)
    (placed_fault_kinds items row_shift (placed_line_at place line)) _ long refl
    (rest next (page_with_line items jc row_shift place line page)
    (drawing_keeps_page_length items jc row_shift place line page long))
    (λ row at. no_line_above_first items row_shift row (place.number + 1)
    (place.depth + pitch items)
    (has_double_height line) lines (omega (arith, at, pitch_is_positive))))
  where
    pitch_is_positive : 0 < pitch items
    pitch_is_positive = grind (arith, nat_tests)

-- Drawing lines on a page of 24 rows, from a place on, gives this page with the lines drawn over
-- it, or the first fault of the lines.
drawn_from_place-over : (items : LayoutItems) (jc row_shift : ℕ) (place : Place) (page : Rows)
    (lines : List (List ℕ))
    → length page ≡ 24
    → drawn_from_place items jc row_shift place page lines
    ≡ result_drawn_over items jc row_shift page (placed_lines_at items place lines)
unfolding drawn_from_place
drawn_from_place-over items jc row_shift place page [] long = ap Ok (page_consists_of_its_rows page
    long)
drawn_from_place-over items jc row_shift place page (line ∷ lines) long =
    drawn_from_place-step items jc row_shift place page line lines (takes_no_row items line) long
    refl
    (λ next over h. drawn_from_place-over items jc row_shift next over lines h)

rows_of_blank_are_blank : (row : ℕ) → 1 ≤ row → row ≤ 24 → row_at blank row ≡ blank_row
unfolding blank
rows_of_blank_are_blank row low high = get_or-replicate 24 (row - 1) blank_row []
    (omega (arith, low, high))

blank_page_has_24_rows : length blank ≡ 24
unfolding blank
blank_page_has_24_rows = refl

pub drawn_from_place-is : (items : LayoutItems) (jc row_shift : ℕ) (place : Place)
    (lines : List (List ℕ))
    → drawn_from_place items jc row_shift place blank lines
    ≡ value_unless_error (placed_faults items row_shift (placed_lines_at items place lines))
    (page_of_placed items jc row_shift (placed_lines_at items place lines))
unfolding page_of_placed
drawn_from_place-is items jc row_shift place lines =
    let taken : List PlacedLine = placed_lines_at items place lines in
    drawn_from_place-over items jc row_shift place blank lines blank_page_has_24_rows
    ∙ ap (value_unless_error (placed_faults items row_shift taken))
    (equal_rows_make_equal_pages (row_drawn_over items jc row_shift blank taken)
    (shown_row items jc row_shift taken) (λ row low high.
    ap (option_map_or (λ (line : PlacedLine). row_starting_at (start_column_by_layout items jc
    line.cells) line.cells)
    (find (is_on_row row_shift row) taken)) (rows_of_blank_are_blank row low high)))

-- A line that has cells and no fault fits in a row of the page.
pub accepted_line_fits_page : (items : LayoutItems) (row_shift : ℕ) (place : Place) (line : List ℕ)
    → line_fault_at items row_shift place line ≡ None
    → 0 < length line
    → (row_shift < place.depth) × (place.depth ≤ row_shift + 23) × (length line ≤ 40)
unfolding line_fault_at placed_fault_kinds
accepted_line_fits_page items row_shift place [] sound some = omega (arith, some)
accepted_line_fits_page items row_shift place (c ∷ line) sound some = grind (arith, nat_tests)

ok_result_has_no_errors : {A E : Type 0} (es : List E) (value got : A)
    → value_unless_error es value ≡ Ok got
    → (es ≡ []) × (got ≡ value)
ok_result_has_no_errors [] value got e = (refl, cc)
ok_result_has_no_errors (x ∷ es) value got e = cc

abbrev pub lines_of_subtitle : National → LayoutItems → SubtitleValue → List PlacedLine
lines_of_subtitle national items t = placed_lines items t.vp (lines_by_layout national items t.text)

abbrev pub shift_of_subtitle : National → LayoutItems → SubtitleValue → ℕ
shift_of_subtitle national items t = shift_of_lines items (lines_by_layout national items t.text)

-- If a page is drawn, none of the subtitle's lines has a fault, and the page shows these lines.
pub drawn_by-lines : (national : National) (items : LayoutItems) (t : SubtitleValue) (page : Rows)
    → drawn_by national items t ≡ Ok page
    → (placed_faults items (shift_of_subtitle national items t) (lines_of_subtitle national items t)
    ≡ [])
    × (page ≡ page_of_placed items t.jc (shift_of_subtitle national items t)
    (lines_of_subtitle national items t))
unfolding drawn_by
drawn_by-lines national items t page e = grind (
  arith,
  nat_tests,
  taken,
  ok_result_has_no_errors,
  empty_append_has_empty_parts,
)

-- No line without a fault is drawn in row 24.
pub no_line_in_row_24 : (items : LayoutItems) (row_shift : ℕ) (lines : List PlacedLine)
    → placed_faults items row_shift lines ≡ []
    → find (is_on_row row_shift 24) lines ≡ None
no_line_in_row_24 items row_shift [] none = refl
no_line_in_row_24 items row_shift (line ∷ lines) none =
    let parts = empty_append_has_empty_parts
    (map (fault_of line.number) (placed_fault_kinds items row_shift line))
    (placed_faults items row_shift lines) none in
    let own = empty_map_has_empty_list (fault_of line.number) (placed_fault_kinds items row_shift
    line) parts.0 in
    grind (
      arith,
      nat_tests,
      faultless_lines_are_on_page items row_shift line own,
      no_line_in_row_24
          items row_shift lines parts.1,
    )
