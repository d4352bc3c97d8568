-- The drawn page of a valid subtitle with the default layout, or the first fault of drawing: each
-- line is one row below the line before, and gets a box if it has cells but no start box.
use Rattle.std.specs.Prelude.{ℕ, ◌+◌, ◌-◌, Bool, false, ◌&&◌, List, [], ◌∷◌, ◌++◌, Result, Ok, Err}
use Rattle.std.specs.Prelude.{◌==◌, nat_lt, if◌then◌else◌, map, length, slice_index_or}
use Rattle.std.specs.List.{range_with_len}
use Rattle.ttx_page.specs.Page.{Rows}
use Rattle.stl_file.specs.Subtitle.{SubtitleValue}
use Rattle.stl_rows.specs.declared.national.National.{National}
use Rattle.stl_rows.specs.declared.fault.RowFault.{RowFault}
use Rattle.stl_rows.specs.declared.fault.RowFaultKind.{RowFaultKind}
use Rattle.stl_rows.specs.declared.fault.RowFaultKind.TheVariants.{RowTooLong, PastBottom}
use Rattle.stl_rows.specs.declared.fault.RowFaultKind.TheVariants.{DoubleRow, Hidden}
use Rattle.stl_rows.specs.TextCode.{text_codes, faults_of_codes, lines_of_codes, fault_of}
use Rattle.stl_rows.specs.Line.{columns, has_cells, has_double_height, boxed_line, row_of}

-- The last row that a subtitle may use, 23: row 24 stays blank.
abbrev pub last_row : ℕ
last_row = 23

-- The lines of a subtitle's text, in their prepared form.
abbrev pub lines : National → SubtitleValue → List (List ℕ)
lines national t = map boxed_line (lines_of_codes (text_codes national 0 t.text))

-- ---- the faults of drawing a subtitle plainly

-- A list with the fault of this kind if the condition holds; otherwise an empty list.
abbrev pub fault_if : Bool → RowFaultKind → List RowFaultKind
fault_if b kind = if b then kind ∷ [] else []

-- The faults of a prepared line, in the order of reports, given the row and whether the line
-- directly above has double height.
unfoldable pub line_fault_kinds : ℕ → Bool → List ℕ → List RowFaultKind
line_fault_kinds row is_below_double_height line =
    fault_if (nat_lt columns (length line)) RowTooLong
    ++ fault_if (has_cells line && nat_lt last_row row) PastBottom
    ++ fault_if (has_double_height line && (row == last_row)) DoubleRow
    ++ fault_if (has_cells line && is_below_double_height) Hidden

-- The faults of all lines. The first line has this number and row, and each further line is one row
-- lower.
abbrev pub line_faults : ℕ → ℕ → Bool → List (List ℕ) → List RowFault
line_faults number row is_below_double_height [] = []
line_faults number row is_below_double_height (line ∷ lines) =
    map (fault_of number) (line_fault_kinds row is_below_double_height line)
    ++ line_faults (number + 1) (row + 1) (has_double_height line) lines

-- All faults of drawing a subtitle plainly, in the order of reports: faults of the text by byte,
-- then faults of the lines by line.
abbrev pub plain_drawing_faults : National → SubtitleValue → List RowFault
plain_drawing_faults national t =
    faults_of_codes (text_codes national 0 t.text) ++ line_faults 0 t.vp false (lines national t)

-- ---- the plainly drawn page of a subtitle

-- The line shown in a row, if line 0 is in row VP; an empty line if the row has none.
abbrev pub line_in_row : ℕ → List (List ℕ) → ℕ → List ℕ
line_in_row vp lines row = if nat_lt row vp then [] else slice_index_or lines (row - vp) []

-- The page that shows the lines: 24 rows, with line 0 in row VP.
unfoldable pub page_of_lines : ℕ → ℕ → List (List ℕ) → Rows
page_of_lines jc vp lines = map (λ row. row_of jc (line_in_row vp lines row)) (range_with_len 1 24)

-- The value if the list of faults is empty; otherwise the first fault.
abbrev pub value_unless_error : {A E : Type 0} → List E → A → Result A E
value_unless_error [] value = Ok value
value_unless_error (e ∷ es) value = Err e

-- The plainly drawn page of a subtitle, or the first fault of drawing the subtitle.
unfoldable pub drawn_plainly : National → SubtitleValue → Result Rows RowFault
drawn_plainly national t =
    value_unless_error (plain_drawing_faults national t)
    (page_of_lines t.jc t.vp (lines national t))
