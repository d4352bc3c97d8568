-- The drawn page of a subtitle, given a national option and a layout, or the first fault of drawing
-- the subtitle.
use Rattle.std.specs.Prelude.{◌≡◌, ◌≤◌, ℕ, ◌+◌, Bool, false, not, ◌&&◌, List, [], ◌∷◌, ◌++◌, Result}
use Rattle.std.specs.Prelude.{◌==◌}
use Rattle.std.specs.Prelude.{nat_lt, nat_le, if◌then◌else◌, map, length}
use Rattle.std.specs.List.{find, range_with_len}
use Rattle.std.specs.Option.{option_map_or}
use Rattle.ttx_page.specs.Page.{Rows, blank_row}
use Rattle.stl_file.specs.Subtitle.{SubtitleValue}
use Rattle.stl_rows.specs.declared.layout.Drawing.{Drawing}
use Rattle.stl_rows.specs.declared.layout.LayoutItems.{LayoutItems}
use Rattle.stl_rows.specs.declared.national.National.{National}
use Rattle.stl_rows.specs.declared.text_code.TextCode.{TextCode}
use Rattle.stl_rows.specs.declared.fault.RowFault.{RowFault}
use Rattle.stl_rows.specs.declared.fault.RowFaultKind.{RowFaultKind}
use Rattle.stl_rows.specs.declared.fault.RowFaultKind.TheVariants.{RowTooLong, PastBottom}
use Rattle.stl_rows.specs.declared.fault.RowFaultKind.TheVariants.{DoubleRow, Hidden}
use Rattle.stl_rows.specs.Layout.{default_layout, drawing_by, items_of_layout, strips_byte}
use Rattle.stl_rows.specs.Line.{columns, has_cells, has_double_height}
use Rattle.stl_rows.specs.PlainPage.{last_row, drawn_plainly, value_unless_error, fault_if}
use Rattle.stl_rows.specs.PreparedLine.{prepared_by_layout, row_starting_at, start_column_by_layout}
use Rattle.stl_rows.specs.TextCode.{fault_of, lines_of_codes, faults_of_codes, text_codes}

-- ---- the lines of a subtitle's text

-- The text with each byte that the layout item `strip` names replaced by 80, a byte without a cell.
abbrev pub text_after_strip : LayoutItems → List ℕ → List ℕ
text_after_strip items text = map (λ byte. if strips_byte items byte then 0x80 else byte) text

-- The text codes of a text, after `strip`.
abbrev pub codes_by_layout : National → LayoutItems → List ℕ → List (ℕ × TextCode)
codes_by_layout national items text = text_codes national 0 (text_after_strip items text)

-- The lines of a text, prepared by the layout.
abbrev pub lines_by_layout : National → LayoutItems → List ℕ → List (List ℕ)
lines_by_layout national items text =
    map (prepared_by_layout items) (lines_of_codes (codes_by_layout national items text))

-- ---- the rows of a subtitle's lines

-- A prepared line that takes a row: the number of the line among all lines; `depth`, the row before
-- the shift of all lines; whether the line directly above has double height, so may hide this line;
-- and the cells.
pub record PlacedLine : Type 0 where
  pub number : ℕ
  pub depth : ℕ
  pub is_below_double_height : Bool
  pub cells : List ℕ

-- The layout item `double`: the distance in rows of two successive lines that take a row, 2 or 1.
abbrev pub pitch : LayoutItems → ℕ
pitch items = if items.double then 2 else 1

-- The layout item `pack`: the line takes no row, because it is empty.
abbrev pub takes_no_row : LayoutItems → List ℕ → Bool
takes_no_row items line = items.pack && not (has_cells line)

-- The lines that take a row, with their positions. The first line has this number and depth.
abbrev pub placed_lines_from : LayoutItems → ℕ → ℕ → Bool → List (List ℕ) → List PlacedLine
placed_lines_from items number depth is_below_double_height [] = []
placed_lines_from items number depth is_below_double_height (line ∷ lines) =
    if takes_no_row items line
    then placed_lines_from items (number + 1) depth is_below_double_height lines
    else record {
      number = number;
      depth = depth;
      is_below_double_height = is_below_double_height;
      cells = line;
    } ∷ placed_lines_from items (number + 1) (depth + pitch items) (has_double_height line) lines

-- The depth of the last line that is not empty, if the first line has this depth; `other` if all
-- lines are empty.
abbrev pub last_depth : LayoutItems → ℕ → ℕ → List (List ℕ) → ℕ
last_depth items depth other [] = other
last_depth items depth other (line ∷ lines) =
    if has_cells line
    then last_depth items (depth + pitch items) depth lines
    else last_depth items (if items.pack then depth else depth + pitch items) other lines

-- The layout item `row`: the depth of line 0, its row before the shift, which is VP plus the rows
-- that all lines are moved down.
abbrev pub first_depth : LayoutItems → ℕ → ℕ
first_depth items vp = vp + items.rows_down

-- The layout items `row` and `last`: the number of rows to subtract from each line's depth. With
-- `last`, the last line that is not empty gets the row that line 0 would have.
abbrev pub shift_of_lines : LayoutItems → List (List ℕ) → ℕ
shift_of_lines items lines = items.rows_up + (if items.last then last_depth items 0 0 lines else 0)

-- The lines of a subtitle that take a row, with their positions.
abbrev pub placed_lines : LayoutItems → ℕ → List (List ℕ) → List PlacedLine
placed_lines items vp lines = placed_lines_from items 0 (first_depth items vp) false lines

-- ---- the faults of drawing a subtitle

-- After subtracting `row_shift`, the row of the line is 1 to 23.
abbrev pub is_on_page : ℕ → PlacedLine → Bool
is_on_page row_shift line = nat_lt row_shift line.depth && nat_le line.depth (row_shift + last_row)

-- The faults of a line, in the order of reports.
unfoldable pub placed_fault_kinds : LayoutItems → ℕ → PlacedLine → List RowFaultKind
placed_fault_kinds items row_shift line =
    fault_if (nat_lt columns (length line.cells)) RowTooLong
    ++ fault_if (has_cells line.cells && not (is_on_page row_shift line)) PastBottom
    ++ fault_if (has_double_height line.cells && (line.depth == row_shift + last_row)) DoubleRow
    ++ fault_if (has_cells line.cells && line.is_below_double_height && not items.double) Hidden

-- The faults of all lines, line by line.
abbrev pub placed_faults : LayoutItems → ℕ → List PlacedLine → List RowFault
placed_faults items row_shift [] = []
placed_faults items row_shift (line ∷ lines) =
    map (fault_of line.number) (placed_fault_kinds items row_shift line) ++ placed_faults items
    row_shift lines

-- ---- the page of a subtitle

-- The line is not empty, and its row on the page, after subtracting the shift `row_shift`, is
-- `row`.
abbrev pub is_on_row : ℕ → ℕ → PlacedLine → Bool
is_on_row row_shift row line = has_cells line.cells && (line.depth == row_shift + row)

-- The 40 codes of a row: the cells of the line in this row with spaces around them, or only spaces
-- if no line is in the row.
abbrev pub shown_row : LayoutItems → ℕ → ℕ → List PlacedLine → ℕ → List ℕ
shown_row items jc row_shift lines row =
    option_map_or (λ (line : PlacedLine). row_starting_at (start_column_by_layout items jc
    line.cells) line.cells)
    (find (is_on_row row_shift row) lines) blank_row

-- The page that shows the lines: 24 rows.
unfoldable pub page_of_placed : LayoutItems → ℕ → ℕ → List PlacedLine → Rows
page_of_placed items jc row_shift lines = map (shown_row items jc row_shift lines)
    (range_with_len 1 24)

-- The drawn page of a subtitle with the items of a layout, or the first fault: faults of the text
-- come first, by byte, then faults of the lines, by line.
unfoldable pub drawn_by : National → LayoutItems → SubtitleValue → Result Rows RowFault
drawn_by national items t =
    let codes : List (ℕ × TextCode) = codes_by_layout national items t.text in
    let lines : List (List ℕ) = lines_by_layout national items t.text in
    let row_shift : ℕ = shift_of_lines items lines in
    let taken : List PlacedLine = placed_lines items t.vp lines in
    value_unless_error (faults_of_codes codes ++ placed_faults items row_shift taken)
    (page_of_placed items t.jc row_shift taken)

-- The drawn page of a subtitle with a national option and a layout, or the first fault of drawing
-- the subtitle.
unfoldable pub drawn : Drawing → SubtitleValue → Result Rows RowFault
drawn drawing t = drawn_by drawing.national (items_of_layout drawing.layout) t

-- If VP is at least 1, the default layout draws a subtitle plainly, or gives the same first fault:
-- each line is one row below the line before, and gets a box if it has cells but no start box. So a
-- layout changes nothing if each of its items has the default value.
abbrev pub LawOfDefaultLayout : Type 0
LawOfDefaultLayout =
    (national : National) (t : SubtitleValue)
    → 1 ≤ t.vp
    → drawn (drawing_by national default_layout) t ≡ drawn_plainly national t
