-- The steps in which the code draws the lines of a text by a layout, one line at a time. No public
-- clause uses this file.
use Rattle.std.specs.Prelude.{ℕ, ◌+◌, ◌-◌, ◌<◌, List, [], ◌∷◌, Option, Some, None, Result}
use Rattle.std.specs.Prelude.{Ok, Err, ◌==◌, if◌then◌else◌, map, slice_set}
use Rattle.std.specs.List.{AllByRecursion, filter_map, slice_split}
use Rattle.std.specs.Option.{option_map_or}
use Rattle.ttx_page.specs.Page.{Rows}
use Rattle.stl_rows.specs.declared.fault.RowFault.{RowFault}
use Rattle.stl_rows.specs.declared.layout_drawing.Place.{Place}
use Rattle.stl_rows.specs.declared.layout.LayoutItems.{LayoutItems}
use Rattle.stl_rows.specs.declared.text_code.TextCode.{TextCode}
use Rattle.stl_rows.specs.declared.text_code.TextCode.TheVariants.{Cell, NewLine}
use Rattle.stl_rows.specs.DrawnPage.{PlacedLine, pitch, placed_fault_kinds, takes_no_row}
use Rattle.stl_rows.specs.Line.{has_cells, has_double_height}
use Rattle.stl_rows.specs.PreparedLine.{prepared_by_layout, row_starting_at, start_column_by_layout}
use Rattle.stl_rows.specs.TextCode.{fault_of, first_of, new_line}

-- ---- the cells of a text and its lines

-- The cell of a text code, or 8A for a new line; `None` for any other text code.
abbrev pub cell_or_new_line : TextCode → Option ℕ
cell_or_new_line (Cell code) = Some code
cell_or_new_line NewLine = Some new_line
cell_or_new_line _ = None

-- The cells of text codes, with 8A for each new line.
abbrev pub cells_and_new_lines : List (ℕ × TextCode) → List ℕ
cells_and_new_lines codes = filter_map (λ (c : ℕ × TextCode). cell_or_new_line c.1) codes

-- The lines of cells that new lines (8A) separate: one more than there are new lines.
abbrev pub cut_lines : List ℕ → List (List ℕ)
cut_lines cells = slice_split (λ c. c == new_line) cells

-- All cells of the lines are codes below 128.
abbrev pub HaveSevenBitCells : List (List ℕ) → Type 0
HaveSevenBitCells lines =
    AllByRecursion (λ (line : List ℕ). AllByRecursion (λ (c : ℕ). c < 128) line) lines

-- The lines of cells that new lines separate, prepared by a layout.
abbrev pub prepared_cut_lines : LayoutItems → List ℕ → List (List ℕ)
prepared_cut_lines items cells = map (prepared_by_layout items) (cut_lines cells)

-- ---- drawing lines on a page

-- The line with its position: number, depth, and whether the line above has double height.
abbrev pub placed_line_at : Place → List ℕ → PlacedLine
placed_line_at place line = record {
  number = place.number;
  depth = place.depth;
  is_below_double_height = place.is_below_double_height;
  cells = line;
}

-- The first fault of a line at a position; `None` if the line has no fault or takes no row.
unfoldable pub line_fault_at : LayoutItems → ℕ → Place → List ℕ → Option RowFault
line_fault_at items row_shift place line =
    if takes_no_row items line then None
    else first_of (map (fault_of place.number)
    (placed_fault_kinds items row_shift (placed_line_at place line)))

-- The position of the next line, given the line at `place`.
unfoldable pub next_place : LayoutItems → Place → List ℕ → Place
next_place items place line =
    if takes_no_row items line then record place { number = place.number + 1 }
    else record {
      number = place.number + 1;
      depth = place.depth + pitch items;
      is_below_double_height = has_double_height line;
    }

-- The page after drawing a line at a position. An empty line changes nothing.
unfoldable pub page_with_line : LayoutItems → ℕ → ℕ → Place → List ℕ → Rows → Rows
page_with_line items jc row_shift place line page =
    if has_cells line
    then slice_set page (place.depth - row_shift - 1)
    (row_starting_at (start_column_by_layout items jc line) line)
    else page

-- The page after drawing lines from a position on, or the first fault of the lines.
unfoldable pub drawn_from_place :
    LayoutItems → ℕ → ℕ → Place → Rows → List (List ℕ) → Result Rows RowFault
drawn_from_place items jc row_shift place page [] = Ok page
drawn_from_place items jc row_shift place page (line ∷ lines) =
    option_map_or Err (line_fault_at items row_shift place line)
    (drawn_from_place items jc row_shift (next_place items place line)
    (page_with_line items jc row_shift place line page) lines)
