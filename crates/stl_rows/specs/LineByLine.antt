-- The steps in which the code draws the lines of a text by the default layout, one line at a time,
-- and the properties of a line that decide its faults. No public clause uses this file.
use Rattle.std.specs.Prelude.{ℕ, ◌+◌, ◌-◌, ◌<◌, ◌≤◌, Bool, false, ◌&&◌, ◌||◌, List, [], ◌∷◌}
use Rattle.std.specs.Prelude.{◌++◌, Option, Some, ◌==◌, nat_lt, if◌then◌else◌, length, map}
use Rattle.std.specs.Prelude.{slice_set}
use Rattle.std.specs.Option.{option_or}
use Rattle.std.specs.List.{onto_first}
use Rattle.ttx_page.specs.Page.{Rows}
use Rattle.stl_rows.specs.declared.fault.RowFault.{RowFault}
use Rattle.stl_rows.specs.declared.fault.RowFaultKind.{RowFaultKind}
use Rattle.stl_rows.specs.declared.fault.RowFaultKind.TheVariants.{RowTooLong, PastBottom}
use Rattle.stl_rows.specs.declared.fault.RowFaultKind.TheVariants.{DoubleRow, Hidden}
use Rattle.stl_rows.specs.declared.text_code.TextCode.{TextCode}
use Rattle.stl_rows.specs.declared.text_code.TextCode.TheVariants.{Cell, NoCell, NewLine, Refused}
use Rattle.stl_rows.specs.declared.text_faults.OpenLine.{OpenLine}
use Rattle.stl_rows.specs.TextCode.{fault_of, first_of, lines_of_codes}
use Rattle.stl_rows.specs.Line.{columns, double_height, boxed_line, row_of}
use Rattle.stl_rows.specs.Line.{start_box}
use Rattle.stl_rows.specs.PlainPage.{last_row, fault_if}

-- ---- the lines of a text, read cell by cell

-- Puts cells in front of the first line in a list of lines.
abbrev pub cells_onto_lines : List ℕ → List (List ℕ) → List (List ℕ)
cells_onto_lines [] lines = lines
cells_onto_lines (c ∷ cells) lines = onto_first c (cells_onto_lines cells lines)

-- The prepared lines of text codes, if the first cells of the first line, `cells`, were already
-- read.
abbrev pub prepared_lines : List ℕ → List (ℕ × TextCode) → List (List ℕ)
prepared_lines cells codes = map boxed_line (cells_onto_lines cells (lines_of_codes codes))

-- The page after drawing a line in a row. An empty line changes nothing.
abbrev pub draw_line : ℕ → ℕ → List ℕ → Rows → Rows
draw_line jc row cells page =
    if nat_lt 0 (length cells) then slice_set page (row - 1) (row_of jc (boxed_line cells))
    else page

-- The line fits in the row: the prepared line has at most 40 cells, and the row is 1 to 23. An
-- empty line fits in any row from 1 on.
pub record FitsRow (row : ℕ) (cells : List ℕ) : Type 0 where
  pub first : 1 ≤ row
  pub last : 0 < length cells → row ≤ last_row
  pub few : length (boxed_line cells) ≤ columns

-- ---- the faults of a line, from its properties

-- The properties of a line after one more cell.
abbrev pub with_cell : OpenLine → ℕ → OpenLine
with_cell line code =
    record line {
      len = line.len + 1;
      has_start_box_code = line.has_start_box_code || (code == start_box);
      has_double_height = line.has_double_height || (code == double_height);
    }

-- The properties of a line that has no cells yet.
abbrev pub empty_line : ℕ → ℕ → Bool → OpenLine
empty_line number row is_below_double_height =
    record {
      number = number;
      row = row;
      is_below_double_height = is_below_double_height;
      len = 0;
      has_start_box_code = false;
      has_double_height = false;
    }

-- The properties of the next line, which has no cells yet.
abbrev pub next_empty_line : OpenLine → OpenLine
next_empty_line line = empty_line (line.number + 1) (line.row + 1) line.has_double_height

-- The faults of a line, in the order of reports. A line with cells but no start box gets two codes
-- on each side.
unfoldable pub shape_fault_kinds : OpenLine → List RowFaultKind
shape_fault_kinds line =
    fault_if (nat_lt columns (if line.has_start_box_code then line.len else line.len + 4))
    RowTooLong
    ++ fault_if (nat_lt 0 line.len && nat_lt last_row line.row) PastBottom
    ++ fault_if (line.has_double_height && (line.row == last_row)) DoubleRow
    ++ fault_if (nat_lt 0 line.len && line.is_below_double_height) Hidden

-- The fault found before the line, or else the first fault of the line.
abbrev pub first_fault_up_to_line : Option RowFault → OpenLine → Option RowFault
first_fault_up_to_line before line =
    option_or before (first_of (map (fault_of line.number) (shape_fault_kinds line)))

-- The first fault, given one text code of the current line and the rest of the text as a function
-- `next`.
abbrev pub fault_after_code : ℕ → TextCode → Option RowFault → OpenLine
    → (Option RowFault → OpenLine → Option RowFault) → Option RowFault
fault_after_code at (Cell code) before line next = next before (with_cell line code)
fault_after_code at NoCell before line next = next before line
fault_after_code at NewLine before line next = next (first_fault_up_to_line before line)
    (next_empty_line line)
fault_after_code at (Refused kind) before line next = Some (fault_of at kind)

-- The first fault of a text, given a fault found before, if any, the properties of the current
-- line, and the text codes left.
abbrev pub first_fault_of_codes : Option RowFault → OpenLine → List (ℕ × TextCode) → Option RowFault
first_fault_of_codes before line [] = first_fault_up_to_line before line
first_fault_of_codes before line (c ∷ codes) =
    fault_after_code c.0 c.1 before line (λ f l. first_fault_of_codes f l codes)
