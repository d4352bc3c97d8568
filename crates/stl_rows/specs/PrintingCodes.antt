-- No layout that draws a text changes its printable characters or their order. Of the cells between
-- two of them in the same row, a layout removes only those that `strip` names.
use Rattle.std.specs.Prelude.{◌≡◌, ℕ, Bool, List, [], ◌∷◌, Ok, if◌then◌else◌, map, nat_lt}
use Rattle.std.specs.List.{filter, flat_map}
use Rattle.ttx_page.specs.Page.{Rows, space}
use Rattle.stl_file.specs.Subtitle.{SubtitleValue}
use Rattle.stl_rows.specs.declared.layout.Layout.{Layout}
use Rattle.stl_rows.specs.declared.national.National.{National}
use Rattle.stl_rows.specs.DrawnPage.{codes_by_layout, drawn}
use Rattle.stl_rows.specs.Layout.{drawing_by, items_of_layout}
use Rattle.stl_rows.specs.Line.{has_cells}
use Rattle.stl_rows.specs.TextCode.{lines_of_codes, text_codes}

-- The cell is a printable character: a code above 20.
abbrev pub is_printable_cell : ℕ → Bool
is_printable_cell code = nat_lt space code

-- The line from its first printable cell on.
abbrev pub from_first_printable : List ℕ → List ℕ
from_first_printable [] = []
from_first_printable (c ∷ cells) = if is_printable_cell c then c ∷ cells else from_first_printable
    cells

-- Puts the cell c in front of the rest of a line. If the rest is empty, c stays only if it is
-- printable.
abbrev pub cell_before_rest : ℕ → List ℕ → List ℕ
cell_before_rest c [] = if is_printable_cell c then c ∷ [] else []
cell_before_rest c (x ∷ cells) = c ∷ x ∷ cells

-- The line up to its last printable cell.
abbrev pub up_to_last_printable : List ℕ → List ℕ
up_to_last_printable [] = []
up_to_last_printable (c ∷ cells) = cell_before_rest c (up_to_last_printable cells)

-- The line from its first printable cell to its last.
unfoldable pub printed_part : List ℕ → List ℕ
printed_part cells = up_to_last_printable (from_first_printable cells)

-- Each line from its first printable cell to its last, without lines that have no printable cell.
abbrev pub printed_lines : List (List ℕ) → List (List ℕ)
printed_lines lines = filter has_cells (map printed_part lines)

-- The printable cells of all lines, line by line.
abbrev pub printing_codes : List (List ℕ) → List ℕ
printing_codes lines = flat_map (filter is_printable_cell) lines

-- The page has the printable characters of the text.
pub record HasPrintingCodes (national : National) (layout : Layout) (text : List ℕ) (page : Rows)
    : Type 0 where
  -- From top to bottom and from left to right, the printable cells of the page are the printable
  -- cells of the text in order, for every layout. Spaces and spacing attributes are left out.
  pub printing_codes : printing_codes page ≡ printing_codes
      (lines_of_codes (text_codes national 0 text))
  -- Two printable characters are in the same row if and only if no new line is between their bytes.
  -- Between two printable characters in the same row are the cells that the text has between them,
  -- without the cells of bytes that `strip` names.
  pub lines :
      printed_lines page
      ≡ printed_lines (lines_of_codes (codes_by_layout national (items_of_layout layout) text))

-- A layout that draws a subtitle adds, changes, loses or reorders no printable characters. So a
-- layout can change only rows, columns, spaces and spacing attributes, and whether a fault prevents
-- the drawing.
abbrev pub LawOfPrintingCodes : Type 0
LawOfPrintingCodes =
    (national : National) (layout : Layout) (t : SubtitleValue) (page : Rows)
    → drawn (drawing_by national layout) t ≡ Ok page
    → HasPrintingCodes national layout t.text page
