-- A line of cells: its preparation for sending, and the row that shows the line (EN 300 706,
-- packets X/1 to X/24).
use Rattle.std.specs.Prelude.{ℕ, ◌-◌, ◌/◌, Bool, true, false, not, ◌&&◌, List, [], ◌∷◌, ◌++◌, ◌==◌}
use Rattle.std.specs.Prelude.{nat_le, if◌then◌else◌, map, length, slice_index_or}
use Rattle.std.specs.List.{range_with_len, list_any}
use Rattle.ttx_page.specs.Page.{space}

-- The spacing attribute "start box".
abbrev pub start_box : ℕ
start_box = 0x0B

-- The spacing attribute "end box".
abbrev pub end_box : ℕ
end_box = 0x0A

-- The spacing attribute "double height".
abbrev pub double_height : ℕ
double_height = 0x0D

-- The number of columns of a Teletext row.
abbrev pub columns : ℕ
columns = 40

-- The line of cells is not empty.
abbrev pub has_cells : List ℕ → Bool
has_cells [] = false
has_cells (c ∷ cells) = true

-- The line of cells contains a start box.
unfoldable pub has_start_box_code : List ℕ → Bool
has_start_box_code line = list_any (λ c. c == start_box) line

-- The line of cells contains double height.
unfoldable pub has_double_height : List ℕ → Bool
has_double_height line = list_any (λ c. c == double_height) line

-- The prepared form of a line: if the line has cells but no start box, two start boxes are added
-- before it and two end boxes after it. EN 300 706 requires each box code twice; adding the box is
-- this project's choice.
unfoldable pub boxed_line : List ℕ → List ℕ
boxed_line cells =
    if has_cells cells && not (has_start_box_code cells)
    then (start_box ∷ start_box ∷ []) ++ cells ++ (end_box ∷ end_box ∷ [])
    else cells

-- The column at which a line of n cells starts (EBU Tech 3264, TTI block, field JC): 0 for JC 0
-- (unchanged) and 1 (left); centred for JC 2 (rounded down); at the right end for JC 3.
abbrev pub start_column : ℕ → ℕ → ℕ
start_column jc n =
    if jc == 2 then (columns - n) / 2 else (if jc == 3 then columns - n else 0)

-- The code in a column of the row that shows a line from column `start` on: a cell of the line, or
-- a space outside the line.
abbrev pub code_in_column : ℕ → List ℕ → ℕ → ℕ
code_in_column start line column =
    if nat_le start column then slice_index_or line (column - start) space else space

-- The 40 codes of the row that shows a line at the column given by JC.
unfoldable pub row_of : ℕ → List ℕ → List ℕ
row_of jc line =
    map (code_in_column (start_column jc (length line)) line) (range_with_len 0 columns)
