-- A line of cells in the form prepared by a layout, and the column at which the line starts.
use Rattle.std.specs.Prelude.{ℕ, suc, ◌+◌, ◌-◌, ◌/◌, not, ◌&&◌, List, [], ◌∷◌, ◌++◌, ◌==◌}
use Rattle.std.specs.Prelude.{if◌then◌else◌, length, take, drop, map, min}
use Rattle.std.specs.List.{list_all, list_any, range_with_len}
use Rattle.stl_rows.specs.declared.layout.LayoutItems.{LayoutItems}
use Rattle.stl_rows.specs.Layout.{codes_of_places}
use Rattle.stl_rows.specs.Line.{code_in_column, columns, has_start_box_code}
use Rattle.stl_rows.specs.TextCode.{is_within}

-- ---- the codes and spaces at the ends of a line

-- The number of cells at the start of a line that are in a range of codes.
abbrev pub leading_count : ℕ → ℕ → List ℕ → ℕ
leading_count first last [] = 0
leading_count first last (c ∷ cells) =
    if is_within first last c then suc (leading_count first last cells) else 0

-- The number of cells at the end of a line that are in a range of codes.
abbrev pub trailing_count : ℕ → ℕ → List ℕ → ℕ
trailing_count first last [] = 0
trailing_count first last (c ∷ cells) =
    if list_all (is_within first last) (c ∷ cells)
    then length (c ∷ cells)
    else trailing_count first last cells

-- The number of spacing attributes (codes below 20) at the start of a line.
abbrev pub leading_code_count : List ℕ → ℕ
leading_code_count cells = leading_count 0 0x1F cells

-- The number of spacing attributes (codes below 20) at the end of a line.
abbrev pub trailing_code_count : List ℕ → ℕ
trailing_code_count cells = trailing_count 0 0x1F cells

-- The line without leading spaces.
abbrev pub without_leading_spaces : List ℕ → List ℕ
without_leading_spaces cells = drop (leading_count 0x20 0x20 cells) cells

-- The line without trailing spaces.
abbrev pub without_trailing_spaces : List ℕ → List ℕ
without_trailing_spaces cells = take (length cells - trailing_count 0x20 0x20 cells) cells

-- The layout item `trim`: the line without spaces at both ends.
unfoldable pub trimmed : List ℕ → List ℕ
trimmed cells = without_trailing_spaces (without_leading_spaces cells)

-- ---- the prepared form of a line

-- The leading codes of a line; with the layout item `white`, followed by 07 (alpha white) if none
-- of the codes is a colour.
abbrev pub codes_with_colour : LayoutItems → List ℕ → List ℕ
codes_with_colour items codes =
    if items.white && not (list_any (is_within 0x01 0x07) codes) then codes ++ 0x07 ∷ [] else codes

-- The layout items `before` and `white`: a line with the codes that a layout adds before and after
-- the line's own leading codes.
unfoldable pub line_with_before_codes : LayoutItems → List ℕ → List ℕ
line_with_before_codes items cells =
    codes_of_places items.ahead
    ++ codes_with_colour items (take (leading_code_count cells) cells)
    ++ codes_of_places items.following
    ++ drop (leading_code_count cells) cells

-- The layout item `after`: the codes to add at the end of a line of n cells. With `fit`, only as
-- many codes as there is room for.
abbrev pub codes_to_append : LayoutItems → ℕ → List ℕ
codes_to_append items n =
    if items.fit
    then take (columns - n) (codes_of_places items.after)
    else codes_of_places items.after

-- The line with the codes that a layout adds. An empty line gets no codes.
unfoldable pub line_with_layout_codes : LayoutItems → List ℕ → List ℕ
line_with_layout_codes items [] = []
line_with_layout_codes items (c ∷ cells) =
    line_with_before_codes items (c ∷ cells) ++ codes_to_append items
    (length (line_with_before_codes items (c ∷ cells)))

-- The form of a line prepared by a layout. A line with a start box of its own does not change.
unfoldable pub prepared_by_layout : LayoutItems → List ℕ → List ℕ
prepared_by_layout items cells =
    if has_start_box_code cells then cells
    else line_with_layout_codes items (if items.trim then trimmed cells else cells)

-- ---- the column of a prepared line

-- The numbers of cells at the start and at the end of a prepared line that do not count for its
-- column: with the layout item `text`, its leading and trailing spacing attributes; otherwise none.
-- If a line has only spacing attributes, all of them are leading.
abbrev pub uncounted_cells : LayoutItems → List ℕ → ℕ × ℕ
uncounted_cells items line =
    if items.text
    then (
      leading_code_count line,
      if leading_code_count line == length line then 0 else trailing_code_count line,
    )
    else (0, 0)

-- The JC to use for a subtitle: the value of the layout item `free` if the subtitle's JC is 0 (EBU
-- Tech 3264, TTI block, field JC), otherwise the subtitle's own JC.
abbrev pub effective_jc : LayoutItems → ℕ → ℕ
effective_jc items jc = if jc == 0 then items.free_jc else jc

-- The layout items `left`, `right` and `up`: the column at which a line should start, at least 0,
-- if `width` cells of the line count, after `ahead` cells that do not.
abbrev pub start_column_for : LayoutItems → ℕ → ℕ → ℕ → ℕ
start_column_for items jc ahead width =
    if jc == 2 then (columns - width + (if items.up then 1 else 0)) / 2 - ahead
    else (if jc == 3 then columns - (items.right + width + ahead)
    else items.left - ahead)

-- The column at which a prepared line starts. It is moved left if the line would not fit in its
-- row.
unfoldable pub start_column_by_layout : LayoutItems → ℕ → List ℕ → ℕ
start_column_by_layout items jc line =
    let uncounted : ℕ × ℕ = uncounted_cells items line in
    min (start_column_for items (effective_jc items jc) uncounted.0
    (length line - (uncounted.0 + uncounted.1)))
    (columns - length line)

-- The 40 codes of the row that shows a line from column `start` on.
unfoldable pub row_starting_at : ℕ → List ℕ → List ℕ
row_starting_at start line = map (code_in_column start line) (range_with_len 0 columns)
