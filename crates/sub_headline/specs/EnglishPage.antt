-- The page for an English subtitle in the default layout.
use Rattle.std.specs.Prelude.{◌≡◌, ◌≢◌, ◌⊎◌, ⊤, ℕ, ◌+◌, ◌-◌, ◌≤◌, Bool, true, false, List, []}
use Rattle.std.specs.Prelude.{◌∷◌, All, IsTrue, Option, Some, None, ◌==◌, length}
use Rattle.std.specs.Prelude.{nat_lt, if◌then◌else◌, map, slice_index_or}
use Rattle.std.specs.List.{find, onto_first, range_with_len}
use Rattle.ttx_page.specs.Page.{Rows, blank}
use Rattle.stl_file.specs.Subtitle.{SubtitleValue}
use Rattle.stl_rows.specs.DuePage.{is_due}
use Rattle.stl_rows.specs.Line.{has_double_height, boxed_line, row_of}
use Rattle.stl_rows.specs.TextCode.{is_common, is_within, new_line}

-- The Teletext code for a byte of text (EBU Tech 3264, code table 00; EN 300 706, English sub-set):
-- the same number, or the place of a character of the national sub-set. `None` if the byte has no
-- code.
unfoldable pub english_code : ℕ → Option ℕ
english_code byte =
    if is_common byte then Some byte
    else (if 0xA3 == byte then Some 0x23  -- £
    else (if 0x24 == byte then Some 0x24  -- $
    else (if 0xA4 == byte then Some 0x24  -- $
    else (if 0x40 == byte then Some 0x40  -- @
    else (if 0x23 == byte then Some 0x5F  -- #
    else None)))))

-- The lines of a text after a byte was put in front of it: the byte is a cell, or the end of a
-- line, or has no cell: it is for italics, underline or boxing, or it is rejected.
abbrev pub put : Option ℕ → ℕ → List (List ℕ) → List (List ℕ)
put (Some cell) byte lines = onto_first cell lines
put None byte lines = if byte == new_line then [] ∷ lines else lines

-- The lines of a subtitle's text, as codes of cells.
abbrev pub english_lines : List ℕ → List (List ℕ)
english_lines [] = [] ∷ []
english_lines (byte ∷ bytes) = put (english_code byte) byte (english_lines bytes)

-- The byte is a cell, a new line, or a code for italics, underline or boxing. A text with any other
-- byte is rejected.
abbrev pub IsHandledByte : ℕ → Type 0
IsHandledByte byte =
    (english_code byte ≢ None) ⊎ (byte ≡ new_line) ⊎ (is_within 0x80 0x85 byte ≡ true)

-- A line of a subtitle fits on the page. It has at most 40 cells. Row 24 remains free, so a line
-- that is not empty is not below row 23, and has no double height in row 23. It is empty if the
-- line above it has double height.
pub record FitsLine (row : ℕ) (is_below_double_height : Bool) (line : List ℕ) : Type 0 where
  pub short : length line ≤ 40
  pub high : line ≢ [] → row ≤ 23
  pub double_not_in_row_23 : IsTrue (has_double_height line) → row ≢ 23
  pub empty_below_double_height : IsTrue is_below_double_height → line ≡ []

-- The lines of a subtitle fit on the page if the first of them is in row `row`.
abbrev pub FitLines : ℕ → Bool → List (List ℕ) → Type 0
FitLines row is_below_double_height [] = ⊤
FitLines row is_below_double_height (line ∷ lines) =
    FitsLine row is_below_double_height line × FitLines (row + 1) (has_double_height line) lines

-- The lines of a subtitle. A line that has cells but no start box is put in a box.
abbrev pub lines_of_boxed_text : SubtitleValue → List (List ℕ)
lines_of_boxed_text t = map boxed_line (english_lines t.text)

-- The complete text of a subtitle can be drawn: each byte is valid, and the lines fit on the page
-- from row VP on.
pub record IsDrawnCompletely (t : SubtitleValue) : Type 0 where
  pub read : All IsHandledByte t.text
  pub lines_fit_on_page : FitLines t.vp false (lines_of_boxed_text t)

-- The line in a row of a subtitle's page. Line 0 is in row VP; rows above VP and below the last
-- line are empty.
abbrev pub english_line : SubtitleValue → ℕ → List ℕ
english_line t row =
    if nat_lt row t.vp then [] else slice_index_or (lines_of_boxed_text t) (row - t.vp) []

-- The page of a subtitle: rows 1 to 24 with their lines, each at the column for JC.
abbrev pub english_page : SubtitleValue → Rows
english_page t = map (λ row. row_of t.jc (english_line t row)) (range_with_len 1 24)

-- The page of a subtitle, or a blank page if there is no subtitle.
abbrev pub page_or_blank : Option SubtitleValue → Rows
page_or_blank None = blank
page_or_blank (Some t) = english_page t

-- The expected page at a frame: the page of the first subtitle with TCI <= frame < TCO, or a blank
-- page if there is no such subtitle.
abbrev pub english_due_page : List SubtitleValue → ℕ → Rows
english_due_page subtitles frame = page_or_blank (find (is_due frame) subtitles)
