-- A Teletext page: a character code for each cell in rows 1 to 24 (EN 300 706, packets X/1 to X/24)
-- and columns 0 to 39.
use Rattle.std.specs.Prelude.{◌≡◌, ◌≢◌, ℕ, ◌-◌, ◌<◌, ◌≤◌, List, [], length, slice_index}
use Rattle.std.specs.Prelude.{slice_index_or, replicate}

-- The rows of a page, from row 1 on, each as a list of character codes.
abbrev pub Rows : Type 0
Rows = List (List ℕ)

-- The character code of a space.
abbrev pub space : ℕ
space = 0x20

-- A row of 40 spaces.
unfoldable pub blank_row : List ℕ
blank_row = replicate 40 space

-- The page after C4, erase page: 24 rows of spaces.
unfoldable pub blank : Rows
blank = replicate 24 blank_row

-- The codes of a row, 1 to 24. Empty if the list has no such row.
abbrev pub row_at : Rows → ℕ → List ℕ
row_at page row = slice_index_or page (row - 1) []

-- The code in the cell of a row, 1 to 24, and a column, 0 to 39.
abbrev pub cell : Rows → ℕ → ℕ → ℕ
cell page row column = slice_index (row_at page row) column

-- The number is a row number of a page, 1 to 24.
abbrev pub IsRow : ℕ → Type 0
IsRow row = (1 ≤ row) × (row ≤ 24)

-- The numbers are the row, 1 to 24, and the column, 0 to 39, of a cell of a page.
abbrev pub IsCell : ℕ → ℕ → Type 0
IsCell row column = (1 ≤ row) × (row ≤ 24) × (column < 40)

-- The number is the 7-bit code of a character or spacing attribute.
abbrev pub IsCode : ℕ → Type 0
IsCode code = code < 128

-- Each number of the list is a 7-bit character code.
abbrev pub AreCodes : List ℕ → Type 0
AreCodes codes = (column : ℕ) → IsCode (slice_index codes column)

-- A page has 24 rows of 40 codes below 128.
pub record IsPage (page : Rows) : Type 0 where
  pub rows : length page ≡ 24
  pub columns : (i : ℕ) → i < 24 → length (slice_index_or page i []) ≡ 40
  pub codes : (i : ℕ) → AreCodes (slice_index_or page i [])

-- The cell at `row` and `column` is the first cell in which two pages differ, in reading order.
pub record DiffersFirst (a b : Rows) (row column : ℕ) : Type 0 where
  pub is_cell : IsCell row column
  pub differ : cell a row column ≢ cell b row column
  pub rows_above : (r : ℕ) → 1 ≤ r → r < row → row_at a r ≡ row_at b r
  pub cells_before : (c : ℕ) → c < column → cell a row c ≡ cell b row c
