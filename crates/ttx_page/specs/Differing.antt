-- The number of cells in which two pages differ (not defined by a standard). It can be updated as
-- rows are stored.
--
-- The definition counts over a fixed number of rows and columns, so the result is at most 960,
-- whatever the lengths of the lists.
use Rattle.std.specs.Prelude.{ℕ, zero, suc, ◌+◌, List, [], ◌==◌, slice_index, slice_index_or}
use Rattle.std.specs.Prelude.{if◌then◌else◌}
use Rattle.ttx_page.specs.Page.{Rows}

-- The number of columns in which two rows differ, among the first n columns.
unfoldable pub differing_column_count : ℕ → List ℕ → List ℕ → ℕ
differing_column_count zero a b = 0
differing_column_count (suc n) a b =
    differing_column_count n a b + (if slice_index a n == slice_index b n then 0 else 1)

-- The number of columns in which two rows differ, out of 40.
abbrev pub row_difference : List ℕ → List ℕ → ℕ
row_difference a b = differing_column_count 40 a b

-- The number of cells in which two pages differ, among the first n rows.
unfoldable pub rows_difference : ℕ → Rows → Rows → ℕ
rows_difference zero a b = 0
rows_difference (suc n) a b =
    rows_difference n a b + row_difference (slice_index_or a n []) (slice_index_or b n [])

-- The number of cells in which two pages differ, out of 960.
abbrev pub differing_cell_count : Rows → Rows → ℕ
differing_cell_count a b = rows_difference 24 a b
