-- Two pages are equal if their number of differing cells is 0. Replacing a row changes this number
-- only by the cells of that row.
use Rattle.std.proofs.Common.{◌≡◌, ℕ, zero, suc, ◌+◌, ◌*◌, ◌<◌, ◌≤◌, cond, ◌==◌, List, [], length}
use Rattle.std.proofs.Common.{get_or, set, refl, arith, get_or-set_same, get_or-set_other, add-one}
use Rattle.std.proofs.lemmas.Bool.Decides.{nat_tests}
use Rattle.ttx_page.specs.Differing.{differing_column_count, row_difference, rows_difference}
use Rattle.ttx_page.specs.Differing.{differing_cell_count}
use Rattle.std.proofs.lemmas.List.{get_or-replicate}
use Rattle.ttx_page.specs.Page.{blank, blank_row, cell, IsCell}

pub differing_columns_are_bounded : (n : ℕ) (xs ys : List ℕ) → differing_column_count n xs ys ≤ n
unfolding differing_column_count
differing_columns_are_bounded zero xs ys = omega arith
differing_columns_are_bounded (suc n) xs ys = let before = differing_columns_are_bounded n xs ys
    in grind (arith, nat_tests)

pub no_columns_no_difference : (xs ys : List ℕ) → differing_column_count 0 xs ys ≡ 0
unfolding differing_column_count
no_columns_no_difference xs ys = refl

pub next_column_adds_difference : (n : ℕ) (xs ys : List ℕ)
    → differing_column_count (n + 1) xs ys
    ≡ differing_column_count n xs ys + cond (get_or xs n 0 == get_or ys n 0) 0 1
unfolding differing_column_count
next_column_adds_difference n xs ys = rw add-one refl

pub equal_columns_do_not_differ : (n : ℕ) (xs ys : List ℕ) → xs ≡ ys → differing_column_count n xs
    ys ≡ 0
unfolding differing_column_count
equal_columns_do_not_differ zero xs ys e = refl
equal_columns_do_not_differ (suc n) xs ys e =
    let before = equal_columns_do_not_differ n xs ys e in grind (arith, nat_tests)

pub blank-more : (n : ℕ) (ys : List (List ℕ)) → n < 24
    → rows_difference (n + 1) blank ys
    ≡ rows_difference n blank ys + row_difference blank_row (get_or ys n [])
unfolding rows_difference blank
blank-more n ys l = rw (add-one, get_or-replicate 24 n blank_row [] l) refl

pub differing_cells_are_bounded : (n : ℕ) (xs ys : List (List ℕ)) → rows_difference n xs ys ≤ 40 * n
unfolding rows_difference
differing_cells_are_bounded zero xs ys = omega arith
differing_cells_are_bounded (suc n) xs ys = grind (
  arith,
  nat_tests,
  differing_columns_are_bounded,
  differing_cells_are_bounded n xs ys,
)

rows-set_above : (n : ℕ) (xs ys : List (List ℕ)) (i : ℕ) (row : List ℕ)
    → n ≤ i
    → rows_difference n (set xs i row) ys ≡ rows_difference n xs ys
unfolding rows_difference
rows-set_above zero xs ys i row h = refl
rows-set_above (suc n) xs ys i row h =
    grind (arith, nat_tests, get_or-set_other, rows-set_above n xs ys i row)

-- If one of the first n rows of a page is replaced, the number of cells in which these rows differ
-- from another page changes by as much as that number for the row.
pub rows-set : (n : ℕ) (xs ys : List (List ℕ)) (i : ℕ) (row : List ℕ)
    → i < n
    → i < length xs
    → rows_difference n (set xs i row) ys + row_difference (get_or xs i []) (get_or ys i [])
    ≡ rows_difference n xs ys + row_difference row (get_or ys i [])
unfolding rows_difference
rows-set zero xs ys i row h l = absurd (omega arith)
rows-set (suc n) xs ys i row h l =
    let above = rows-set_above n xs ys i row in
    let before = rows-set n xs ys i row in
    let here = get_or-set_same xs i row [] l in
    let other = get_or-set_other xs i n row [] in
    grind arith

pub page_difference_bounds_row : (n : ℕ) (xs ys : List (List ℕ)) (i : ℕ)
    → i < n
    → row_difference (get_or xs i []) (get_or ys i []) ≤ rows_difference n xs ys
unfolding rows_difference
page_difference_bounds_row zero xs ys i h = absurd (omega arith)
page_difference_bounds_row (suc n) xs ys i h = let before = page_difference_bounds_row n xs ys i
    in grind arith

pub zero_difference_equal_columns : (n : ℕ) (xs ys : List ℕ)
    → differing_column_count n xs ys ≡ 0
    → (k : ℕ)
    → k < n
    → get_or xs k 0 ≡ get_or ys k 0
unfolding differing_column_count
zero_difference_equal_columns zero xs ys e k l = absurd (omega arith)
zero_difference_equal_columns (suc n) xs ys e k l = grind
    (arith, nat_tests, zero_difference_equal_columns n xs ys)

pub zero_difference_equal_cells : (xs ys : List (List ℕ))
    → differing_cell_count xs ys ≡ 0
    → (row column : ℕ)
    → IsCell row column
    → cell xs row column ≡ cell ys row column
zero_difference_equal_cells xs ys e row column is = grind
    (arith, nat_tests, zero_difference_equal_columns, page_difference_bounds_row)
