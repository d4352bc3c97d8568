-- Compares the page that the packets show with the expected page.
use Rattle.std.specs.Prelude.{◌≡◌, ℕ, ◌+◌, ◌-◌, IfSome, Option, Some, None}
use Rattle.ttx_page.specs.Differing.{differing_cell_count}
use Rattle.ttx_page.specs.Page.{Rows, blank}

-- The contents of a comparison: the page that the packets show, and the expected page.
pub record ComparisonValue : Type 0 where
  pub page : Rows
  pub due : Rows

-- `wrong`, if it is known, is the number of cells in which the shown page differs from the expected
-- page; `blank_page_difference_count` is that number for a blank page.
pub record HasExactCounts (page due : Rows) (wrong : Option ℕ) (blank_page_difference_count : ℕ) :
    Type 0 where
  pub wrong_eq : IfSome wrong (λ n. n ≡ differing_cell_count page due)
  pub blank_is : blank_page_difference_count ≡ differing_cell_count blank due

-- The number of wrong cells after the wrong cells of one row changed from `before` to `after`.
abbrev pub updated_wrong_count : Option ℕ → ℕ → ℕ → Option ℕ
updated_wrong_count None before after = None
updated_wrong_count (Some n) before after = Some (n - before + after)
