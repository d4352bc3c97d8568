-- The wrong and the unexpected cells of the page that a listener stores.
use Rattle.std.specs.Prelude.{ℕ, ◌-◌, ◌&&◌, ◌||◌, ◌==◌, Bool, Option, false, not, slice_index_or}
use Rattle.ttx_page.specs.Page.{Rows, cell, space}
use Rattle.sub_rules.specs.Events.{first_cell, was_due}
use Rattle.sub_packets.specs.declared.listener.Listener.{Listener}

-- A cell of the stored page is correct: it has the expected code and, if repeats may have C4 (erase
-- page) clear and that code is no space, its row was received since the last header of the page,
-- while the page was open.
abbrev pub is_kept_cell_right : Listener → ℕ → ℕ → Bool
is_kept_cell_right s row column =
    cell s.comparison.page row column == cell s.comparison.due row column
    && (not s.watched.keeps
    || cell s.comparison.due row column == space
    || slice_index_or s.again (row - 1) false)

-- The first wrong cell of the stored page, by row and then by column.
unfoldable pub first_wrong_kept_cell : Listener → Option (ℕ × ℕ)
first_wrong_kept_cell s = first_cell (λ row column. not (is_kept_cell_right s row column))

-- The first cell of the stored page whose code is neither a space nor expected in that cell at
-- frame f or at one of the n frames before f, of which those before `first` do not count. `None` if
-- there is no such cell.
unfoldable pub first_unexpected_kept_cell : Listener → (ℕ → Rows) → ℕ → ℕ → ℕ → Option (ℕ × ℕ)
first_unexpected_kept_cell s due first f n =
    first_cell
    (λ row column.
    not (cell s.comparison.page row column == space)
    && not (was_due due first f n row column (cell s.comparison.page row column)))

-- Complete pages are required, and the stored page is open.
abbrev pub is_kept_page_incomplete : Listener → Bool
is_kept_page_incomplete s = s.watched.complete && s.is_open
