-- The codes of a page that were not expected in any of the last frames.
use Rattle.std.specs.Prelude.{◌≡◌, ℕ, if◌then◌else◌, ◌==◌}
use Rattle.ttx_page.specs.Page.{IsCell, Rows, cell, space}
use Rattle.sub_rules.specs.Events.{was_due}

-- The code `shown`, or a space if `shown` is the expected code.
abbrev pub space_if_due : ℕ → ℕ → ℕ
space_if_due due shown = if due == shown then space else shown

-- `left` has the codes of `shown`, but a space for each code that was expected in its cell at frame
-- f or at one of the n frames before f, of which those before `first` do not count.
abbrev pub LacksDueCodes : (ℕ → Rows) → ℕ → ℕ → ℕ → Rows → Rows → Type 0
LacksDueCodes due first f n shown left =
    (row column : ℕ)
    → IsCell row column
    → cell left row column
    ≡ (if was_due due first f n row column (cell shown row column)
    then space
    else cell shown row column)
