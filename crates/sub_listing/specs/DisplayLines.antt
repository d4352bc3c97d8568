-- The lines that `listen` prints for a receiver: whether it has received a header of its page and,
-- if it has, whether the page is open, and each row of its page or screen that is not blank.
use Rattle.std.specs.Prelude.{ℕ, zero, suc, ◌==◌, Bool, true, false, List, [], ◌++◌, codes, map}
use Rattle.std.specs.Prelude.{length, Option, Some, None, IfSome, IsTrue, if◌then◌else◌}
use Rattle.std.specs.List.{list_all}
use Rattle.ttx_page.specs.Page.{IsPage, Rows, row_at, space}
use Rattle.ttx_page.specs.Screen.{Display}
use Rattle.sub_listing.specs.Lines.{printed_character, two_digits}

-- The line of a row: its number in two digits, and its 40 cells between bars.
abbrev pub row_line : ℕ → List ℕ → List ℕ
row_line row cells =
    codes "row " ++ two_digits row ++ codes " |" ++ map printed_character cells ++ codes "|\n"

-- The line of a row; no line for a blank row.
abbrev pub row_text : ℕ → List ℕ → List ℕ
row_text row cells = if list_all (λ c. c == space) cells then [] else row_line row cells

-- The lines of those of the first n rows of a page that are not blank.
abbrev pub rows_text : ℕ → Rows → List ℕ
rows_text zero page = []
rows_text (suc n) page = rows_text n page ++ row_text (suc n) (row_at page (suc n))

-- The lines of the rows of a page that are not blank, or the line `blank` if all rows are blank.
abbrev pub page_text : Rows → List ℕ
page_text page = if length (rows_text 24 page) == 0 then codes "blank\n" else rows_text 24 page

-- The line that reports whether the page is open.
abbrev pub open_line : Bool → List ℕ
open_line true = codes "open yes\n"
open_line false = codes "open no\n"

-- The lines of the page on a screen, or the line `shown no` if the screen has shown no page yet.
abbrev pub screen_text : Option Rows → List ℕ
screen_text None = codes "shown no\n"
screen_text (Some page) = page_text page

-- The lines of the receiver's page or, if complete pages are required, of its screen.
abbrev pub displayed_text : Bool → Display → List ℕ
displayed_text asks_complete d =
    if asks_complete then screen_text d.screen else page_text d.receiver_state.page

-- The page to print: the receiver's page or, if complete pages are required, the page on its
-- screen, if any.
abbrev pub displayed_page : Bool → Display → Option Rows
displayed_page asks_complete d = if asks_complete then d.screen else Some d.receiver_state.page

-- If the receiver has received a header of its page, the printed page, if any, has 24 rows of 40
-- codes.
abbrev pub PrintsValidPage : Bool → Display → Type 0
PrintsValidPage asks_complete d =
    IsTrue d.receiver_state.heard → IfSome (displayed_page asks_complete d) IsPage

-- All lines that `listen` prints for a receiver.
abbrev pub display_text : Bool → Display → List ℕ
display_text asks_complete d = if d.receiver_state.heard
    then codes "heard yes\n" ++ open_line d.receiver_state.is_open ++ displayed_text asks_complete d
    else codes "heard no\n"
