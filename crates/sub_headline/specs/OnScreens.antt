-- The screens of receivers that show only complete pages.
use Rattle.std.specs.Prelude.{◌≡◌, ◌⊎◌, ℕ, Bool, IsTrue, List, Some}
use Rattle.ttx_packet.specs.PageId.{PageIdValue}
use Rattle.ttx_page.specs.Screen.{Display, ShowsBy}
use Rattle.ttx_page.specs.DroppedRows.{ExcusedBy}
use Rattle.ttx_page.specs.LostRows.{IsHitOrLost, arrivals_from_flags}
use Rattle.ttx_page.specs.Page.{IsCell, Rows, cell, space}
use Rattle.ttx_page.specs.PacketKind.{kind}
use Rattle.ttx_page.specs.Receiver.{ReceiverClass}
use Rattle.ttx_page.specs.Span.{has_page_header}
use Rattle.stl_file.specs.Subtitle.{SubtitleValue}
use Rattle.sub_rules.specs.Transmission.{Transmission, first_frame, last_frame, on_air}
use Rattle.sub_laws.specs.LostRows.{IsReceivedWithLosses}
use Rattle.sub_headline.specs.EnglishPage.{english_due_page}

-- At the end of frame f, each receiver that shows only complete pages shows the expected page, or a
-- space in an excused cell, if a header of the page was sent since the receiver was switched on,
-- and the packets were received as `IsReceivedWithLosses` allows. This is true for any page that
-- the receiver showed before.
abbrev pub EachDisplayShows : PageIdValue → List SubtitleValue → Transmission → Type 0
EachDisplayShows page subtitles transmission =
    (class : ReceiverClass) (g j f : ℕ) (arrived : List Bool) (got : List (List ℕ))
    (old new : Display)
    → IsReceivedWithLosses transmission (first_frame transmission) (last_frame transmission) g j f
    arrived got
    → ShowsBy class page old got new
    → IsTrue (has_page_header (kind page) (on_air transmission g j f))
    → (shown : Rows)
    × (new.screen ≡ Some shown)
    × ((row column : ℕ)
    → IsCell row column
    → (cell shown row column ≡ cell (english_due_page subtitles f) row column)
    ⊎ ((cell shown row column ≡ space)
    × ExcusedBy class
    (IsHitOrLost page (on_air transmission g j f) (arrivals_from_flags arrived got))
    row column))
