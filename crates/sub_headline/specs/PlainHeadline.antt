-- The headline: the page that every receiver has if `check` accepts the transmission.
use Rattle.std.specs.Prelude.{◌≡◌, ◌⊎◌, ◌||◌, ℕ, ◌+◌, ◌≤◌, All, Bool, IsTrue, List}
use Rattle.ttx_packet.specs.PageId.{PageIdValue}
use Rattle.ttx_page.specs.LostRows.{IsHitOrLost, arrivals_from_flags}
use Rattle.ttx_page.specs.Page.{IsCell, Rows, cell, space}
use Rattle.ttx_page.specs.PacketKind.{kind}
use Rattle.ttx_page.specs.Receiver.{Hears, State}
use Rattle.ttx_page.specs.Span.{has_page_header}
use Rattle.stl_file.specs.Subtitle.{SubtitleValue}
use Rattle.sub_rules.specs.Transmission.{Transmission, first_frame, last_frame, on_air}
use Rattle.sub_laws.specs.LostRows.{IsReceivedWithLosses}

-- The page that a receiver has at the end of frame f. The receiver was switched on in frame g, in
-- the state `old`. At the end of frame f it is in the state `new`. The packets `sent` were on air
-- between these two times.
--
-- If f is at least `every` frames after g, `sent` contains a header of the page (`every` is the
-- repeat bound). The receiver has received a header of the page exactly if it had one before or if
-- `sent` contains one. If `sent` contains a header of the page, each cell has the code of the
-- expected page, or a space if the cell is excused.
pub record ReceivesPage
    (page : PageIdValue) (every : ℕ) (due : Rows) (g f : ℕ)
    (sent : List (List ℕ)) (IsExcused : ℕ → ℕ → Type 0) (old new : State)
    : Type 0 where
  pub in_time : g + every ≤ f → IsTrue (has_page_header (kind page) sent)
  pub heard : new.heard ≡ (old.heard || has_page_header (kind page) sent)
  pub cells :
      IsTrue (has_page_header (kind page) sent)
      → (row column : ℕ)
      → IsCell row column
      → (cell new.page row column ≡ cell due row column)
      ⊎ ((cell new.page row column ≡ space) × IsExcused row column)

-- Every receiver of page `page` that stores rows has the expected page, as `ReceivesPage`
-- specifies. This is true for every time at which the receiver is switched on (before packet j of
-- frame g, or after its last packet) and every time at which its page is examined (at the end of
-- frame f), from the first frame of the transmission to the last; for any loss of packets other
-- than page headers; for at most one wrong bit in each byte received; for any page that the
-- receiver contained before, open or not, with or without a header; and whether a cell keeps its
-- code or becomes a space at a byte of even parity.
--
-- A cell is excused if a packet of its row was lost, or received with a wrong byte in the cell's
-- column. This concerns only packets of the page that were sent after its last header and before a
-- header that ended the page.
abbrev pub EachReceiverGets : PageIdValue → ℕ → (ℕ → Rows) → Transmission → Type 0
EachReceiverGets page every due transmission =
    (g j f : ℕ) (arrived : List Bool) (got : List (List ℕ)) (old new : State)
    → IsReceivedWithLosses transmission (first_frame transmission) (last_frame transmission) g j f
    arrived got
    → Hears page old got new
    → ReceivesPage page every (due f) g f (on_air transmission g j f)
    (IsHitOrLost page (on_air transmission g j f) (arrivals_from_flags arrived got)) old new

-- The headline for subtitles and a transmission. `every` is the repeat bound of the page's header
-- in frames, and `due` gives the expected page at each frame.
pub record Headline
    (page : PageIdValue) (every : ℕ) (due : List SubtitleValue → ℕ → Rows)
    (subtitles : List SubtitleValue) (transmission : Transmission)
    : Type 0 where
  -- The first frame of the transmission is not after the TCI of any subtitle, and the last frame is
  -- not before the TCO of any subtitle.
  pub covers :
      All (λ t. (first_frame transmission ≤ t.tci) × (t.tco ≤ last_frame transmission)) subtitles
  -- From the first frame of the transmission to the last, every receiver has the expected page, as
  -- `EachReceiverGets` specifies.
  pub receivers : EachReceiverGets page every (due subtitles) transmission
