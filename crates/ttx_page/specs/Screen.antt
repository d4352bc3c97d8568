-- A receiver with a screen (not defined by a standard). The file `Receiver` defines only the
-- decoded page. Decoders in the field display a page when it is complete, because a later header
-- has ended it.
use Rattle.std.specs.Prelude.{◌≡◌, ℕ, ◌⊎◌, Bool, ◌&&◌, not, List, Option, Some, IsTrue}
use Rattle.std.specs.Prelude.{IsFalse, if◌then◌else◌}
use Rattle.ttx_packet.specs.PageId.{PageIdValue}
use Rattle.ttx_page.specs.Page.{Rows}
use Rattle.ttx_page.specs.PacketKind.{kind, is_this_page}
use Rattle.ttx_page.specs.Receiver.{ReceiverClass, RunsBy, State, StepBy, StepLeaving}
use Rattle.ttx_page.specs.Receiver.ReceiverClass.{Storing}
use Rattle.ttx_page.specs.Span.{has_page_header}

-- A receiver with its screen: the receiver's state, and the displayed page (`None` if none was
-- displayed yet).
pub record Display : Type 0 where
  pub receiver_state : State
  pub screen : Option Rows

-- The receiver with this state and this screen.
abbrev pub display : State → Option Rows → Display
display receiver_state screen = record { receiver_state = receiver_state; screen = screen }

-- The packet ends the page: the page was open before it, and is not open afterwards.
abbrev pub has_page_ended : State → State → Bool
has_page_ended old new = old.is_open && not new.is_open

-- The packet is a header of the page, and the page is already open.
abbrev pub restarts_page : PageIdValue → State → List ℕ → Bool
restarts_page w old packet = old.is_open && is_this_page (kind w packet)

-- How a packet may change the screen of a receiver.
pub record ShowsAt (w : PageIdValue) (old : Display) (packet : List ℕ) (new : Display) : Type 0
  where
    -- If the packet ends the page, the screen displays the page as it was before the packet.
    pub ended : IsTrue (has_page_ended old.receiver_state new.receiver_state) → new.screen ≡ Some
        old.receiver_state.page
    -- If the packet is a header of the page while the page is open, the screen displays the page as
    -- it was before the packet, or does not change. EN 300 706 ends the page there, but some
    -- decoders wait for a header of another page.
    pub again :
        IsTrue (restarts_page w old.receiver_state packet)
        → (new.screen ≡ Some old.receiver_state.page) ⊎ (new.screen ≡ old.screen)
    -- No other packet changes the screen.
    pub stays :
        IsFalse (has_page_ended old.receiver_state new.receiver_state)
        → IsFalse (restarts_page w old.receiver_state packet)
        → new.screen ≡ old.screen

-- The screen of a receiver that displays a page only when a header of another page has ended it, as
-- libzvbi does.
abbrev pub screen_after : Display → State → Option Rows
screen_after old new = if has_page_ended old.receiver_state new then Some old.receiver_state.page
    else old.screen

-- How a list of packets changes a receiver of page w and its screen. For a byte of even parity the
-- receiver stores `leaves` of the old code; the screen waits for a header of another page.
abbrev pub ShowsWaiting :
    (ℕ → ℕ) → PageIdValue → Display → List (List ℕ) → Display → Type 0
ShowsWaiting leaves w old packets new =
    RunsBy
    (λ before packet after. StepLeaving leaves w before.receiver_state packet after.receiver_state
    × (after.screen ≡ screen_after before after.receiver_state))
    old packets new

-- How a list of packets may change a receiver of page w and of this class, and its screen.
abbrev pub ShowsBy : ReceiverClass → PageIdValue → Display → List (List ℕ) → Display → Type 0
ShowsBy class w old packets new =
    RunsBy
    (λ before packet after. StepBy class w before.receiver_state packet after.receiver_state
    × ShowsAt w before packet after)
    old packets new

-- How a list of packets may change a receiver of page w that stores rows, and its screen.
abbrev pub Shows : PageIdValue → Display → List (List ℕ) → Display → Type 0
Shows w old packets new = ShowsBy Storing w old packets new

-- If packets with a header of its page reach a receiver in any state, and the page is not open
-- after them, the decoded page is on its screen. So what is proved about the decoded page is then
-- also true for the screen.
abbrev pub LawOfScreen : Type 0
LawOfScreen =
    (class : ReceiverClass) (w : PageIdValue) (packets : List (List ℕ)) (old new : Display)
    → ShowsBy class w old packets new
    → IsTrue (has_page_header (kind w) packets)
    → IsFalse new.receiver_state.is_open
    → new.screen ≡ Some new.receiver_state.page
