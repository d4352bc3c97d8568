-- The model of a receiver of one page: how a packet may change its state. The model follows level 1
-- of EN 300 706; what a receiver stores for a byte of even parity is defined here (not defined by a
-- standard), as are receivers that drop rows.
use Rattle.std.specs.Prelude.{◌≡◌, ◌≢◌, ℕ, ◌⊎◌, Bool, true, false, List, [], ◌∷◌, MatchBool}
use Rattle.std.specs.Prelude.{if◌then◌else◌, ◌&&◌, is_some, IsTrue, IsFalse}
use Rattle.ttx_packet.specs.Parity.{character_code, is_odd}
use Rattle.ttx_packet.specs.PageHeader.{c4}
use Rattle.ttx_packet.specs.PageId.{PageIdValue}
use Rattle.ttx_packet.specs.RowPacket.{text_byte, first_even_parity_column}
use Rattle.ttx_page.specs.declared.packet_kind.PacketKind.{PacketKind}
use Rattle.ttx_page.specs.declared.packet_kind.PacketKind.TheVariants.{ThisPage, EndsPage, Row}
use Rattle.ttx_page.specs.declared.packet_kind.PacketKind.TheVariants.{Other}
use Rattle.ttx_page.specs.Page.{Rows, space, blank, cell, IsCell}
use Rattle.ttx_page.specs.PacketKind.{kind, is_page_row}

-- The state of a receiver: whether it has received a header of its page, whether the page is open,
-- so that rows are stored, and the contents of the page.
pub record State : Type 0 where
  pub heard : Bool
  pub is_open : Bool
  pub page : Rows

-- The model of a receiver: the page to which it is tuned, and its state.
pub record TunedReceiver : Type 0 where
  pub watched : PageIdValue
  pub state : State

-- A cell takes the code of a received byte of odd parity. For a byte of even parity the cell keeps
-- its code or becomes a space, as the receiver chooses for each cell.
abbrev pub StoresByte : ℕ → ℕ → ℕ → Type 0
StoresByte byte old new =
    (IsTrue (is_odd byte) → new ≡ character_code byte)
    × (IsFalse (is_odd byte) → (new ≡ old) ⊎ (new ≡ space))

-- Each text byte of the packet is stored in row y of the page as `StoresByte` allows; the other
-- rows do not change.
abbrev pub StoresRow : List ℕ → ℕ → Rows → Rows → Type 0
StoresRow packet y old new =
    (row column : ℕ)
    → IsCell row column
    → (row ≡ y → StoresByte (text_byte packet column) (cell old row column) (cell new row column))
    × (row ≢ y → cell new row column ≡ cell old row column)

-- How a packet of each kind may change the state of a receiver (EN 300 706, level 1).
abbrev pub StepAt : PacketKind → List ℕ → State → State → Type 0
-- A header of the page opens the page, and blanks it if C4, erase page, is set.
StepAt (ThisPage h) packet old new =
    new ≡ record { heard = true; is_open = true; page = if c4 h then blank else old.page }
-- A header that ends the page closes it.
StepAt EndsPage packet old new = new ≡ record old { is_open = false }
-- A row packet of the page's magazine is stored if the page is open, and ignored otherwise.
StepAt (Row y) packet old new =
    MatchBool old.is_open
    ((new.heard ≡ old.heard) × (new.is_open ≡ old.is_open) × StoresRow packet y old.page new.page)
    (new ≡ old)
-- A packet of any other kind changes nothing.
StepAt Other packet old new = new ≡ old

-- A receiver of page w may change from the state `old` to the state `new` when it receives the
-- packet.
abbrev pub Step : PageIdValue → State → List ℕ → State → Type 0
Step w old packet new = StepAt (kind w packet) packet old new

-- The states `old` and `new` of a receiver before and after a list of packets, one step for each
-- packet.
abbrev pub RunsBy : {S : Type 0} → (S → List ℕ → S → Type 0) → S → List (List ℕ) → S → Type 0
RunsBy StepsBy old [] new = new ≡ old
RunsBy {S} StepsBy old (packet ∷ packets) new =
    (mid : S) × StepsBy old packet mid × RunsBy StepsBy mid packets new

-- A receiver of page w may change from the state `old` to the state `new` when it receives these
-- packets.
abbrev pub Hears : PageIdValue → State → List (List ℕ) → State → Type 0
Hears w old packets new = RunsBy (Step w) old packets new

-- For each byte of even parity in a stored row, this relation holds between the old and the new
-- code of its cell.
abbrev pub AtEvenParityBytes :
    (ℕ → ℕ → Type 0) → PageIdValue → State → List ℕ → State → Type 0
AtEvenParityBytes CodeChange w old packet new =
    (row column : ℕ)
    → IsCell row column
    → IsTrue old.is_open
    → kind w packet ≡ Row row
    → IsFalse (is_odd (text_byte packet column))
    → CodeChange (cell old.page row column) (cell new.page row column)

-- For a byte of even parity in a row that it stores, the receiver stores the code that `leaves`
-- returns for the old code: the old code itself, if it keeps cells, or a space, if it blanks them.
abbrev pub StoresForEvenParity : (ℕ → ℕ) → PageIdValue → State → List ℕ → State → Type 0
StoresForEvenParity leaves w old packet new =
    AtEvenParityBytes (λ was is. is ≡ leaves was) w old packet new

-- How a packet changes a receiver that stores `leaves` of the old code for a byte of even parity.
abbrev pub StepLeaving : (ℕ → ℕ) → PageIdValue → State → List ℕ → State → Type 0
StepLeaving leaves w old packet new = Step w old packet new
    × StoresForEvenParity leaves w old packet new

-- How a list of packets changes a receiver that stores `leaves` of the old code for a byte of even
-- parity.
abbrev pub HearsLeaving : (ℕ → ℕ) → PageIdValue → State → List (List ℕ) → State → Type 0
HearsLeaving leaves w old packets new = RunsBy (StepLeaving leaves w) old packets new

-- ---- two classes of receivers

-- The two classes of receivers in the laws: receivers that store the data bytes of odd parity of
-- each row, and receivers that drop a row with a data byte of even parity.
pub data ReceiverClass : Type 0 where
  Storing : ReceiverClass
  Dropping : ReceiverClass

-- The packet is a row packet, X/1 to X/24, of the page's magazine, and one of its 40 data bytes has
-- even parity.
abbrev pub is_row_with_even_parity : PageIdValue → List ℕ → Bool
is_row_with_even_parity w packet = is_page_row (kind w packet)
    && is_some (first_even_parity_column packet)

-- A receiver of this class, tuned to page w, drops the packet.
abbrev pub drops : ReceiverClass → PageIdValue → List ℕ → Bool
drops Storing w packet = false
drops Dropping w packet = is_row_with_even_parity w packet

-- How a packet may change a receiver of this class: the receiver ignores a packet that it drops,
-- and follows the model (`Step`) at every other packet.
abbrev pub StepBy : ReceiverClass → PageIdValue → State → List ℕ → State → Type 0
StepBy class w old packet new = MatchBool (drops class w packet) (new ≡ old) (Step w old packet new)

-- How a list of packets may change a receiver of this class.
abbrev pub HearsBy : ReceiverClass → PageIdValue → State → List (List ℕ) → State → Type 0
HearsBy class w old packets new = RunsBy (StepBy class w) old packets new
