-- The Teletext packets of a file that arrive at the receiver, and those that it uses. Some packets
-- are skipped or lost, and some bits are flipped (not defined by a standard). Packets are numbered
-- from 0 over the whole source.
use Rattle.std.specs.Prelude.{◌≡◌, ℕ, ◌+◌, Bool, true, false, not, ◌&&◌, List, [], ◌∷◌}
use Rattle.std.specs.Prelude.{MatchBool, Option, Some, None, option_map}
use Rattle.std.specs.Prelude.{if◌then◌else◌, ◌==◌, nat_le}
use Rattle.std.specs.List.{filter, list_any}
use Rattle.ttx_packet.specs.PacketAddress.{PacketAddress, address}
use Rattle.ttx_packet.specs.PageId.{PageIdValue}
use Rattle.ttx_page.specs.Page.{blank, space}
use Rattle.ttx_page.specs.PacketKind.{is_this_page, kind}
use Rattle.ttx_page.specs.Receiver.{Hears, StoresForEvenParity, RunsBy, Step}
use Rattle.ttx_page.specs.Receiver.{is_row_with_even_parity}
use Rattle.ttx_page.specs.Receiver.ReceiverClass.{Storing}
use Rattle.ttx_page.specs.Repeats.{HearsRepeats, ShowsRepeats}
use Rattle.ttx_page.specs.Screen.{Display, Shows, screen_after}
use Rattle.sub_request.specs.Flips.{with_flips}
use Rattle.sub_request.specs.declared.listening.Flip.{Flip}
use Rattle.sub_request.specs.declared.listening.Listening.{Listening}
use Rattle.sub_request.specs.declared.listening.ReceiverKind.{ReceiverKind}
use Rattle.sub_request.specs.declared.listening.ReceiverKind.TheVariants.{BlankEachHeader, Blank}
use Rattle.sub_request.specs.declared.listening.ReceiverKind.TheVariants.{DropRow, Keep}

-- The requested bit errors and losses: how many packets are skipped at the start, which packets are
-- listed as lost, and which bits are flipped.
pub record Reception : Type 0 where
  pub skip : ℕ
  pub lost : List ℕ
  pub flips : List Flip

-- The bit errors and losses that the user requests for the command `listen`.
abbrev pub reception_of : Listening → Reception
reception_of l = record { skip = l.skip; lost = l.lost.items; flips = l.flips.items }

-- Packet `number` is lost: it is listed as lost, and not skipped.
abbrev pub is_lost_packet : Reception → ℕ → Bool
is_lost_packet r number = nat_le r.skip number && list_any (λ n. n == number) r.lost

-- Packet `number` arrives: it is neither skipped nor lost.
abbrev pub is_received_packet : Reception → ℕ → Bool
is_received_packet r number = nat_le r.skip number && not (list_any (λ n. n == number) r.lost)

-- The packets of a list that arrive at the receiver, with their bit errors. The first packet of the
-- list is packet `number` of the source.
abbrev pub arriving_packets : Reception → ℕ → List (List ℕ) → List (List ℕ)
arriving_packets r number [] = []
arriving_packets r number (packet ∷ packets) =
    if is_received_packet r number
    then with_flips r.flips number packet ∷ arriving_packets r (number + 1) packets
    else arriving_packets r (number + 1) packets

-- A receiver of page w uses an arriving packet. A receiver that drops rows does not use a row of
-- its page's magazine with a data byte of even parity.
abbrev pub is_packet_used : ReceiverKind → PageIdValue → List ℕ → Bool
is_packet_used DropRow w packet = not (is_row_with_even_parity w packet)
is_packet_used _ w packet = true

-- The packets of a list that the receiver uses: those that arrive, without the rows that it drops.
-- The first packet of the list is packet `number` of the source.
abbrev pub packets_used_by : Listening → ℕ → List (List ℕ) → List (List ℕ)
packets_used_by l number packets =
    filter (is_packet_used l.receiver l.options.page) (arriving_packets (reception_of l) number
    packets)

-- The code that a receiver stores in a cell for a byte of even parity, given the old code. A
-- receiver that drops rows stores no row with such a byte.
abbrev pub code_left_by_receiver : ReceiverKind → ℕ → ℕ
code_left_by_receiver Keep = λ was. was
code_left_by_receiver Blank = λ was. space
code_left_by_receiver DropRow = λ was. was
code_left_by_receiver BlankEachHeader = λ was. space

-- The receiver starts again from a blank page at each header of its page.
abbrev pub restarts_at_header : ReceiverKind → Bool
restarts_at_header BlankEachHeader = true
restarts_at_header _ = false

-- How a packet changes a receiver of page w that uses it.
pub record TakesPacket
    (asks_complete anew : Bool) (leaves : ℕ → ℕ) (w : PageIdValue)
    (old : Display) (packet : List ℕ) (new : Display)
    : Type 0 where
  -- The receiver follows the model (`Step`), and stores `leaves` of the old code for a byte of even
  -- parity. But a receiver that starts again has an open blank page after each header of its page.
  pub step :
      MatchBool (anew && is_this_page (kind w packet))
      (new.receiver_state ≡ record { heard = true; is_open = true; page = blank })
      (Step w old.receiver_state packet new.receiver_state)
  pub cells : StoresForEvenParity leaves w old.receiver_state packet new.receiver_state
  -- If complete pages are required, the receiver's screen displays a page when a header of another
  -- page ends it; otherwise the screen does not change.
  pub screen : new.screen ≡ (if asks_complete then screen_after old new.receiver_state
      else old.screen)

-- How a list of packets changes a receiver of page w that uses them, in order.
abbrev pub ReceivesPackets :
    Listening → (ℕ → ℕ) → PageIdValue → Display → List (List ℕ) → Display → Type 0
ReceivesPackets l leaves w old packets new =
    RunsBy (TakesPacket l.options.asks_complete (restarts_at_header l.receiver) leaves w) old
    packets new

-- A packet may be lost if its address can be decoded and it is not a packet X/0, a page header (EN
-- 300 706).
abbrev pub may_be_lost_at : Option PacketAddress → Bool
may_be_lost_at None = false
may_be_lost_at (Some a) = not (a.packet_number == 0)

-- The index, in a list of packets, of the first packet that is lost (`is_lost_packet`) but must not
-- be lost; `None` if there is none.
abbrev pub first_forbidden_loss : Reception → ℕ → List (List ℕ) → Option ℕ
first_forbidden_loss r number [] = None
first_forbidden_loss r number (packet ∷ packets) =
    if is_lost_packet r number && not (may_be_lost_at (address packet))
    then Some 0
    else option_map (λ place. place + 1) (first_forbidden_loss r (number + 1) packets)

-- The receiver that `listen` simulates is a receiver to which the law of repeats applies. If the
-- user requests it, the receiver starts again at each header of its page; otherwise it follows the
-- model `Hears`. Its screen changes only if complete pages are required. So the laws about
-- receivers apply to the output of `listen`.
abbrev pub LawOfListening : Type 0
LawOfListening =
    (l : Listening) (leaves : ℕ → ℕ) (w : PageIdValue) (packets : List (List ℕ))
    (old new : Display)
    → ReceivesPackets l leaves w old packets new
    → HearsRepeats Storing (restarts_at_header l.receiver) w old.receiver_state packets
    new.receiver_state
    × (restarts_at_header l.receiver ≡ false → Hears w old.receiver_state packets
    new.receiver_state)
    × (l.options.asks_complete ≡ true
    → ShowsRepeats Storing (restarts_at_header l.receiver) w old packets new
    × (restarts_at_header l.receiver ≡ false → Shows w old packets new))
    × (l.options.asks_complete ≡ false → new.screen ≡ old.screen)
