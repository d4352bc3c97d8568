-- The law of noise for a receiver in any state. A receiver in the field has always received
-- something before: another transmission, noise, or rows without their page header. After the next
-- header of its page, which erases the page, nothing received before has an effect on it.
use Rattle.std.specs.Prelude.{◌≡◌, ℕ, ◌⊎◌, Bool, List, IsTrue}
use Rattle.std.specs.List.{AllZip, items_where_true}
use Rattle.ttx_packet.specs.OneBit.{AreNear}
use Rattle.ttx_packet.specs.PageId.{PageIdValue}
use Rattle.ttx_page.specs.DroppedRows.{ExcusedBy}
use Rattle.ttx_page.specs.LostRows.{IsHitOrLost, LosesNoHeader, arrivals_from_flags}
use Rattle.ttx_page.specs.Noise.{IsSound}
use Rattle.ttx_page.specs.Page.{space, cell, IsCell}
use Rattle.ttx_page.specs.PacketKind.{kind}
use Rattle.ttx_page.specs.Receiver.{HearsBy, ReceiverClass, State}
use Rattle.ttx_page.specs.Shown.{shown}
use Rattle.ttx_page.specs.Span.{has_page_header, has_no_page_end}

-- The final state of a receiver that started in any state and has received a header of its page.
pub record EndsRecovered
    (w : PageIdValue) (sent : List (List ℕ)) (IsExcused : ℕ → ℕ → Type 0) (new : State)
    : Type 0 where
  -- The receiver has received a header of the page.
  pub heard : IsTrue new.heard
  -- The page is open exactly if no header after the last header of the page ends it.
  pub is_open : new.is_open ≡ has_no_page_end (kind w) sent
  -- Each cell of the page has the code that the packets show, or it is a space and `IsExcused` is
  -- true for it.
  pub cells :
      (row column : ℕ)
      → IsCell row column
      → (cell new.page row column ≡ shown w sent row column)
      ⊎ ((cell new.page row column ≡ space) × IsExcused row column)

-- The law of lost rows for a receiver in any state: if a header of its page was sent, the receiver
-- decodes the page as the law of lost rows states.
abbrev pub LawOfRecovery : Type 0
LawOfRecovery =
    (class : ReceiverClass) (w : PageIdValue) (sent : List (List ℕ)) (arrived : List Bool)
    → (got : List (List ℕ)) (old new : State)
    → IsSound w sent
    → AllZip LosesNoHeader sent arrived
    → AllZip AreNear (items_where_true arrived sent) got
    → IsTrue (has_page_header (kind w) sent)
    → HearsBy class w old got new
    → EndsRecovered w sent (ExcusedBy class (IsHitOrLost w sent (arrivals_from_flags arrived got)))
    new
