-- The law of noise if packets are lost, and for receivers that drop rows. Any packets except page
-- headers may be lost.
use Rattle.std.specs.Prelude.{◌≡◌, ◌≢◌, ◌↔◌, ℕ, Bool, true, false, List, [], ◌∷◌, zip, All, Any}
use Rattle.std.specs.Prelude.{Option, Some, None, IsTrue, IsFalse, ⊤}
use Rattle.std.specs.List.{AllZip, items_where_true}
use Rattle.ttx_packet.specs.OneBit.{AreNear}
use Rattle.ttx_packet.specs.PacketAddress.{PacketAddress, address}
use Rattle.ttx_packet.specs.PageId.{PageIdValue}
use Rattle.ttx_packet.specs.RowPacket.{text_byte}
use Rattle.ttx_page.specs.declared.packet_kind.PacketKind.TheVariants.{Row}
use Rattle.ttx_page.specs.DroppedRows.{ExcusedBy}
use Rattle.ttx_page.specs.Noise.{IsSound, EndsWithShownText}
use Rattle.ttx_page.specs.PacketKind.{kind}
use Rattle.ttx_page.specs.Receiver.{HearsBy, ReceiverClass, State}
use Rattle.ttx_page.specs.Shown.{IsHit}
use Rattle.ttx_page.specs.Span.{span}

-- The packet's address does not decode to that of a page header, X/0, so the laws allow that the
-- packet is lost.
abbrev pub MayBeLost : List ℕ → Type 0
MayBeLost packet = (a : PacketAddress) → address packet ≡ Some a → a.packet_number ≢ 0

-- If the packet did not arrive, `MayBeLost` is true for it. `arrives` is true if it arrived.
abbrev pub LosesNoHeader : List ℕ → Bool → Type 0
LosesNoHeader sent arrives = IsFalse arrives → MayBeLost sent

-- For each flag, the received bytes of its packet, or `None` if the packet was lost or `got` has no
-- bytes left for it. `got` has the bytes of the packets that arrived.
abbrev pub arrivals_from_flags : List Bool → List (List ℕ) → List (Option (List ℕ))
arrivals_from_flags [] got = []
arrivals_from_flags (false ∷ arrived) got = None ∷ arrivals_from_flags arrived got
arrivals_from_flags (true ∷ arrived) [] = None ∷ arrivals_from_flags arrived []
arrivals_from_flags (true ∷ arrived) (first ∷ got) = Some first ∷ arrivals_from_flags arrived got

-- The packet was lost, or its byte for the column was received with a wrong value.
abbrev pub LosesOrCorruptsByte : List ℕ → Option (List ℕ) → ℕ → Type 0
LosesOrCorruptsByte sent None column = ⊤
LosesOrCorruptsByte sent (Some got) column = text_byte got column ≢ text_byte sent column

-- The cell was hit by noise or loss: a packet of its row, in the last transmission of the page, was
-- lost or was received with a wrong byte for the cell.
abbrev pub IsHitOrLost :
    PageIdValue → List (List ℕ) → List (Option (List ℕ)) → ℕ → ℕ → Type 0
IsHitOrLost w sent arrivals row column =
    Any (λ pair. (kind w pair.0 ≡ Row row) × LosesOrCorruptsByte pair.0 pair.1 column)
    (span (λ (pair : List ℕ × Option (List ℕ)). kind w pair.0) (zip sent arrivals))

-- The law of noise if packets other than page headers may be lost, and the packets that arrive have
-- at most one wrong bit in each byte. A cell of a lost row counts as hit. In receivers that drop
-- rows, one hit byte counts as a hit of all cells of its row. So noise never puts a wrong character
-- other than a space into the decoded page, even if packets are lost.
abbrev pub LawOfLostRows : Type 0
LawOfLostRows =
    (class : ReceiverClass) (w : PageIdValue) (sent : List (List ℕ)) (arrived : List Bool)
    → (got : List (List ℕ)) (old new : State)
    → IsSound w sent
    → AllZip LosesNoHeader sent arrived
    → AllZip AreNear (items_where_true arrived sent) got
    → IsFalse old.heard
    → IsFalse old.is_open
    → HearsBy class w old got new
    → EndsWithShownText w sent
    (ExcusedBy class (IsHitOrLost w sent (arrivals_from_flags arrived got))) new

-- ---- the law of noise as a special case

-- The received packets and the hit cells are the same as in the law of noise, as they are if every
-- packet arrives.
pub record LosesNothing (w : PageIdValue) (sent : List (List ℕ)) (arrived : List Bool)
    : Type 0 where
  pub kept : items_where_true arrived sent ≡ sent
  pub hits :
      (got : List (List ℕ))
      → AllZip AreNear sent got
      → (row column : ℕ)
      → IsHitOrLost w sent (arrivals_from_flags arrived got) row column
      ↔ IsHit w sent got row column

-- If every packet arrives, the received packets and the hit cells are those of the law of noise. So
-- the law of noise is a special case of the law of lost rows.
abbrev pub LawOfNothingLost : Type 0
LawOfNothingLost =
    (w : PageIdValue) (sent : List (List ℕ)) (arrived : List Bool)
    → All IsTrue arrived
    → AllZip LosesNoHeader sent arrived
    → LosesNothing w sent arrived
