-- The character codes that a list of packets shows on a page, and the cells hit by noise.
use Rattle.std.specs.Prelude.{◌≡◌, ◌≢◌, ℕ, Bool, List, Any, find, zip, option_map, unwrap_or}
use Rattle.ttx_packet.specs.Parity.{character_code}
use Rattle.ttx_packet.specs.PageId.{PageIdValue}
use Rattle.ttx_packet.specs.RowPacket.{text_byte}
use Rattle.ttx_page.specs.declared.packet_kind.PacketKind.TheVariants.{Row}
use Rattle.ttx_page.specs.Page.{space}
use Rattle.ttx_page.specs.PacketKind.{kind, is_row}
use Rattle.ttx_page.specs.Span.{span, text_span}

-- The character code that the packets show in a cell: the code in the first packet of its row in
-- the last transmission of the page, or a space if that has no packet of the row.
abbrev pub shown : PageIdValue → List (List ℕ) → ℕ → ℕ → ℕ
shown w packets row column =
    unwrap_or
    (option_map (λ p. character_code (text_byte p column))
    (find (λ p. is_row row (kind w p)) (span (kind w) packets)))
    space

-- The character code that the packets show in a cell if repeats may keep earlier text (`keeps`):
-- the code in the first packet of its row in the transmissions of the current text, or a space if
-- these have no packet of the row.
abbrev pub kept : Bool → PageIdValue → List (List ℕ) → ℕ → ℕ → ℕ
kept keeps w packets row column =
    unwrap_or
    (option_map (λ p. character_code (text_byte p column))
    (find (λ p. is_row row (kind w p)) (text_span keeps (kind w) packets)))
    space

-- The cell was hit by noise: a packet of its row, in the last transmission of the page, was
-- received with a wrong byte for the cell.
abbrev pub IsHit : PageIdValue → List (List ℕ) → List (List ℕ) → ℕ → ℕ → Type 0
IsHit w sent got row column =
    Any (λ pair. (kind w pair.0 ≡ Row row) × (text_byte pair.1 column ≢ text_byte pair.0 column))
    (span (λ (pair : List ℕ × List ℕ). kind w pair.0) (zip sent got))
