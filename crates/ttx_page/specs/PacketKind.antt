-- The meaning of a packet for a receiver of one page (EN 300 706, page header and packets X/1 to
-- X/24).
--
-- A header changes a receiver of this crate only through the kind of its packet.
use Rattle.std.specs.Prelude.{ℕ, ◌&&◌, ◌||◌, not, Bool, true, false, List, Option, Some, None}
use Rattle.std.specs.Prelude.{◌==◌, nat_le, if◌then◌else◌}
use Rattle.ttx_packet.specs.declared.header.Header.{Header}
use Rattle.ttx_packet.specs.PacketAddress.{PacketAddress, address}
use Rattle.ttx_packet.specs.PageHeader.{c4, c11, header}
use Rattle.ttx_packet.specs.PageId.{PageIdValue}
use Rattle.ttx_page.specs.declared.packet_kind.PacketKind.{PacketKind}
use Rattle.ttx_page.specs.declared.packet_kind.PacketKind.TheVariants.{ThisPage, EndsPage, Row}
use Rattle.ttx_page.specs.declared.packet_kind.PacketKind.TheVariants.{Other}

-- The kind of a packet X/0 (EN 300 706). A header that cannot be decoded has no effect. A header in
-- the page's magazine is a header of the page, or ends the page. A header in another magazine ends
-- the page in serial mode, C11 set, and has no effect in parallel mode, C11 clear.
abbrev pub kind_of_header : PageIdValue → ℕ → Option Header → PacketKind
kind_of_header w magazine None = Other
kind_of_header w magazine (Some h) =
    if magazine == w.magazine
    then (if h.page == w.page then ThisPage h else EndsPage)
    else (if c11 h then EndsPage else Other)

-- The kind of a packet with this address and header. Packets X/1 to X/24 in the page's magazine are
-- rows of the page.
abbrev pub packet_kind_at : PageIdValue → Option PacketAddress → Option Header → PacketKind
packet_kind_at w None h = Other
packet_kind_at w (Some a) h =
    if a.packet_number == 0
    then kind_of_header w a.magazine h
    else (if (a.magazine == w.magazine) && nat_le a.packet_number 24
    then Row a.packet_number
    else Other)

-- The kind of a packet for a receiver of page w.
unfoldable pub kind : PageIdValue → List ℕ → PacketKind
kind w packet = packet_kind_at w (address packet) (header packet)

-- The packet is a header of the page.
abbrev pub is_this_page : PacketKind → Bool
is_this_page (ThisPage h) = true
is_this_page _ = false

-- The packet is a header that starts a new text of the page. If repeats may keep earlier text
-- (`keeps`), only a header of the page with C4, erase page, set does; otherwise every header of the
-- page does.
abbrev pub begins_text : Bool → PacketKind → Bool
begins_text keeps (ThisPage h) = c4 h || not keeps
begins_text keeps _ = false

-- The packet is a header that ends the page.
abbrev pub ends_page : PacketKind → Bool
ends_page EndsPage = true
ends_page _ = false

-- The packet is a packet of this row of the page.
abbrev pub is_row : ℕ → PacketKind → Bool
is_row row (Row y) = y == row
is_row row _ = false

-- The packet is a packet of a row of the page, 1 to 24.
abbrev pub is_page_row : PacketKind → Bool
is_page_row (Row y) = true
is_page_row _ = false
