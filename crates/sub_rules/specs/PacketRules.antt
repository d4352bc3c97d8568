-- The seven rules for Teletext packets. Whether a packet breaks a rule may depend on the packets
-- before it.
use Rattle.std.specs.Prelude.{◌≡◌, ℕ, ◌<◌, List, [], ◌∷◌, take, length, slice_index_or}
use Rattle.std.specs.Prelude.{Option, Some, None, IsTrue, filter, map, drop}
use Rattle.std.specs.List.{AllByRecursion}
use Rattle.std.specs.Option.{option_or}
use Rattle.ttx_packet.specs.PacketAddress.{PacketAddress, address, HasExactAddress}
use Rattle.ttx_packet.specs.PacketAddress.{IsPacket}
use Rattle.ttx_packet.specs.PageHeader.{c11, header, HasExactHeader}
use Rattle.ttx_packet.specs.Parity.{character_code}
use Rattle.ttx_packet.specs.declared.header.Header.{Header}
use Rattle.ttx_page.specs.declared.packet_kind.PacketKind.TheVariants.{Row}
use Rattle.ttx_packet.specs.PageId.{PageIdValue}
use Rattle.ttx_page.specs.Noise.{HasOddParityTextIfRow}
use Rattle.ttx_page.specs.PacketKind.{is_this_page, kind}
use Rattle.ttx_page.specs.Span.{is_open_after, text_span}
use Rattle.sub_rules.specs.Good.{IsEnhancement}
use Rattle.sub_rules.specs.Kept.{HasAllowedHeader}
use Rattle.sub_rules.specs.declared.packet_rule.PacketRule.{PacketRule}
use Rattle.sub_rules.specs.declared.packet_rule.PacketRule.TheVariants as rule
use Rattle.sub_rules.specs.declared.packet_rule.Watched.{Watched}
pub use Rattle.ttx_pes.specs.SentUnits.{packets_of_units}

-- The first page header, of any page, that can be decoded in a list of packets; `None` if there is
-- none.
abbrev pub first_header : List (List ℕ) → Option Header
first_header [] = None
first_header (p ∷ ps) = option_or (header p) (first_header ps)

-- The 40 codes of a row, without parity bits.
abbrev pub codes_of : List ℕ → List ℕ
codes_of packet = map character_code (drop 2 packet)

-- The number of headers of the page among these packets.
abbrev pub header_count : PageIdValue → List (List ℕ) → ℕ
header_count page packets = length (filter (λ p. is_this_page (kind page p)) packets)

-- The packet p, sent after the packets `before`, keeps the rule.
abbrev pub KeepsRule : PacketRule → Watched → List (List ℕ) → List ℕ → Type 0
-- Address: both address bytes are code words without a wrong bit.
KeepsRule rule.Address w before p = HasExactAddress p
-- HeaderCode: in a packet X/0, the eight coded bytes are code words without a wrong bit.
KeepsRule rule.HeaderCode w before p =
    (a : PacketAddress) → address p ≡ Some a → a.packet_number ≡ 0 → HasExactHeader p
-- Mode: a page header that can be decoded, of any page and magazine, has the same C11 as the first
-- such header.
KeepsRule rule.Mode w before p =
    (h first : Header)
    → header p ≡ Some h
    → first_header before ≡ Some first
    → c11 h ≡ c11 first
-- Control: a header of the page has the control bits of a subtitle page, and has C4 (erase page)
-- set or, if that is allowed, repeats the page.
KeepsRule rule.Control w before p = HasAllowedHeader w before p
-- Parity: while the page is open, its rows have 40 bytes of odd parity.
KeepsRule rule.Parity w before p =
    IsTrue (is_open_after (kind w.page) before) → HasOddParityTextIfRow w.page p
-- RowChanged: while the page is open, a row equals the earlier packets of the same row that were
-- sent while the page was open, since its last header or, if repeats may keep the page, since the
-- last header that erases it, if any.
KeepsRule rule.RowChanged w before p =
    IsTrue (is_open_after (kind w.page) before)
    → (row : ℕ)
    → kind w.page p ≡ Row row
    → AllByRecursion (λ q. kind w.page q ≡ Row row → q ≡ p)
    (text_span w.keeps (kind w.page) before)
-- Enhancement: while the page is open, no packet X/25 to X/28 of the page's magazine is sent.
KeepsRule rule.Enhancement w before p =
    IsTrue (is_open_after (kind w.page) before) → IsEnhancement w.page p → ⊥

-- The packet p, sent after the packets `before`, keeps all seven rules.
abbrev pub KeepsAllRules : Watched → List (List ℕ) → List ℕ → Type 0
KeepsAllRules w before p = (f : PacketRule) → KeepsRule f w before p

-- Each packet has 42 bytes, and keeps all seven rules after the packets before it.
abbrev pub AreClean : Watched → List (List ℕ) → Type 0
AreClean w packets =
    (k : ℕ)
    → k < length packets
    → IsPacket (slice_index_or packets k [])
    × KeepsAllRules w (take k packets) (slice_index_or packets k [])
