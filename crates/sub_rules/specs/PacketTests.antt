-- The rules for Teletext packets as tests. A packet is tested even if earlier packets broke rules.
-- The address and the page header are read with single-bit errors corrected, but the rules
-- `Address` and `HeaderCode` find these errors.
use Rattle.std.specs.Prelude.{ℕ, zero, suc, ◌+◌, ◌&&◌, ◌||◌, ◌==◌, Bool, true, false, not, List, []}
use Rattle.std.specs.Prelude.{◌∷◌, Option, Some, None, option_map, is_some, nat_le, slice_index}
use Rattle.std.specs.List.{filter, find}
use Rattle.ttx_packet.specs.Hamming84.{code_word}
use Rattle.ttx_packet.specs.PacketAddress.{PacketAddress, address}
use Rattle.ttx_packet.specs.PageHeader.{c4, c5, c6, c7, c10, c11, header}
use Rattle.ttx_packet.specs.PageId.{PageIdValue}
use Rattle.ttx_packet.specs.RowPacket.{first_even_parity_column}
use Rattle.ttx_packet.specs.declared.header.Header.{Header}
use Rattle.ttx_page.specs.Differing.{row_difference}
use Rattle.ttx_page.specs.PacketKind.{is_row, is_page_row, kind}
use Rattle.ttx_page.specs.Span.{is_open_after, text_span}
use Rattle.ttx_page.specs.declared.packet_kind.PacketKind.{PacketKind}
use Rattle.ttx_page.specs.declared.packet_kind.PacketKind.TheVariants.{Row, ThisPage}
use Rattle.stl_rows.specs.declared.national.National.{National}
use Rattle.stl_rows.specs.declared.national.NationalBits.{NationalBits}
use Rattle.stl_rows.specs.SubSets.{sub_set}
use Rattle.sub_plan.specs.Sending.{national_bits}
use Rattle.sub_rules.specs.Kept.{last_header}
use Rattle.sub_rules.specs.PacketRules.{codes_of, first_header}
use Rattle.sub_rules.specs.declared.packet_rule.PacketRule.{PacketRule}
use Rattle.sub_rules.specs.declared.packet_rule.PacketRule.TheVariants as rule
use Rattle.sub_rules.specs.declared.packet_rule.Watched.{Watched}

-- The byte b is one of the first n Hamming 8/4 code words.
unfoldable pub is_word_below : ℕ → ℕ → Bool
is_word_below b zero = false
is_word_below b (suc n) = b == code_word n || is_word_below b n

-- The n bytes of a packet from position `from` on are code words without a wrong bit (EN 300 706,
-- 8.2).
unfoldable pub are_code_words : ℕ → ℕ → List ℕ → Bool
are_code_words from zero packet = true
are_code_words from (suc n) packet =
    is_word_below (slice_index packet (from + n)) 16 && are_code_words from n packet

-- The address is that of a page header, packet X/0.
abbrev pub is_header_address : Option PacketAddress → Bool
is_header_address None = false
is_header_address (Some a) = a.packet_number == 0

-- Both values of C11 are known, and they differ.
abbrev pub has_different_mode : Option Bool → Option Bool → Bool
has_different_mode (Some true) (Some false) = true
has_different_mode (Some false) (Some true) = true
has_different_mode _ _ = false

-- The two bits are equal.
abbrev pub is_same_bit : Bool → Bool → Bool
is_same_bit true b = b
is_same_bit false b = not b

-- Both national options have the same bits C12, C13 and C14.
abbrev pub is_same_option : NationalBits → NationalBits → Bool
is_same_option one other =
    is_same_bit one.c12 other.c12 && is_same_bit one.c13 other.c13 && is_same_bit one.c14 other.c14

-- The control bits of the header are those of a subtitle with this national option, with any C4.
abbrev pub has_subtitle_bits : National → Header → Bool
has_subtitle_bits national h =
    not (c5 h) && c6 h && c7 h && not (c10 h)
    && is_same_option (national_bits h) (sub_set national).bits

-- The header h has the same sub-code as `last`, the previous header of the page, if there was one.
abbrev pub is_same_subcode : Option Header → Header → Bool
is_same_subcode None h = true
is_same_subcode (Some last) h = h.subcode == last.subcode

-- The header h counts as a repeat of the page, `IsRepeat` as a test: it has the sub-code of the
-- page's previous header, if there is one; and if complete pages are required, the page is not
-- open.
abbrev pub counts_as_repeat : Bool → PageIdValue → List (List ℕ) → Header → Bool
counts_as_repeat complete page before h =
    is_same_subcode (last_header page before) h
    && not (complete && is_open_after (kind page) before)

-- The header h of the page has C4 (erase page) set or, if that is allowed, repeats the page.
abbrev pub erases_or_may_repeat : Watched → List (List ℕ) → Header → Bool
erases_or_may_repeat w before h = c4 h || (w.keeps && counts_as_repeat w.complete w.page before h)

-- The header h of the page is allowed after these packets: it has C4 (erase page) set or is an
-- allowed repeat, and has the control bits of a subtitle page.
abbrev pub is_allowed_page_header : Watched → List (List ℕ) → Header → Bool
is_allowed_page_header w before h =
    erases_or_may_repeat w before h && has_subtitle_bits w.national h

-- The packet is a header of the page that is not allowed after these packets.
abbrev pub is_wrong_header : Watched → List (List ℕ) → PacketKind → Bool
is_wrong_header w before (ThisPage h) = not (is_allowed_page_header w before h)
is_wrong_header w before _ = false

-- The packet q exists, and its text differs from `codes`.
abbrev pub has_different_text : Option (List ℕ) → List ℕ → Bool
has_different_text None codes = false
has_different_text (Some q) codes = not (row_difference (codes_of q) codes == 0)

-- The first packet of the row among these packets; `None` if the row was not sent.
abbrev pub first_packet_of_row : PageIdValue → List (List ℕ) → ℕ → Option (List ℕ)
first_packet_of_row page packets row = find (λ q. is_row row (kind page q)) packets

-- The packet p is a row whose text differs from the first packet of the same row among these
-- packets.
abbrev pub has_different_row : PageIdValue → List (List ℕ) → List ℕ → PacketKind → Bool
has_different_row page packets p (Row row) = has_different_text (first_packet_of_row page packets
    row) (codes_of p)
has_different_row page packets p _ = false

-- The address is that of a packet X/25 to X/28 of the page's magazine.
abbrev pub is_enhancement_address : PageIdValue → Option PacketAddress → Bool
is_enhancement_address page None = false
is_enhancement_address page (Some a) =
    a.magazine == page.magazine && nat_le 25 a.packet_number && nat_le a.packet_number 28

-- The packet p, sent after the packets `before`, breaks the rule.
unfoldable pub breaks : PacketRule → Watched → List (List ℕ) → List ℕ → Bool
breaks rule.Address w before p = not (are_code_words 0 2 p)
breaks rule.HeaderCode w before p = is_header_address (address p) && not (are_code_words 2 8 p)
breaks rule.Mode w before p =
    has_different_mode (option_map (λ (h : Header). c11 h) (first_header before))
    (option_map (λ (h : Header). c11 h) (header p))
breaks rule.Control w before p = is_wrong_header w before (kind w.page p)
breaks rule.Parity w before p =
    is_open_after (kind w.page) before && is_page_row (kind w.page p)
    && is_some (first_even_parity_column p)
breaks rule.RowChanged w before p =
    is_open_after (kind w.page) before
    && has_different_row w.page (text_span w.keeps (kind w.page) before) p (kind w.page p)
breaks rule.Enhancement w before p =
    is_open_after (kind w.page) before && is_enhancement_address w.page (address p)

-- The rules for a packet, in the order of reports.
unfoldable pub packet_rules : List PacketRule
packet_rules =
    rule.Address ∷ rule.HeaderCode ∷ rule.Mode ∷ rule.Control ∷ rule.Parity ∷ rule.RowChanged
    ∷ rule.Enhancement ∷ []

-- The rules that the packet p breaks, sent after the packets `before`.
unfoldable pub broken_rules : Watched → List (List ℕ) → List ℕ → List PacketRule
broken_rules w before p = filter (λ r. breaks r w before p) packet_rules
