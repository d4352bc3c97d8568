-- A receiver reads the packets of a page transmission as a header of the page, its rows and the
-- closing header.
use Rattle.std.proofs.Common.{rules, ◌≡◌, ℕ, ◌+◌, ◌-◌, ◌*◌, ◌/◌, ◌%◌, ◌<◌, ◌≤◌, Bool, List, [], ◌∷◌}
use Rattle.std.proofs.Common.{◌++◌, length, map, replicate, slice_index, All, refl, arith, lit<}
use Rattle.std.proofs.Common.{eq-eqb, ne_eqb}
use Rattle.std.proofs.lemmas.Bool.{le-leb, ltb-true}
use Rattle.std.proofs.lemmas.Bool.Decides.{nat_tests}
use Rattle.std.proofs.lemmas.List.{get_or_past}
use Rattle.std.proofs.lemmas.List.Sums.{AllPass-from_list_all}
use Rattle.std.proofs.lemmas.List.Elements.{All-append, All-replicate, All-map, All-weaker}
use Rattle.std.proofs.lemmas.List.Elements.{All-from_get_or}
use Rattle.ttx_packet.specs.declared.header.Header.{Header}
use Rattle.ttx_packet.specs.Hamming84.{code_word}
use Rattle.ttx_packet.specs.PacketAddress.{IsPacket, address_code_words}
use Rattle.ttx_packet.specs.PageHeader.{header_numbers, header_packet, IsEncodableHeader}
use Rattle.ttx_packet.specs.PageId.{PageIdValue}
use Rattle.ttx_packet.specs.Parity.{odd_parity_byte}
use Rattle.ttx_packet.specs.RowPacket.{row_packet}
use Rattle.ttx_packet.specs.Laws.{IsEncodedHeader, IsEncodedRow}
use Rattle.ttx_packet.proofs.ControlLemmas.{bit_is_below_two}
use Rattle.ttx_packet.proofs.EncodedPacketLemmas.{law_of_header_packet, law_of_row_packet}
use Rattle.ttx_page.specs.declared.packet_kind.PacketKind.TheVariants.{ThisPage, EndsPage, Row}
use Rattle.ttx_page.specs.Page.{Rows, row_at, IsPage}
use Rattle.ttx_page.specs.PacketKind.{kind}
use Rattle.stl_rows.specs.declared.national.National.{National}
use Rattle.sub_plan.specs.Options.{IsWatchable}
use Rattle.sub_plan.specs.Sending.{watched_header, closing_header}

abbrev IsByte : ℕ → Type 0
IsByte b = b < 0x100

element_of_bytes_is_byte : (xs : List ℕ) → All IsByte xs → (n : ℕ) → slice_index xs n < 0x100
element_of_bytes_is_byte xs all n = grind (arith, nat_tests, get_or_past)

code_word_is_byte : (n : ℕ) → code_word n < 0x100
code_word_is_byte n = grind
    (arith, nat_tests, element_of_bytes_is_byte, ltb-true, AllPass-from_list_all)

code_words_are_bytes : (numbers : List ℕ) → All IsByte (map code_word numbers)
code_words_are_bytes numbers = search (rules, All-map, code_word_is_byte)

odd_byte_is_byte : (code : ℕ) → code < 0x80 → odd_parity_byte code < 0x100
odd_byte_is_byte code l = grind (arith, nat_tests)

address_and_bytes_make_packet : (magazine y : ℕ) (rest : List ℕ) → length
    (address_code_words magazine y ++ rest) ≡ 42
    → All IsByte rest → IsPacket (address_code_words magazine y ++ rest)
address_and_bytes_make_packet magazine y rest size all = record {
  size = size;
  bytes = element_of_bytes_is_byte (address_code_words magazine y ++ rest)
      (All-append IsByte (address_code_words magazine y) rest
      (code_words_are_bytes ((magazine + 8 * y) % 16 ∷ (magazine + 8 * y) / 16 ∷ [])) all);
}

pub header_makes_packet : (magazine : ℕ) (h : Header) → length (header_packet magazine h) ≡ 42
    → IsPacket (header_packet magazine h)
unfolding header_packet
header_makes_packet magazine h size =
    address_and_bytes_make_packet magazine 0 _ size
    (All-append IsByte (map code_word (header_numbers h)) (replicate 32 0x20)
    (code_words_are_bytes (header_numbers h)) (All-replicate IsByte 32 0x20 (lit< tt)))

pub row_codes_make_packet : (magazine row : ℕ) (codes : List ℕ)
    → length (row_packet magazine row codes) ≡ 42
    → All (λ c. c < 0x80) codes → IsPacket (row_packet magazine row codes)
unfolding row_packet
row_codes_make_packet magazine row codes size all =
    address_and_bytes_make_packet magazine row _ size
    (All-map IsByte odd_parity_byte codes
    (All-weaker (λ c. c < 0x80) (λ c. odd_parity_byte c < 0x100) odd_byte_is_byte codes all))

watched_header_is_header : (w : PageIdValue) (national : National) (serial : Bool) → IsWatchable w
    → IsEncodableHeader (watched_header w national serial)
watched_header_is_header w national serial ok = grind (arith, nat_tests, bit_is_below_two)

closing_header_is_header : (serial : Bool) → IsEncodableHeader (closing_header serial)
closing_header_is_header serial = grind (arith, nat_tests, bit_is_below_two)

abbrev pub watched_header_packet : PageIdValue → National → Bool → List ℕ
watched_header_packet w national serial = header_packet w.magazine (watched_header w national
    serial)

abbrev pub closing_header_packet : PageIdValue → Bool → List ℕ
closing_header_packet w serial = header_packet w.magazine (closing_header serial)

pub watched_packet_is_made_header : (w : PageIdValue) (national : National) (serial : Bool) →
    IsWatchable w
    → IsEncodedHeader w.magazine (watched_header w national serial) (watched_header_packet w
    national serial)
watched_packet_is_made_header w national serial ok = search (
  rules,
  law_of_header_packet,
  watched_header_is_header,
)

pub closing_packet_is_made_header : (w : PageIdValue) (serial : Bool) → IsWatchable w
    → IsEncodedHeader w.magazine (closing_header serial) (closing_header_packet w serial)
closing_packet_is_made_header w serial ok = search
    (rules, law_of_header_packet, closing_header_is_header)

abbrev pub row_of : PageIdValue → Rows → ℕ → List ℕ
row_of w page row = row_packet w.magazine row (row_at page row)

pub row_has_40_columns : (page : Rows) (row : ℕ) → IsPage page → 1 ≤ row → row ≤ 24
    → length (row_at page row) ≡ 40
row_has_40_columns page row shape one high = shape.columns (row - 1) (omega arith)

pub row_codes : (page : Rows) (row : ℕ) → IsPage page → All (λ c. c < 0x80) (row_at page row)
row_codes page row shape =
    All-from_get_or (λ c. c < 0x80) (row_at page row) 0 (λ i l. shape.codes (row - 1) i)

pub row_packet_is_made_row : (w : PageIdValue) (page : Rows) (row : ℕ) → IsWatchable w → IsPage page
    → 1 ≤ row
    → row ≤ 24 → IsEncodedRow w.magazine row (row_at page row) (row_of w page row)
row_packet_is_made_row w page row ok shape one high =
    law_of_row_packet w.magazine row (row_at page row) ok.magazine one (omega arith)
    (row_has_40_columns page row shape one high) (row_codes page row shape)

pub watched_packet_opens_page : (w : PageIdValue) (national : National) (serial : Bool) →
    IsWatchable w
    → kind w (watched_header_packet w national serial) ≡ ThisPage (watched_header w national serial)
unfolding kind
watched_packet_opens_page w national serial ok = grind
    (arith, nat_tests, watched_packet_is_made_header w national serial ok)

pub closing_packet_ends_page : (w : PageIdValue) (serial : Bool) → IsWatchable w
    → kind w (closing_header_packet w serial) ≡ EndsPage
unfolding kind
closing_packet_ends_page w serial ok =
    grind (
      arith,
      nat_tests,
      closing_packet_is_made_header w serial ok,
      ne_eqb,
      eq-eqb w.magazine
          w.magazine refl,
    )

pub row_packet_has_row_kind : (w : PageIdValue) (page : Rows) (row : ℕ) → IsWatchable w → IsPage
    page → 1 ≤ row
    → row ≤ 24 → kind w (row_of w page row) ≡ Row row
unfolding kind
row_packet_has_row_kind w page row ok shape one high =
    let made = row_packet_is_made_row w page row ok shape one high in
    grind (arith, nat_tests, row_packet_is_made_row, ne_eqb, eq-eqb, le-leb)
