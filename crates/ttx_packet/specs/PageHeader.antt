-- The page header, packet X/0 (EN 300 706, page header): eight Hamming 8/4 bytes and 32 text bytes.
-- Bytes are counted from 0; bytes 0 and 1 are the packet's address.
--
--   byte       D1      D2      D3      D4
--   2          page units, 4 bits
--   3          page tens, 4 bits
--   4          S1, 4 bits
--   5          S2, 3 bits              C4
--   6          S3, 4 bits
--   7          S4, 2 bits      C5      C6
--   8          C7      C8      C9      C10
--   9          C11     C12     C13     C14
--   10 to 41   text, odd parity
--
-- C4 erase page, C5 newsflash, C6 subtitle, C7 suppress header, C8 update indicator, C9 interrupted
-- sequence, C10 inhibit display, C11 magazine serial, C12 to C14 national option character sub-set.
use Rattle.std.specs.Prelude.{◌≡◌, ℕ, ◌+◌, ◌*◌, ◌/◌, ◌%◌, ◌<◌, ◌≤◌, Bool, true, false, List, []}
use Rattle.std.specs.Prelude.{◌∷◌, ◌++◌, Option, Some, None, ◌==◌, map, replicate, slice_index}
use Rattle.std.specs.Prelude.{bit_and, if◌then◌else◌, IsTrue}
use Rattle.ttx_packet.specs.Hamming84.{IsCodeWord, code_word}
use Rattle.ttx_packet.specs.Parity.{is_odd}
use Rattle.ttx_packet.specs.PacketAddress.{◌>>=◌, PacketAddress, decoded_at, address}
use Rattle.ttx_packet.specs.PacketAddress.{HasExactAddress, address_code_words}
use Rattle.ttx_packet.specs.declared.control.Control.{Control}
use Rattle.ttx_packet.specs.declared.header.Header.{Header}

-- Whether a control bit of a page header is set. In the number, C4 has the value 1 and C14 the
-- value 1024.
abbrev pub is_flag_set : Control → ℕ → Bool
is_flag_set control bit = bit_and control.0 bit == bit

-- Control bit C4, erase page: the page becomes blank before the packets after the header are
-- stored.
abbrev pub c4 : Header → Bool
c4 h = is_flag_set h.control 1

-- Control bit C5, newsflash.
abbrev pub c5 : Header → Bool
c5 h = is_flag_set h.control 2

-- Control bit C6, subtitle.
abbrev pub c6 : Header → Bool
c6 h = is_flag_set h.control 4

-- Control bit C7, suppress header.
abbrev pub c7 : Header → Bool
c7 h = is_flag_set h.control 8

-- Control bit C8, update indicator.
abbrev pub c8 : Header → Bool
c8 h = is_flag_set h.control 0x10

-- Control bit C9, interrupted sequence.
abbrev pub c9 : Header → Bool
c9 h = is_flag_set h.control 0x20

-- Control bit C10, inhibit display.
abbrev pub c10 : Header → Bool
c10 h = is_flag_set h.control 0x40

-- Control bit C11, magazine serial: set in serial mode, clear in parallel mode.
abbrev pub c11 : Header → Bool
c11 h = is_flag_set h.control 0x80

-- Control bit C12, the first bit of the national option character sub-set.
abbrev pub c12 : Header → Bool
c12 h = is_flag_set h.control 0x100

-- Control bit C13, the second bit of the national option character sub-set.
abbrev pub c13 : Header → Bool
c13 h = is_flag_set h.control 0x200

-- Control bit C14, the third bit of the national option character sub-set.
abbrev pub c14 : Header → Bool
c14 h = is_flag_set h.control 0x400

-- The page number in bytes 2 and 3 of a page header, with the page tens in the upper four bits.
-- `None` if one of the two bytes cannot be decoded. Ignores the packet address.
unfoldable pub decoded_page : List ℕ → Option ℕ
decoded_page packet = do
  units ← decoded_at packet 2
  tens ← decoded_at packet 3
  Some (units + 0x10 * tens)

-- The page header decoded from bytes 2 to 9 of a packet. `None` if one of these bytes cannot be
-- decoded. Ignores the packet address.
unfoldable pub decoded_header : List ℕ → Option Header
decoded_header packet = do
  units ← decoded_at packet 2
  tens ← decoded_at packet 3
  s1 ← decoded_at packet 4
  s2_c4 ← decoded_at packet 5
  s3 ← decoded_at packet 6
  s4_c6 ← decoded_at packet 7
  c7_c10 ← decoded_at packet 8
  c11_c14 ← decoded_at packet 9
  Some
      (record {
        page = units + 0x10 * tens;
        subcode = s1 + 0x10 * (s2_c4 % 8) + 0x100 * s3 + 0x1000 * (s4_c6 % 4);
        control = record { 0 = s2_c4 / 8 + 2 * (s4_c6 / 4) + 8 * c7_c10 + 0x80 * c11_c14 };
      })

-- The page header of a packet X/0 (EN 300 706, page header). `None` for any other packet, and if an
-- address byte or one of the bytes 2 to 9 cannot be decoded.
unfoldable pub header : List ℕ → Option Header
header packet = do
  a ← address packet
  if a.packet_number == 0 then decoded_header packet else None

-- The eight coded bytes of the page header, bytes 2 to 9, are Hamming 8/4 code words.
abbrev pub HasExactHeader : List ℕ → Type 0
HasExactHeader packet =
    (place : ℕ) → 2 ≤ place → place < 10 → IsCodeWord (slice_index packet place)

-- The two bytes of the page number, bytes 2 and 3 of a page header, are Hamming 8/4 code words.
abbrev pub HasExactPage : List ℕ → Type 0
HasExactPage packet = IsCodeWord (slice_index packet 2) × IsCodeWord (slice_index packet 3)

-- Both address bytes of the packet are code words; in a packet X/0, the eight coded bytes of the
-- page header are code words too.
abbrev pub HasExactCodeWords : List ℕ → Type 0
HasExactCodeWords packet =
    HasExactAddress packet
    × ((a : PacketAddress)
    → address packet ≡ Some a
    → a.packet_number ≡ 0
    → HasExactHeader packet)

-- The 32 text bytes of the page header, bytes 10 to 41, have odd parity.
abbrev pub HasOddParityHeaderText : List ℕ → Type 0
HasOddParityHeaderText packet =
    (place : ℕ) → 10 ≤ place → place < 42 → IsTrue (is_odd (slice_index packet place))

-- ---- created header packets

-- The value of a bit as a number, 0 or 1.
abbrev pub bit : Bool → ℕ
bit true = 1
bit false = 0

-- The number with these four data bits: D1 has the value 1, and D4 the value 8.
abbrev pub nibble : Bool → Bool → Bool → Bool → ℕ
nibble d1 d2 d3 d4 = bit d1 + 2 * bit d2 + 4 * bit d3 + 8 * bit d4

-- The eight numbers that bytes 2 to 9 of a page header encode (EN 300 706, page header).
abbrev pub header_numbers : Header → List ℕ
header_numbers h =
    (h.page % 0x10)
    ∷ (h.page / 0x10)
    ∷ (h.subcode % 0x10)
    ∷ (h.subcode / 0x10 % 8 + 8 * bit (c4 h))
    ∷ (h.subcode / 0x100 % 0x10)
    ∷ (h.subcode / 0x1000 % 4 + 4 * bit (c5 h) + 8 * bit (c6 h))
    ∷ nibble (c7 h) (c8 h) (c9 h) (c10 h)
    ∷ nibble (c11 h) (c12 h) (c13 h) (c14 h)
    ∷ []

-- The header packet of a page in a magazine, with 32 spaces as its text.
unfoldable pub header_packet : ℕ → Header → List ℕ
header_packet magazine h =
    address_code_words magazine 0 ++ map code_word (header_numbers h) ++ replicate 32 0x20

-- The page header without the bits that a packet X/0 cannot carry: sub-code bits outside 3F7F, and
-- all control bits except C4 to C14.
abbrev pub encodable_header : Header → Header
encodable_header h = record {
  page = h.page;
  subcode = h.subcode % 0x80 + 0x100 * (h.subcode / 0x100 % 0x40);
  control = record { 0 = h.control.0 % 0x800 };
}

-- A packet X/0 can carry the page header: the page number has two hexadecimal digits, the sub-code
-- has no bit outside 3F7F, and no control bit other than C4 to C14 is set.
pub record IsEncodableHeader (h : Header) : Type 0 where
  pub page : h.page < 0x100
  pub subcode : h.subcode < 0x4000
  pub subcode_bit_8_is_zero : h.subcode / 0x80 % 2 ≡ 0
  pub control : h.control.0 < 0x800
