-- Laws about Teletext packets: what one wrong bit in each byte changes, and what decoding a created
-- packet returns.
use Rattle.std.specs.Prelude.{◌≡◌, ◌≢◌, ◌↔◌, ℕ, ◌<◌, ◌≤◌, List, length, Some, None, All, IsTrue}
use Rattle.std.specs.Prelude.{IsFalse, slice_index}
use Rattle.ttx_packet.specs.declared.header.Header.{Header}
use Rattle.ttx_packet.specs.OneBit.{IsNear, AreNear}
use Rattle.ttx_packet.specs.Hamming84.{Decodes, decoded_nibble}
use Rattle.ttx_packet.specs.Parity.{is_odd, character_code}
use Rattle.ttx_packet.specs.BitOrder.{mirror}
use Rattle.ttx_packet.specs.PacketAddress.{address, HasExactAddress}
use Rattle.ttx_packet.specs.PageHeader.{header, HasExactCodeWords, HasOddParityHeaderText}
use Rattle.ttx_packet.specs.PageHeader.{header_packet, IsEncodableHeader}
use Rattle.ttx_packet.specs.RowPacket.{text_byte, HasOddParityText, row_packet}

-- A byte decodes to a number exactly if it differs in at most one bit from the code word of that
-- number. So it decodes to at most one number.
abbrev pub LawOfDecoding : Type 0
LawOfDecoding = (b n : ℕ) → decoded_nibble b ≡ Some n ↔ Decodes b n

-- One wrong bit in each byte does not change the decoded address of a packet whose address bytes
-- were sent as code words. So a receiver never takes such a packet for a packet with another
-- address.
abbrev pub LawOfAddress : Type 0
LawOfAddress =
    (sent got : List ℕ)
    → HasExactAddress sent
    → AreNear sent got
    → address got ≡ address sent

-- One wrong bit in each byte does not change the decoded page header of a packet whose coded bytes
-- were sent as code words. So a receiver never takes such a header for the header of another page.
abbrev pub LawOfHeader : Type 0
LawOfHeader =
    (sent got : List ℕ)
    → HasExactCodeWords sent
    → AreNear sent got
    → header got ≡ header sent

-- A byte of odd parity with one changed bit has even parity. So a receiver detects a single wrong
-- bit in a text byte.
abbrev pub LawOfParity : Type 0
LawOfParity =
    (sent got : ℕ)
    → IsTrue (is_odd sent)
    → IsNear sent got
    → got ≢ sent
    → IsFalse (is_odd got)

-- Reversing the bits of a byte twice gives the same byte.
abbrev pub LawOfMirror : Type 0
LawOfMirror = (b : ℕ) → b < 0x100 → mirror (mirror b) ≡ b

-- The packet is a packet X/0 of the magazine, with 42 bytes, and encodes the page header h: its
-- decoded header is h, its coded bytes are code words, and its text bytes have odd parity.
pub record IsEncodedHeader (magazine : ℕ) (h : Header) (packet : List ℕ) : Type 0 where
  pub whole : length packet ≡ 42
  pub address : address packet ≡ Some (record { magazine = magazine; packet_number = 0 })
  pub header : header packet ≡ Some h
  pub exact : HasExactCodeWords packet
  pub odd : HasOddParityHeaderText packet

-- Decoding a packet that was created from a magazine, 0 to 7, and a header returns both, if a page
-- header can carry all bits of the header (`IsEncodableHeader`). The coded bytes are code words,
-- and the text bytes have odd parity.
abbrev pub LawOfHeaderPacket : Type 0
LawOfHeaderPacket =
    (magazine : ℕ) (h : Header)
    → magazine < 8
    → IsEncodableHeader h
    → IsEncodedHeader magazine h (header_packet magazine h)

-- The packet encodes a row with these codes: it has 42 bytes and no page header, its address is
-- that of the row in code words, its text bytes carry the codes, and they have odd parity.
pub record IsEncodedRow (magazine row : ℕ) (codes packet : List ℕ) : Type 0 where
  pub whole : length packet ≡ 42
  pub address : address packet ≡ Some (record { magazine = magazine; packet_number = row })
  pub header : header packet ≡ None
  pub exact : HasExactCodeWords packet
  pub text : (column : ℕ)
      → column < 40
      → character_code (text_byte packet column) ≡ slice_index codes column
  pub odd : HasOddParityText packet

-- Decoding a packet that was created from a magazine, 0 to 7, a row number, 1 to 31, and 40
-- character codes below 128 returns all of them, and its text bytes have odd parity.
abbrev pub LawOfRowPacket : Type 0
LawOfRowPacket =
    (magazine row : ℕ) (codes : List ℕ)
    → magazine < 8
    → 1 ≤ row
    → row < 32
    → length codes ≡ 40
    → All (λ code. code < 0x80) codes
    → IsEncodedRow magazine row codes (row_packet magazine row codes)
