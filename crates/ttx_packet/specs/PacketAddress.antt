-- Magazine and packet address (EN 300 706): the first two bytes of each Teletext packet, both
-- Hamming 8/4.
--
--   byte 0   D1 to D3: magazine number, 0 means magazine 8   D4: the lowest bit of Y
--   byte 1   D1 to D4: the four higher bits of the packet number Y
use Rattle.std.specs.Prelude.{◌≡◌, ℕ, ◌+◌, ◌*◌, ◌/◌, ◌%◌, ◌<◌, List, [], ◌∷◌, length}
use Rattle.std.specs.Prelude.{Option, Some, slice_index, option_and_then}
use Rattle.ttx_packet.specs.Hamming84.{IsCodeWord, code_word, decoded_nibble}

-- A Teletext packet has 42 bytes, without clock run-in and framing code (EN 300 706).
pub record IsPacket (packet : List ℕ) : Type 0 where
  pub size : length packet ≡ 42
  pub bytes : (place : ℕ) → slice_index packet place < 0x100

infixl 10 ◌>>=◌
-- Applies a function to the value of an option; `None` stays `None`.
abbrev pub ◌>>=◌ : {A B : Type 0} → Option A → (A → Option B) → Option B
o >>= f = option_and_then f o

-- The number to which byte number `place` of a packet decodes, counted from 0. `None` if the byte
-- cannot be decoded.
abbrev pub decoded_at : List ℕ → ℕ → Option ℕ
decoded_at packet place = decoded_nibble (slice_index packet place)

-- The address of a packet X/Y: the magazine X, 0 to 7 (0 means magazine 8), and the packet number
-- Y, 0 to 31 (EN 300 706).
pub record PacketAddress : Type 0 where
  pub magazine : ℕ
  pub packet_number : ℕ

-- The address of a packet (EN 300 706, magazine and packet address): byte 0 has the low four bits
-- of the number magazine + 8 * Y, and byte 1 its high four bits. `None` if one of these bytes
-- cannot be decoded.
unfoldable pub address : List ℕ → Option PacketAddress
address packet = do
  low ← decoded_at packet 0
  high ← decoded_at packet 1
  Some
      (record {
        magazine = (low + 0x10 * high) % 8;
        packet_number = (low + 0x10 * high) / 8;
      })

-- A packet address as a pair of magazine and packet number.
abbrev pub address_pair : PacketAddress → ℕ × ℕ
address_pair a = (a.magazine, a.packet_number)

-- Both address bytes of the packet are Hamming 8/4 code words.
abbrev pub HasExactAddress : List ℕ → Type 0
HasExactAddress packet = (place : ℕ) → place < 2 → IsCodeWord (slice_index packet place)

-- The two Hamming 8/4 code words that encode a magazine and a packet number.
abbrev pub address_code_words : ℕ → ℕ → List ℕ
address_code_words magazine y =
    code_word ((magazine + 8 * y) % 16) ∷ code_word ((magazine + 8 * y) / 16) ∷ []
