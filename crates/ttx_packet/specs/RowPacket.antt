-- The text of row packets X/1 to X/24 (EN 300 706, packets for direct display): 40 bytes of odd
-- parity, one for each column.
use Rattle.std.specs.Prelude.{ℕ, ◌+◌, ◌<◌, List, ◌++◌, Option, map, slice_index, not, IsTrue}
use Rattle.ttx_packet.specs.OneBit.{first_below}
use Rattle.ttx_packet.specs.Parity.{is_odd, odd_parity_byte}
use Rattle.ttx_packet.specs.PacketAddress.{address_code_words}

-- The data byte of a packet for a column, 0 to 39.
abbrev pub text_byte : List ℕ → ℕ → ℕ
text_byte packet column = slice_index packet (column + 2)

-- Each of the 40 data bytes has odd parity.
abbrev pub HasOddParityText : List ℕ → Type 0
HasOddParityText packet = (column : ℕ) → column < 40 → IsTrue (is_odd (text_byte packet column))

-- The column of the first of the 40 data bytes with even parity. `None` if all have odd parity.
unfoldable pub first_even_parity_column : List ℕ → Option ℕ
first_even_parity_column packet = first_below 40 (λ column. not (is_odd (text_byte packet column)))

-- The packet X/Y of row Y with these 40 character codes in odd parity.
unfoldable pub row_packet : ℕ → ℕ → List ℕ → List ℕ
row_packet magazine row codes = address_code_words magazine row ++ map odd_parity_byte codes
