-- Data units of a PES data field (EN 300 472, syntax of the PES data field): 46 bytes each. Of a
-- data unit that carries no Teletext packet, a reader checks only the first two bytes.
use Rattle.std.specs.Prelude.{◌≡◌, ℕ, zero, suc, ◌+◌, ◌-◌, ◌*◌, ◌<◌, ◌≤◌, Bool, false, ◌==◌, ◌||◌}
use Rattle.std.specs.Prelude.{List, [], ◌∷◌, ◌++◌, length, map, replicate, Option, Some, None}
use Rattle.std.specs.Option.{option_to_list}
use Rattle.ttx_packet.specs.BitOrder.{mirror}
use Rattle.ttx_packet.specs.PacketAddress.{IsPacket}

-- The contents of a Teletext unit: data_unit_id; the field, 1 for the first field (field_parity 1)
-- and 2 for the second (field_parity 0); line_offset; and the packet in Teletext bit order.
pub record UnitValue : Type 0 where
  pub id : ℕ
  pub field : ℕ
  pub line : ℕ
  pub packet : List ℕ

-- The size of a data unit in bytes.
abbrev pub data_unit_size : ℕ
data_unit_size = 46

-- The data_unit_id of EBU Teletext that is not subtitles.
abbrev pub teletext_id : ℕ
teletext_id = 0x02

-- The data_unit_id of EBU Teletext subtitles.
abbrev pub subtitle_id : ℕ
subtitle_id = 0x03

-- FF: the data_unit_id of a stuffing unit, and the value of its data bytes in written PES packets.
abbrev pub stuffing_byte : ℕ
stuffing_byte = 0xFF

-- The value of data_unit_length: the number of bytes of a data unit after this field.
abbrev pub data_unit_length : ℕ
data_unit_length = 0x2C

-- The framing code of Teletext, in the bit order of a data unit.
abbrev pub framing_code : ℕ
framing_code = 0xE4

-- The fields of a Teletext unit are in range: data_unit_id 2 or 3, field 1 or 2, line_offset below
-- 32, and a packet of 42 bytes.
pub record IsUnit (u : UnitValue) : Type 0 where
  pub id : (teletext_id ≤ u.id) × (u.id ≤ subtitle_id)
  pub field : (1 ≤ u.field) × (u.field ≤ 2)
  pub line : u.line < 32
  pub packet : IsPacket u.packet

-- The data_unit_id is that of a data unit with a Teletext packet: 2 or 3.
abbrev pub is_teletext : ℕ → Bool
is_teletext id = (id == teletext_id) || (id == subtitle_id)

-- Byte 2 of a data unit with a Teletext packet, counted from 0: two reserved bits, field_parity,
-- line_offset.
abbrev pub field_and_line : ℕ → UnitValue → ℕ
field_and_line reserved u = 64 * reserved + 32 * (2 - u.field) + u.line

-- The bytes b are a data unit that carries a Teletext packet, 46 bytes:
--
--   0      data_unit_id      02 not subtitles, 03 subtitles
--   1      data_unit_length  2C
--   2      reserved (2 bits), field_parity (1 in the first field), line_offset (5 bits)
--   3      framing_code      E4
--   4..45  the packet, the bits of each byte reversed: Teletext sends bit 1 first
--
-- The reserved bits may have any value, since a reader ignores them.
pub record IsTeletextUnit (u : UnitValue) (b : List ℕ) : Type 0 where
  pub reserved : ℕ
  pub reserved_fits_two_bits : reserved < 4
  pub bytes :
      b ≡ u.id ∷ data_unit_length ∷ field_and_line reserved u ∷ framing_code ∷ map mirror u.packet
  pub is_unit : IsUnit u

-- The bytes b are a data unit without a Teletext packet, 46 bytes, of which a reader checks only
-- the first two.
pub record IsSkippedUnit (b : List ℕ) : Type 0 where
  pub id : ℕ
  pub rest : List ℕ
  pub bytes : b ≡ id ∷ data_unit_length ∷ rest
  pub other : is_teletext id ≡ false
  pub size : length rest ≡ data_unit_length

-- The bytes b are a data unit with this Teletext unit, or with none.
abbrev pub IsDataUnit : Option UnitValue → List ℕ → Type 0
IsDataUnit (Some u) b = IsTeletextUnit u b
IsDataUnit None b = IsSkippedUnit b

-- The bytes b are n consecutive data units, and `units` are the Teletext units among them, in
-- order.
abbrev pub AreDataUnits : ℕ → List UnitValue → List ℕ → Type 0
AreDataUnits zero units b = (units ≡ []) × (b ≡ [])
AreDataUnits (suc n) units b =
    (u : Option UnitValue) × (others : List UnitValue) × (first : List ℕ) × (rest : List ℕ)
    × IsDataUnit u first × AreDataUnits n others rest
    × (units ≡ option_to_list u ++ others) × (b ≡ first ++ rest)

-- The data unit that a writer creates for a Teletext unit, with both reserved bits 1.
abbrev pub teletext_unit : UnitValue → List ℕ
teletext_unit u = u.id ∷ data_unit_length ∷ field_and_line 3 u ∷ framing_code ∷ map mirror u.packet

-- The stuffing unit that a writer creates.
abbrev pub stuffing_unit : List ℕ
stuffing_unit = stuffing_byte ∷ data_unit_length ∷ replicate data_unit_length stuffing_byte
