-- PES packets with EBU Teletext (EN 300 472): the grammar of valid packets, and the canonical
-- packet that is written.
use Rattle.std.specs.Prelude.{◌≡◌, ℕ, zero, suc, ◌+◌, ◌-◌, ◌*◌, ◌/◌, ◌%◌, ◌^◌, ◌<◌, ◌≤◌, List, []}
use Rattle.std.specs.Prelude.{◌∷◌, ◌++◌, length, replicate}
use Rattle.std.specs.List.{flat_map, AllByRecursion}
use Rattle.std.specs.Int.{bytes_high_first}
use Rattle.ttx_pes.specs.DataUnit.{UnitValue, IsUnit, AreDataUnits, teletext_unit, stuffing_byte}
use Rattle.ttx_pes.specs.DataUnit.{stuffing_unit}
use Rattle.ttx_pes.specs.LineOrder.{AreInLineOrder, numbered_units}

-- The contents of a PES packet: its PTS in ticks of 90 kHz, and its Teletext units in order.
pub record PesValue : Type 0 where
  pub pts : ℕ
  pub units : List UnitValue

-- The empty contents of a PES packet, with PTS 0 and no units.
abbrev pub empty_value : PesValue
empty_value = record { pts = 0; units = [] }

-- Bytes 0 to 3 of a PES packet: packet_start_code_prefix and stream_id, which is private_stream_1.
abbrev pub packet_start : List ℕ
packet_start = 0x00 ∷ 0x00 ∷ 0x01 ∷ 0xBD ∷ []

-- The size of a TS packet payload in bytes. A PES packet fills 1 to 9 payloads (EN 300 472).
abbrev pub payload_size : ℕ
payload_size = 184

-- The size of the longest PES packet in bytes, nine payloads.
abbrev pub max_pes_packet_size : ℕ
max_pes_packet_size = 1656

-- The number of bytes before the data units of a PES packet.
abbrev pub header_size : ℕ
header_size = 46

-- The maximum number of Teletext units of a PES packet: nine payloads have 9 * 4 - 1 data units.
abbrev pub max_units : ℕ
max_units = 35

-- The field PES_packet_length of a PES packet of n payloads. It does not count the first 6 bytes.
abbrev pub packet_length : ℕ → ℕ
packet_length n = payload_size * n - 6

-- The field PES_header_data_length of a PES packet.
abbrev pub header_data_length : ℕ
header_data_length = 0x24

-- The PTS of a PES packet as five bytes. Its 33 bits are sent in three groups, each followed by a
-- marker bit 1:
--
--   0      0010 (4 bits), bits 32 to 30, 1
--   1      bits 29 to 22
--   2      bits 21 to 15, 1
--   3      bits 14 to 7
--   4      bits 6 to 0, 1
abbrev pub pts_bytes : ℕ → List ℕ
pts_bytes pts =
    (0x21 + 2 * (pts / 2 ^ 30))
    ∷ ((pts / 2 ^ 22) % 0x100)
    ∷ (1 + 2 * ((pts / 2 ^ 15) % 0x80))
    ∷ ((pts / 2 ^ 7) % 0x100)
    ∷ (1 + 2 * (pts % 0x80))
    ∷ []

-- The bytes b are a valid PES packet with value v, n times 184 bytes for some n from 1 to 9:
--
--   0..3    packet_start_code_prefix, stream_id   00 00 01 BD
--   4..5    PES_packet_length                     184 * n - 6, high byte first
--   6       10 (2 bits), PES_scrambling_control 00, four arbitrary bits
--   7       PTS_DTS_flags 10 (only a PTS), six arbitrary flags
--   8       PES_header_data_length                24
--   9..13   PTS, less than 2 ^ 33
--   14..44  31 stuffing bytes, arbitrary
--   45      data_identifier                       10 to 1F, EBU data
--   46..    4 * n - 1 data units of 46 bytes
--
-- Bytes are counted from 0 and printed in hexadecimal. The Teletext units among the data units are
-- the units of v, and are in line order (`AreInLineOrder`).
pub record IsValidPesPacket (v : PesValue) (b : List ℕ) : Type 0 where
  pub n : ℕ
  pub flags : ℕ
  pub pts_dts_flags : ℕ
  pub header_stuffing : List ℕ
  pub data_identifier : ℕ
  pub data_units : List ℕ
  pub bytes :
      b
      ≡ packet_start
      ++ (bytes_high_first 2 (packet_length n)
      ++ ((flags ∷ pts_dts_flags ∷ header_data_length ∷ [])
      ++ (pts_bytes v.pts ++ (header_stuffing ++ (data_identifier ∷ data_units)))))
  pub size : (1 ≤ n) × (n ≤ 9)
  pub scrambling_is_off : flags / 0x10 ≡ 8
  pub only_pts_is_present : pts_dts_flags / 0x40 ≡ 2
  pub pts_fits : v.pts < 2 ^ 33
  pub header_stuffing_length_is_31 : length header_stuffing ≡ 31
  pub is_ebu_data : data_identifier / 0x10 ≡ 1
  pub are_valid_units : AreDataUnits (4 * n - 1) v.units data_units
  pub in_order : AreInLineOrder 0 v.units

-- ---- the canonical packet

-- The smallest number of payloads in which this number of Teletext units fits: 3 units in the first
-- payload, and 4 in each further payload.
unfoldable pub payload_count_for : ℕ → ℕ
payload_count_for units = units / 4 + 1

-- n copies of the bytes b.
abbrev pub repeated : ℕ → List ℕ → List ℕ
repeated zero b = []
repeated (suc n) b = b ++ repeated n b

-- The first 46 bytes of a canonical packet of n payloads: data alignment set, only a PTS, stuffing
-- bytes FF, data_identifier 10.
unfoldable pub pes_packet_header : ℕ → ℕ → List ℕ
pes_packet_header n pts =
    packet_start
    ++ (bytes_high_first 2 (packet_length n)
    ++ ((0x84 ∷ 0x80 ∷ header_data_length ∷ [])
    ++ (pts_bytes pts ++ (replicate 31 stuffing_byte ++ (0x10 ∷ [])))))

-- The canonical packet of a value: its Teletext units in order, then stuffing units, in the
-- smallest number of payloads (not defined by a standard).
unfoldable pub canonical_packet : PesValue → List ℕ
canonical_packet v =
    let n = payload_count_for (length v.units) in
    pes_packet_header n v.pts
    ++ (flat_map teletext_unit v.units
    ++ repeated (4 * n - 1 - length v.units) stuffing_unit)

-- The value fits in a `PesFrame`: the PTS is below 2^33, and there are at most 35 units, all valid
-- and in line order.
pub record IsPesValue (v : PesValue) : Type 0 where
  pub pts : v.pts < 2 ^ 33
  pub few : length v.units ≤ max_units
  pub each : AllByRecursion IsUnit v.units
  pub in_order : AreInLineOrder 0 v.units

-- The contents of the PES packet that carries the Teletext packets of one frame.
abbrev pub numbered_frame : ℕ → List (List ℕ) → PesValue
numbered_frame pts packets = record { pts = pts; units = numbered_units 0 packets }
