-- Parsing a PES packet at the front of a list of bytes. A function NAME_at that returns a `Result`
-- gives the parsed value, or the fault of the first check that fails.
use Rattle.std.specs.Prelude.{ℕ, zero, suc, ◌+◌, ◌-◌, ◌*◌, ◌/◌, ◌%◌, ◌^◌, Bool, true, false}
use Rattle.std.specs.Prelude.{not, ◌==◌, ◌&&◌, nat_lt, nat_le, if◌then◌else◌, List, [], ◌∷◌, ◌++◌}
use Rattle.std.specs.Prelude.{length, take, drop, map, slice_index, Option, Some, None, Result, Ok}
use Rattle.std.specs.Prelude.{Err}
use Rattle.std.specs.List.{list_all}
use Rattle.sub_io.specs.Reading.{◌>>=◌}
use Rattle.ttx_packet.specs.BitOrder.{mirror}
use Rattle.ttx_pes.specs.declared.fault.PesFault.{PesFault}
use Rattle.ttx_pes.specs.declared.fault.PesFault.TheVariants as fault
use Rattle.ttx_pes.specs.DataUnit.{UnitValue, is_teletext, data_unit_length, data_unit_size}
use Rattle.ttx_pes.specs.DataUnit.{framing_code, stuffing_byte}
use Rattle.ttx_pes.specs.LineOrder.{last_place, may_follow}
use Rattle.ttx_pes.specs.PesGrammar.{PesValue, header_data_length, max_pes_packet_size}
use Rattle.ttx_pes.specs.PesGrammar.{payload_size}

-- The Teletext unit decoded from the 46 bytes of a data unit.
abbrev pub unit_of : List ℕ → UnitValue
unit_of b = record {
  id = slice_index b 0;
  field = if (slice_index b 2 / 32) % 2 == 1 then 1 else 2;
  line = slice_index b 2 % 32;
  packet = map mirror (drop 4 b);
}

-- The Teletext unit of a data unit; `None` if its data_unit_id is not one of Teletext; or the fault
-- of its data_unit_length, which is checked first, or of its framing_code.
unfoldable pub teletext_at : List ℕ → Result (Option UnitValue) PesFault
teletext_at b =
    if not (slice_index b 1 == data_unit_length) then Err fault.UnitLength
    else if not (is_teletext (slice_index b 0)) then Ok None
    else if not (slice_index b 3 == framing_code) then Err fault.Framing
    else Ok (Some (unit_of b))

-- Appends a Teletext unit, if there is one, to the units read so far. A unit that breaks the line
-- order is a fault.
abbrev pub with_unit : List UnitValue → Option UnitValue → Result (List UnitValue) PesFault
with_unit units None = Ok units
with_unit units (Some u) =
    if may_follow (last_place 0 units) u then Ok (units ++ u ∷ []) else Err fault.LineOrder

-- Appends the Teletext unit of a data unit, if there is one, to the units read so far, or returns
-- the fault of the data unit.
unfoldable pub unit_at : List UnitValue → List ℕ → Result (List UnitValue) PesFault
unit_at units b = do
  u ← teletext_at b
  with_unit units u

-- Appends the Teletext units of n data units to the units read so far, or returns the first fault.
unfoldable pub units_at : ℕ → List UnitValue → List ℕ → Result (List UnitValue) PesFault
units_at zero units b = Ok units
units_at (suc n) units b = do
  more ← unit_at units (take data_unit_size b)
  units_at n more (drop data_unit_size b)

-- Byte number `place`, 6 or more, of a PES packet. The list begins with byte 6 of the packet.
abbrev pub byte_at : List ℕ → ℕ → ℕ
byte_at b place = slice_index b (place - 6)

-- The 33 bits of the PTS in bytes 9 to 13 of a PES packet.
abbrev pub pts_bits : List ℕ → ℕ
pts_bits b =
    (byte_at b 9 / 2) % 8 * 2 ^ 30
    + byte_at b 10 * 2 ^ 22
    + byte_at b 11 / 2 * 2 ^ 15
    + byte_at b 12 * 2 ^ 7
    + byte_at b 13 / 2

-- Bytes 9 to 13 of the PES packet begin with 0010, and the three marker bits of the PTS are set.
abbrev pub has_pts_markers : List ℕ → Bool
has_pts_markers b =
    (byte_at b 9 / 0x10 == 2)
    && (byte_at b 9 % 2 == 1)
    && (byte_at b 11 % 2 == 1)
    && (byte_at b 13 % 2 == 1)

-- All bytes are FF, as in a gap marker from byte 6 on (not defined by a standard). A scrambled
-- packet, or one with wrong flags, is very unlikely to consist of FF only.
abbrev pub is_all_stuffing : List ℕ → Bool
is_all_stuffing b = list_all (λ byte. byte == stuffing_byte) b

-- The PES packet is a gap marker, which replaces missing TS packets: 184 bytes, all FF from byte 6
-- on (not defined by a standard).
abbrev pub is_gap_marker : List ℕ → Bool
is_gap_marker pes_packet = (length pes_packet == payload_size) && is_all_stuffing
    (drop 6 pes_packet)

-- The fault of a PES packet whose byte 6 does not begin with 1000: `Lost` if all bytes from byte 6
-- on are FF, as in a gap marker, otherwise `Flags`.
abbrev pub flags_fault : List ℕ → PesFault
flags_fault b = if is_all_stuffing b then fault.Lost else fault.Flags

-- The PTS of a PES packet, parsed from its bytes from byte 6 on, or the first fault before the data
-- units.
unfoldable pub pts_at : List ℕ → Result ℕ PesFault
pts_at b =
    if not (byte_at b 6 / 0x10 == 8) then Err (flags_fault b)
    else if not (byte_at b 7 / 0x40 == 2) then Err fault.NoTime
    else if not (byte_at b 8 == header_data_length) then Err fault.HeaderLength
    else if not (has_pts_markers b) then Err fault.Time
    else if not (byte_at b 45 / 0x10 == 1) then Err fault.DataId
    else Ok (pts_bits b)

-- The value of a PES packet, parsed from its bytes from byte 6 on, or their first fault.
unfoldable pub value_at : List ℕ → Result PesValue PesFault
value_at b = do
  pts ← pts_at b
  units ← units_at (length (drop 40 b) / data_unit_size) [] (drop 40 b)
  Ok (record { pts = pts; units = units })

-- Bytes 0 to 3 of a PES packet are 00 00 01 BD: the start code, and stream_id for private_stream_1.
abbrev pub is_start : List ℕ → Bool
is_start b =
    (slice_index b 0 == 0x00)
    && (slice_index b 1 == 0x00)
    && (slice_index b 2 == 0x01)
    && (slice_index b 3 == 0xBD)

-- The size in bytes of a PES packet, from PES_packet_length in bytes 4 and 5.
abbrev pub stated_size : List ℕ → ℕ
stated_size b = 0x100 * slice_index b 4 + slice_index b 5 + 6

-- The size of a PES packet, 1 to 9 times 184 bytes, parsed from its bytes 0 to 5, or their fault.
unfoldable pub size_at : List ℕ → Result ℕ PesFault
size_at b =
    if not (is_start b) then Err fault.Start
    else if not ((stated_size b % payload_size == 0) && nat_le (stated_size b) max_pes_packet_size)
    then
    Err fault.Length
    else Ok (stated_size b)

-- The value of the PES packet at the front of b and the bytes after the packet, or the first fault.
unfoldable pub packet_at : List ℕ → Result (PesValue × List ℕ) PesFault
packet_at b = do
  head ← (if nat_lt (length b) 6 then Err fault.Truncated else Ok (take 6 b))
  size ← size_at head
  body ← (if nat_lt (length b) size then Err fault.Truncated else Ok (take (size - 6) (drop 6 b)))
  v ← value_at body
  Ok (v, drop size b)

-- The maximum number of PES packets in a file: one for each frame of a day at 25 frames per second.
abbrev pub max_pes_packets : ℕ
max_pes_packets = 2160000

-- The result of a reader that has read `given` PES packets, for these remaining bytes, if its
-- source does not fail.
unfoldable pub answer_at : ℕ → List ℕ → Result (Option PesValue) PesFault
answer_at given [] = Ok None
answer_at given (x ∷ b) =
    if given == max_pes_packets then Err fault.TooMany
    else (packet_at (x ∷ b) >>= λ p. Ok (Some p.0))

-- The remaining bytes after a PES packet was read, or all bytes if none was read.
abbrev pub bytes_left_after : List ℕ → Result (PesValue × List ℕ) PesFault → List ℕ
bytes_left_after b (Ok p) = p.1
bytes_left_after b (Err _) = b

-- The bytes after the PES packet at the front of b, or all bytes if b does not begin with a valid
-- packet.
unfoldable pub rest_after : List ℕ → List ℕ
rest_after b = bytes_left_after b (packet_at b)

-- The fault is a format fault: `Truncated` to `LineOrder`, or `Lost`.
abbrev pub is_format_fault : PesFault → Bool
is_format_fault fault.Read = false
is_format_fault fault.Write = false
is_format_fault fault.Ended = false
is_format_fault fault.TooMany = false
is_format_fault _ = true
