-- The fields of an adaptation field (ISO/IEC 13818-1, adaptation_field):
--
--   4      adaptation_field_length
--   5      discontinuity_indicator (1 bit), random_access_indicator (1),
--          elementary_stream_priority_indicator (1), PCR_flag (1) and four more flags
--   6..11  if PCR_flag is set: program_clock_reference_base (33 bits), reserved (6),
--          extension (9)
--
-- The times in the header of a PES packet (ISO/IEC 13818-1, PES_packet):
--
--   7      PTS_DTS_flags (2 bits): the first one for a PTS, the second for a DTS as well
--   8      PES_header_data_length: the bytes of the header after this one
--   9..13  four bits, PTS 32..30, a marker bit, PTS 29..15, a marker bit, PTS 14..0, a marker bit
--   14..18 the DTS, in the same way
use Rattle.std.specs.Prelude.{ℕ, ◌+◌, ◌*◌, ◌/◌, ◌%◌, ◌==◌, ◌&&◌, ◌||◌, not, nat_lt, Bool}
use Rattle.std.specs.Prelude.{if◌then◌else◌, List, [], length, slice_index, Option, Some}
use Rattle.std.specs.Prelude.{None}
use Rattle.mpeg_ts.specs.TransportPacket.{has_adaptation_field, has_payload, is_unusable, payload}

-- The bit random_access_indicator of a transport packet, or false if the packet has none.
abbrev pub has_random_access_indicator : List ℕ → Bool
has_random_access_indicator p =
    has_adaptation_field p && not (slice_index p 4 == 0) && (slice_index p 5 / 0x40 % 2 == 1)

-- The transport packet is scrambled: transport_scrambling_control is not 00.
abbrev pub is_scrambled : List ℕ → Bool
is_scrambled p = not (slice_index p 3 / 0x40 == 0)

-- The transport packet has an adaptation field that can be used: transport_error_indicator is not
-- set.
abbrev pub has_usable_adaptation_field : List ℕ → Bool
has_usable_adaptation_field p = has_adaptation_field p && (slice_index p 1 / 0x80 == 0)

-- The field program_clock_reference_base of a transport packet, if its adaptation field has it and
-- can be used.
abbrev pub pcr_base : List ℕ → Option ℕ
pcr_base p =
    if not (has_usable_adaptation_field p) || nat_lt (slice_index p 4) 7
    || (slice_index p 5 / 0x10 % 2 == 0) then None
    else Some (slice_index p 6 * 0x200_0000 + slice_index p 7 * 0x2_0000 + slice_index p 8 * 0x200
    + slice_index p 9 * 2 + slice_index p 10 / 0x80)

-- The payload of a transport packet, or an empty list if the packet has no payload or is unusable.
abbrev pub payload_if_usable : List ℕ → List ℕ
payload_if_usable p = if has_payload p && not (is_unusable p) then payload p else []

-- The time at an offset of a PES header, 33 bits of a clock of 90 kHz.
abbrev pub timestamp_at : List ℕ → ℕ → ℕ
timestamp_at pes n =
    slice_index pes n / 2 % 8 * 0x4000_0000 + slice_index pes (n + 1) * 0x40_0000
    + slice_index pes (n + 2) / 2 * 0x8000 + slice_index pes (n + 3) * 0x80
    + slice_index pes (n + 4) / 2

-- The PTS of a PES packet. `None` if PTS_DTS_flags announce no PTS, if byte 6 is FF, as in a gap
-- marker, or if fewer than 14 bytes are available.
abbrev pub pts_of_pes_packet : List ℕ → Option ℕ
pts_of_pes_packet pes =
    if nat_lt (length pes) 14 || nat_lt (slice_index pes 7) 0x80 || (slice_index pes 6 == 0xFF)
    then None
    else Some (timestamp_at pes 9)

-- When the first picture of a PES packet with this PTS is decoded: its DTS, or its PTS if
-- PTS_DTS_flags announce no DTS (ISO/IEC 13818-1). `None` if there is no PTS, or if the bytes end
-- before the end of the DTS.
abbrev pub first_decoding_time : List ℕ → Option ℕ → Option ℕ
first_decoding_time pes None = None
first_decoding_time pes (Some pts) =
    if nat_lt (slice_index pes 7) 0xC0 then Some pts
    else if nat_lt (length pes) 19 then None
    else Some (timestamp_at pes 14)

-- When the first picture of a PES packet is decoded. `None` if `pts_of_pes_packet` is `None`, or if
-- the bytes end before the end of the DTS.
abbrev pub decoding_time : List ℕ → Option ℕ
decoding_time pes = first_decoding_time pes (pts_of_pes_packet pes)
