-- A transport packet, 188 bytes (ISO/IEC 13818-1, 2.4.3.2 to 2.4.3.5):
--
--   0      sync_byte                      47
--   1..2   transport_error_indicator (1 bit), payload_unit_start_indicator (1), transport_priority
--          (1), PID (13)
--   3      transport_scrambling_control (2 bits), adaptation_field_control (2: an adaptation field,
--          a payload), continuity_counter (4)
--   4      adaptation_field_length, if there is an adaptation field
--   5      discontinuity_indicator (1 bit) and seven flags, if that length is not 0
--   ..     the rest of the adaptation field, and the payload up to the end
use Rattle.std.specs.Prelude.{ℕ, ◌+◌, ◌*◌, ◌/◌, ◌%◌, ◌==◌, ◌&&◌, ◌||◌, not, nat_lt}
use Rattle.std.specs.Prelude.{Bool, if◌then◌else◌, List, take, drop, slice_index}

-- The size of a transport packet in bytes.
abbrev pub packet_size : ℕ
packet_size = 188

-- The first byte of a transport packet.
abbrev pub sync_byte : ℕ
sync_byte = 0x47

-- The PID of a transport packet.
abbrev pub pid : List ℕ → ℕ
pid p = slice_index p 1 % 0x20 * 0x100 + slice_index p 2

-- The bit payload_unit_start_indicator of a transport packet: a PES packet begins with the first
-- byte of the payload.
abbrev pub begins : List ℕ → Bool
begins p = slice_index p 1 / 0x40 % 2 == 1

-- The continuity_counter of a transport packet, 0 to 15.
abbrev pub counter : List ℕ → ℕ
counter p = slice_index p 3 % 0x10

-- The transport packet has an adaptation field, by its adaptation_field_control.
abbrev pub has_adaptation_field : List ℕ → Bool
has_adaptation_field p = slice_index p 3 / 0x20 % 2 == 1

-- The transport packet has a payload, by its adaptation_field_control.
abbrev pub has_payload : List ℕ → Bool
has_payload p = slice_index p 3 / 0x10 % 2 == 1

-- The discontinuity_indicator of a transport packet is set: it announces a discontinuity, so the
-- continuity_counter may jump.
abbrev pub announces_jump : List ℕ → Bool
announces_jump p =
    has_adaptation_field p && not (slice_index p 4 == 0) && (slice_index p 5 / 0x80 % 2 == 1)

-- The transport packet is unusable: its transport_error_indicator is set, it is scrambled, or its
-- adaptation field leaves no space for the payload.
abbrev pub is_unusable : List ℕ → Bool
is_unusable p =
    (slice_index p 1 / 0x80 % 2 == 1)
    || not (slice_index p 3 / 0x40 % 4 == 0)
    || (has_adaptation_field p && has_payload p && nat_lt 182 (slice_index p 4))

-- Bytes 0 to 3 of a transport packet. A packet and its repeat have the same bytes 0 to 3 and the
-- same payload.
abbrev pub packet_header : List ℕ → List ℕ
packet_header p = take 4 p

-- The offset of the payload in a transport packet.
abbrev pub payload_offset : List ℕ → ℕ
payload_offset p = if has_adaptation_field p then 5 + slice_index p 4 else 4

-- The bytes of a transport packet after its header and adaptation field: its payload, if it has
-- one.
abbrev pub payload : List ℕ → List ℕ
payload p = drop (payload_offset p) p
