-- Detects Teletext in the payload of a transport packet.
use Rattle.std.specs.Prelude.{ℕ, ◌+◌, ◌/◌, ◌==◌, ◌&&◌, nat_le, nat_lt, Bool, List, length}
use Rattle.std.specs.Prelude.{slice_index}

-- The payload begins a PES packet with Teletext: private_stream_1, whose first data byte is in the
-- payload and is a data_identifier of EBU data, 10 to 1F (EN 300 472, data field).
abbrev pub begins_with_teletext : List ℕ → Bool
begins_with_teletext payload =
    nat_le 10 (length payload) && (slice_index payload 0 == 0) && (slice_index payload 1 == 0)
    && (slice_index payload 2 == 1) && (slice_index payload 3 == 0xBD)
    && nat_lt (9 + slice_index payload 8) (length payload)
    && (slice_index payload (9 + slice_index payload 8) / 0x10 == 1)
