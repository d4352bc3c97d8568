-- The Teletext packets in the data units of a PES packet, in order (EN 300 472, data field syntax).
use Rattle.std.specs.Prelude.{ℕ, ◌+◌, ◌==◌, ◌&&◌, ◌||◌, nat_lt, Bool}
use Rattle.std.specs.Prelude.{if◌then◌else◌, List, [], ◌∷◌, length, drop, map}
use Rattle.std.specs.Prelude.{slice_index, Option, Some, None}
use Rattle.std.specs.Borrow.{Bor}
use Rattle.ttx_packet.specs.BitOrder.{mirror}

-- The offset of the first data unit in a PES packet: after the header and data_identifier. If there
-- are fewer than ten bytes, it is their number.
abbrev pub first_unit_offset : List ℕ → ℕ
first_unit_offset pes = if nat_lt 9 (length pes) then 10 + slice_index pes 8 else length pes

-- The data unit carries a Teletext packet: data_unit_id is an id for Teletext, and data_unit_length
-- is the length for a packet.
abbrev pub is_teletext_unit : List ℕ → Bool
is_teletext_unit unit =
    (slice_index unit 1 == 0x2C) && ((slice_index unit 0 == 2) || (slice_index unit 0 == 3))

-- The Teletext packet of a data unit, if it carries one, with the bits of each byte reversed.
unfoldable pub unit_packets : List ℕ → List (List ℕ)
unit_packets unit = if is_teletext_unit unit then map mirror (drop 4 unit) ∷ [] else []

-- The borrowed Teletext packet, if any, with the bits of each byte reversed.
unfoldable pub borrowed_packets : Option (Bor (List ℕ)) → List (List ℕ)
borrowed_packets None = []
borrowed_packets (Some packet) = map mirror packet.now ∷ []
