-- The positions of the transport packets in a recording, and the bytes that belong to no packet.
--
-- Transport packets follow one another at equal distances of 188, 192 or 204 bytes. Reading is in
-- step as long as each packet begins with a sync byte at that distance from the packet before.
-- Otherwise reading is out of step, and bytes are skipped one by one, up to a sync byte that is
-- followed by another sync byte at that distance (not defined by a standard).
use Rattle.std.specs.Prelude.{ℕ, zero, suc, ◌^◌, ◌==◌, ◌&&◌, ◌||◌, nat_lt, Bool, true, false}
use Rattle.std.specs.Prelude.{if◌then◌else◌, List, [], ◌∷◌, length, take, drop, slice_index}
use Rattle.mpeg_ts.specs.TransportPacket.{packet_size, sync_byte}

-- An item of a recording: a transport packet of 188 bytes, or a byte outside packets.
pub data Item : Type 0 where
  Packet : List ℕ → Item
  Skipped : Item

-- The bytes begin with a transport packet: with a sync byte and, if reading is out of step, another
-- sync byte at the packet distance. (A byte after the end counts as 0.)
abbrev pub begins_packet : ℕ → Bool → List ℕ → Bool
begins_packet distance in_step bytes =
    (slice_index bytes 0 == sync_byte)
    && (in_step || (slice_index bytes distance == sync_byte))

-- The number of bytes that determine whether the next item is a transport packet.
abbrev pub bytes_needed : ℕ → Bool → ℕ
bytes_needed distance true = packet_size
bytes_needed distance false = suc distance

-- The first items of the bytes, at most `room` items. Fewer than 188 bytes at the end contain no
-- item.
unfoldable pub items : ℕ → Bool → ℕ → List ℕ → List Item
items distance in_step zero bytes = []
items distance in_step (suc room) bytes =
    if nat_lt (length bytes) packet_size then []
    else if begins_packet distance in_step bytes then
    Packet (take packet_size bytes) ∷ items distance true room (drop distance bytes)
    else Skipped ∷ items distance false room (drop 1 bytes)

-- The number of bytes before the first item of a recording: 4 bytes of a time stamp if the packet
-- distance is 192, otherwise 0.
abbrev pub lead_size : ℕ → ℕ
lead_size distance = if distance == 192 then 4 else 0

-- The maximum number of bytes that are read from a recording.
unfoldable pub max_stream_bytes : ℕ
max_stream_bytes = 2 ^ 48

-- The bytes of a recording that are read, from its first item on.
abbrev pub read_bytes : ℕ → List ℕ → List ℕ
read_bytes distance recording = drop (lead_size distance) (take max_stream_bytes recording)

-- The items of the bytes of a recording that are read. There are at most as many items as bytes.
abbrev pub items_of : ℕ → List ℕ → List Item
items_of distance recording =
    items distance true (length (read_bytes distance recording)) (read_bytes distance recording)
