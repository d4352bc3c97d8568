-- The reassembly of the PES packets of a PID, one event at a time. The file `CarriedPackets`
-- defines the result in the standard's terms.
use Rattle.std.specs.Prelude.{◌≡◌, ℕ, ◌+◌, ◌≤◌, ◌%◌, ◌==◌, ◌&&◌, ◌||◌, not, nat_lt}
use Rattle.std.specs.Prelude.{nat_le, Bool, true, false}
use Rattle.std.specs.Prelude.{if◌then◌else◌, List, [], ◌∷◌, ◌++◌, length, take, bytes_eq}
use Rattle.std.specs.Prelude.{slice_index, ⊤, Result, Ok, Err}
use Rattle.ttx_pes.specs.PesPackets.{IsPesPacket}
use Rattle.ttx_pes.specs.Reading.{size_at}
use Rattle.ttx_pes.specs.declared.fault.PesFault.{PesFault}
use Rattle.mpeg_ts.specs.CarriedPackets.{gap_marker, gap_marker_where}
use Rattle.mpeg_ts.specs.GoodPackets.{PidEvent, Valid, Wrong, Loss, PacketLink, First, Follows}
use Rattle.mpeg_ts.specs.GoodPackets.{Seam}
use Rattle.mpeg_ts.specs.GoodPackets.{Break}
use Rattle.mpeg_ts.specs.Parts.{is_break, is_unlinked}
use Rattle.mpeg_ts.specs.TransportPacket.{announces_jump, begins, counter, has_payload}
use Rattle.mpeg_ts.specs.TransportPacket.{packet_header}
use Rattle.mpeg_ts.specs.TransportPacket.{payload}
use Rattle.mpeg_ts.specs.declared.joining.PartState.{PartState}
use Rattle.mpeg_ts.specs.declared.joining.PartState.TheVariants.{WithoutStart, Open, Complete}
use Rattle.mpeg_ts.specs.declared.joining.PartState.TheVariants.{Ended}
use Rattle.mpeg_ts.specs.declared.joining.Given.{Given}
use Rattle.mpeg_ts.specs.declared.joining.Given.TheVariants as given
use Rattle.mpeg_ts.specs.declared.joining.Found.{Found}
use Rattle.mpeg_ts.specs.declared.joining.Found.TheVariants as found
use Rattle.mpeg_ts.specs.declared.pending_item.Next.{Next}
use Rattle.mpeg_ts.specs.declared.pending_item.Next.TheVariants as next
use Rattle.mpeg_ts.specs.declared.pending_item.PendingItem.{PendingItem}
use Rattle.mpeg_ts.specs.declared.pending_item.PendingItem.TheVariants as pending_item

-- The state of reassembly. Of the last good transport packet: its bytes 0 to 3, whether it
-- announced a discontinuity, and its payload (empty before the first good packet, and after the
-- collected bytes were cleared). Since then: whether it was repeated, a usable packet without a
-- payload announced a discontinuity, or an unusable packet or a loss came. The progress of the
-- current part; the bytes of the part, or only its last payload if that is not part of a PES packet
-- to be returned, or none after they were cleared; whether a PES packet or a gap marker became
-- pending last; and the pending bytes.
pub record JoiningValue : Type 0 where
  pub header : List ℕ
  pub announced : Bool
  pub last : List ℕ
  pub has_repeat : Bool
  pub has_jump : Bool
  pub has_break : Bool
  pub part : PartState
  pub bytes : List ℕ
  pub given : Given
  pub pending : List ℕ

-- The state of reassembly before the first event.
abbrev pub initial_joining : JoiningValue
initial_joining = record {
  header = 0 ∷ 0 ∷ 0 ∷ 0 ∷ [];
  announced = false;
  last = [];
  has_repeat = false;
  has_jump = false;
  has_break = false;
  part = WithoutStart;
  bytes = [];
  given = given.Nothing;
  pending = [];
}

-- The current part has ended the stream: no more packets are processed, so no output follows the
-- pending bytes.
abbrev pub has_ended : PartState → Bool
has_ended Ended = true
has_ended _ = false

-- The PES packet of the current part is complete. It was returned or is pending.
abbrev pub is_complete : PartState → Bool
is_complete Complete = true
is_complete _ = false

-- Of PES packets and gap markers, a PES packet became pending last.
abbrev pub gave_pes_packet : Given → Bool
gave_pes_packet given.Packet = true
gave_pes_packet _ = false

-- The transport packet p is the first repeat of the last good packet, whose payload is still
-- stored.
abbrev pub repeats : JoiningValue → List ℕ → Bool
repeats v p =
    not v.has_repeat && (not v.has_jump && ((not (announces_jump p) || v.announced)
    && (bytes_eq v.header (packet_header p) && bytes_eq v.last (payload p))))

-- The continuity_counter of packet p is one more, modulo 16, than that in bytes 0 to 3 of the
-- packet before it.
abbrev pub counter_continues : List ℕ → List ℕ → Bool
counter_continues head p = counter p == (slice_index head 3 % 0x10 + 1) % 0x10

-- The link of a good transport packet p to the good packet before it, from the state of reassembly.
-- It is `First` if no payload of an earlier good packet is stored.
abbrev pub link_after : JoiningValue → List ℕ → List ℕ → PacketLink
link_after v [] p = First
link_after v (x ∷ xs) p =
    if v.has_break then Break
    else if v.has_jump || announces_jump p then Seam
    else if counter_continues v.header p then Follows
    else Break

-- The state of reassembly with p as the last good transport packet, except for its payload.
abbrev pub with_remembered_packet : JoiningValue → List ℕ → JoiningValue
with_remembered_packet v p = record v {
  header = packet_header p;
  announced = announces_jump p;
  has_repeat = false;
  has_jump = false;
  has_break = false;
}

-- Whether a PES packet or a gap marker became pending last, after a possible gap. Only the first
-- gap after a PES packet has a gap marker.
abbrev pub last_output_after : Bool → Given → Given
last_output_after gap g = if gap && gave_pes_packet g then given.GapMarker else g

-- The state of reassembly after a possible gap. A gap marker is pending if the gap is the first
-- after a PES packet; otherwise nothing is pending.
abbrev pub with_gap : Bool → JoiningValue → JoiningValue
with_gap gap v = record v {
  given = last_output_after gap v.given;
  pending = gap_marker_where (gap && gave_pes_packet v.given);
}

-- Classifies `count` collected bytes, for the size that their first six bytes state.
abbrev pub found_by_size : ℕ → Result ℕ PesFault → Found
found_by_size count (Ok size) = if nat_le size count then found.CompletePesPacket size
    else found.IncompletePesPacket
found_by_size count (Err f) = found.Other f

-- Classifies the collected bytes: they begin with a complete PES packet, with an incomplete PES
-- packet, or with a wrong start code or length. Fewer than six bytes count as incomplete.
unfoldable pub found_in : List ℕ → Found
found_in bytes =
    if nat_lt (length bytes) 6 then found.IncompletePesPacket
    else found_by_size (length bytes) (size_at (take 6 bytes))

-- The state of reassembly after the collected bytes were classified.
abbrev pub settle_found : Found → JoiningValue → JoiningValue
settle_found found.IncompletePesPacket v = v
settle_found (found.Other f) v = record v { part = Ended; pending = v.pending ++ v.bytes }
settle_found (found.CompletePesPacket size) v = record v {
  part = Complete;
  given = if nat_lt size (length v.bytes) then given.GapMarker else given.Packet;
  pending = v.pending ++ (take size v.bytes ++ gap_marker_where (nat_lt size (length v.bytes)));
}

-- The state of reassembly after a payload was appended to the bytes of an incomplete PES packet, or
-- after the first payload of a PES packet was stored.
abbrev pub grow_part : Bool → JoiningValue → List ℕ → JoiningValue
grow_part gap v more =
    settle_found (found_in (v.bytes ++ more))
    (with_gap gap (record v { part = Open; bytes = v.bytes ++ more; last = more }))

-- The state of reassembly after a payload was stored that is not part of a PES packet to be
-- returned.
abbrev pub with_buffered_payload : Bool → JoiningValue → List ℕ → JoiningValue
with_buffered_payload gap v more = with_gap gap (record v { bytes = more; last = more })

-- The state of reassembly after a payload starts a new part. A gap comes before it, unless the part
-- before is complete and no data was lost.
abbrev pub begun : Bool → Bool → JoiningValue → List ℕ → JoiningValue
begun breaks true v more =
    grow_part (breaks || not (is_complete v.part)) (record v { bytes = [] }) more
begun breaks false v more =
    with_buffered_payload (breaks || not (is_complete v.part)) (record v { part = WithoutStart })
    more

-- The state of reassembly after the current part continues with a payload. After a complete PES
-- packet, more payload is a gap.
abbrev pub continue_part : PartState → JoiningValue → List ℕ → JoiningValue
continue_part Open v more = grow_part false v more
continue_part Complete v more = with_buffered_payload true v more
continue_part _ v more = with_buffered_payload false v more

-- The state of reassembly after a good transport packet p with this link.
abbrev pub after_good_packet : PacketLink → JoiningValue → List ℕ → JoiningValue
after_good_packet link v p =
    if begins p || is_unlinked link then
    begun (is_break link) (begins p) (with_remembered_packet v p) (payload p)
    else continue_part v.part (with_remembered_packet v p) (payload p)

-- The state of reassembly after a usable transport packet p of the PID.
unfoldable pub after_valid_packet : JoiningValue → List ℕ → JoiningValue
after_valid_packet v p =
    if not (has_payload p) then record v { has_jump = v.has_jump || announces_jump p }
    else if repeats v p then record v { has_repeat = true }
    else after_good_packet (link_after v v.last p) v p

-- The state of reassembly after an event of the PID, if nothing was pending before.
abbrev pub after_pid_event : JoiningValue → PidEvent → JoiningValue
after_pid_event v (Valid p) = after_valid_packet v p
after_pid_event v Wrong = with_gap true (record v { has_break = true })
after_pid_event v Loss = record v { has_break = true }

-- The state of reassembly after all pending items were returned.
abbrev pub without_pending : JoiningValue → JoiningValue
without_pending v = record v { pending = [] }

-- The state of reassembly after all pending items were returned and the collected bytes cleared.
abbrev pub with_no_bytes : JoiningValue → JoiningValue
with_no_bytes v = record v { last = []; bytes = []; pending = [] }

-- The output of further events, after all pending items were returned.
unfoldable pub later_output : JoiningValue → List PidEvent → List ℕ
later_output v [] = []
later_output v (note ∷ more) =
    if has_ended v.part then []
    else (after_pid_event v note).pending ++ later_output (without_pending (after_pid_event v note))
    more

-- ---- the representation of ready items in the program

-- The pending item: a gap marker, or none.
abbrev pub gap_marker_item : Bool → PendingItem
gap_marker_item true = pending_item.GapMarker
gap_marker_item false = pending_item.Nothing

-- The bytes of the pending items.
abbrev pub pending_item_bytes : PendingItem → List ℕ → List ℕ
pending_item_bytes pending_item.Nothing bytes = []
pending_item_bytes pending_item.GapMarker bytes = gap_marker
pending_item_bytes (pending_item.Packet gap_marker_before size gap_marker_after) bytes =
    gap_marker_where gap_marker_before ++ (take size bytes ++ gap_marker_where gap_marker_after)
pending_item_bytes (pending_item.Rest gap_marker_before fault) bytes = gap_marker_where
    gap_marker_before ++ bytes

-- There are at least six bytes, and the first six have this fault, so the bytes do not begin with a
-- PES packet.
abbrev pub IsRefusedAtStart : List ℕ → PesFault → Type 0
IsRefusedAtStart bytes fault = (6 ≤ length bytes) × (size_at (take 6 bytes) ≡ Err fault)

-- The pending items agree with the stored bytes. A pending PES packet is at the front of these
-- bytes. If the rest is pending, they do not begin with a PES packet and the part has ended the
-- stream. If nothing or only a gap marker is pending, they may be any bytes.
abbrev pub IsPendingFor : PendingItem → PartState → List ℕ → Type 0
IsPendingFor pending_item.Nothing part bytes = ⊤
IsPendingFor pending_item.GapMarker part bytes = ⊤
IsPendingFor (pending_item.Packet gap_marker_before size gap_marker_after) part bytes =
    IsPesPacket (take size bytes) × (size ≤ length bytes)
IsPendingFor (pending_item.Rest gap_marker_before fault) part bytes =
    IsRefusedAtStart bytes fault × (has_ended part ≡ true)

-- The invariant of the state of reassembly.
pub record IsJoining (w : PendingItem) (last_size : ℕ) (part : PartState) (bytes : List ℕ) : Type
    0
  where
    pub last : last_size ≤ length bytes
    pub room : part ≡ Open → length bytes ≤ 1655
    pub waits : IsPendingFor w part bytes

-- The bytes of the taken item.
abbrev pub taken_bytes : Next → List ℕ → List ℕ
taken_bytes next.Nothing bytes = []
taken_bytes next.GapMarker bytes = gap_marker
taken_bytes (next.Packet size) bytes = take size bytes
taken_bytes (next.Rest fault) bytes = bytes

-- If the taken item is a PES packet, its bytes are within the stored bytes.
abbrev pub IsNextWithin : Next → List ℕ → Type 0
IsNextWithin next.Nothing bytes = ⊤
IsNextWithin next.GapMarker bytes = ⊤
IsNextWithin (next.Packet size) bytes = size ≤ length bytes
IsNextWithin (next.Rest fault) bytes = ⊤

-- The effect of taking the next pending item. Bytes that do not begin with a PES packet stay
-- pending.
abbrev pub TakesNext : JoiningValue → Next → JoiningValue → Type 0
TakesNext old next.Nothing new = (old.pending ≡ []) × (new ≡ old)
TakesNext old next.GapMarker new =
    (old.pending ≡ gap_marker ++ new.pending) × (new ≡ record old { pending = new.pending })
TakesNext old (next.Packet size) new =
    IsPesPacket (take size old.bytes)
    × (size ≤ length old.bytes)
    × (old.pending ≡ take size old.bytes ++ new.pending)
    × (new ≡ record old { pending = new.pending })
TakesNext old (next.Rest fault) new =
    (old.pending ≡ old.bytes)
    × IsRefusedAtStart old.bytes fault
    × (has_ended old.part ≡ true)
    × (new ≡ old)

-- The effect of taking the next pending item of any kind. Its bytes are no longer pending.
abbrev pub TakesNextOrRest : JoiningValue → Next → JoiningValue → Type 0
TakesNextOrRest old next new =
    (old.pending ≡ taken_bytes next new.bytes ++ new.pending)
    × (new ≡ record old { pending = new.pending })
    × (taken_bytes next new.bytes ≡ [] → old.pending ≡ [])
