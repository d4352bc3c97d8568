-- Splits the good transport packets of a PID into parts with at most one PES packet each. A
-- complete part gives a PES packet; one that begins a PES packet with a wrong start code or length
-- ends the stream; any other gives a gap, unless the recording may end within it (ISO/IEC 13818-1,
-- payload_unit_start_indicator; EN 300 472: the length of a PES packet).
use Rattle.std.specs.Prelude.{ℕ, ◌-◌, ◌&&◌, ◌||◌, not, nat_lt, nat_le, Bool, true, false}
use Rattle.std.specs.Prelude.{if◌then◌else◌, List, [], ◌∷◌, ◌++◌, length, take, Result, Ok, Err}
use Rattle.std.specs.List.{concat}
use Rattle.ttx_pes.specs.Reading.{size_at}
use Rattle.ttx_pes.specs.declared.fault.PesFault.{PesFault}
use Rattle.mpeg_ts.specs.GoodPackets.{GoodPacket, GoodPackets, PacketLink, Follows, Seam, Break}
use Rattle.mpeg_ts.specs.TransportPacket.{begins, payload}

-- A part of the transport packets of a PID: whether data was lost before the part, whether its
-- first packet begins a PES packet, and the payloads of its packets.
pub record Part : Type 0 where
  pub after_break : Bool
  pub begins : Bool
  pub payloads : List (List ℕ)

-- Data was lost between a good transport packet and the good packet before it.
abbrev pub is_break : PacketLink → Bool
is_break Break = true
is_break _ = false

-- A good transport packet that has a good packet before it, or a packet without a payload between
-- the two, announced a discontinuity, and no data is known to be lost.
abbrev pub is_seam : PacketLink → Bool
is_seam Seam = true
is_seam _ = false

-- A good transport packet does not directly follow the good packet before it, or there is none.
abbrev pub is_unlinked : PacketLink → Bool
is_unlinked Follows = false
is_unlinked _ = true

-- A good transport packet starts a new part: it begins a PES packet, or does not continue the good
-- packet before it.
abbrev pub begins_part : GoodPacket → Bool
begins_part g = begins g.packet || is_unlinked g.link

-- The part that consists of one transport packet.
abbrev pub single_packet_part : GoodPacket → Part
single_packet_part g = record {
  after_break = is_break g.link;
  begins = begins g.packet;
  payloads = payload g.packet ∷ [];
}

-- Appends a transport packet to a part.
abbrev pub with_packet : Part → GoodPacket → Part
with_packet part g = record part { payloads = part.payloads ++ payload g.packet ∷ [] }

-- The current part, extended by the good transport packets that continue it, and the parts after
-- it.
unfoldable pub parts_from : Part → List GoodPacket → List Part
parts_from part [] = part ∷ []
parts_from part (g ∷ more) =
    if begins_part g then part ∷ parts_from (single_packet_part g) more
    else parts_from (with_packet part g) more

-- Splits good transport packets into parts, with at most one PES packet each.
abbrev pub parts : List GoodPacket → List Part
parts [] = []
parts (g ∷ more) = parts_from (single_packet_part g) more

-- ---- the outcomes of parts

-- An outcome of a part: a PES packet; a gap, if data is missing or follows the PES packet; or bytes
-- that end the stream, since their start code or length is not that of a Teletext PES packet.
pub data PartOutcome : Type 0 where
  Pes : List ℕ → PartOutcome
  Gap : PartOutcome
  Other : List ℕ → PartOutcome

-- A gap if the argument is true, otherwise no outcome.
abbrev pub gap_where : Bool → List PartOutcome
gap_where true = Gap ∷ []
gap_where false = []

-- The bytes of a part: the payloads of its packets, joined.
abbrev pub part_bytes : Part → List ℕ
part_bytes part = concat part.payloads

-- The joined bytes of the first payloads, up to the one with which they have at least `count`
-- bytes, or of all payloads if they have fewer.
unfoldable pub payloads_up_to : ℕ → List (List ℕ) → List ℕ
payloads_up_to count [] = []
payloads_up_to count (first ∷ more) =
    if nat_le count (length first) then first else first ++ payloads_up_to (count - length first)
    more

-- The outcomes of a part that begins a PES packet, for the size that its first six bytes give.
-- `cut_off`: the recording may end within the part, so missing data is no gap.
abbrev pub outcome_of_size : Bool → Part → Result ℕ PesFault → List PartOutcome
outcome_of_size cut_off part (Ok size) =
    if nat_le size (length (part_bytes part)) then
    Pes (take size (part_bytes part)) ∷ gap_where (nat_lt size (length (part_bytes part)))
    else gap_where (not cut_off)
outcome_of_size cut_off part (Err f) = Other (payloads_up_to 6 part.payloads) ∷ []

-- The outcomes of a part. A part is complete if it begins a PES packet and has at least as many
-- bytes as that PES packet. Bytes after the PES packet count as a gap. So does an incomplete part,
-- unless it begins a PES packet whose first six bytes have a fault, or the recording may end within
-- it (`cut_off`).
unfoldable pub outcome : Bool → Part → List PartOutcome
outcome cut_off part =
    if part.begins && nat_le 6 (length (part_bytes part)) then
    outcome_of_size cut_off part (size_at (take 6 (part_bytes part)))
    else gap_where (not cut_off)

-- The recording may end within the part: it is the last part, and no unusable packet follows it.
abbrev pub may_be_cut_off : Bool → List Part → Bool
may_be_cut_off wrong_after [] = not wrong_after
may_be_cut_off wrong_after (_ ∷ _) = false

-- The outcomes of parts. Data lost before a part is a gap, and so is an unusable packet after the
-- last part.
unfoldable pub outcomes : Bool → List Part → List PartOutcome
outcomes wrong_after [] = gap_where wrong_after
outcomes wrong_after (part ∷ more) =
    gap_where part.after_break
    ++ (outcome (may_be_cut_off wrong_after more) part ++ outcomes wrong_after more)

-- The outcomes of good transport packets.
abbrev pub outcomes_of : GoodPackets → List PartOutcome
outcomes_of good = outcomes good.wrong_after (parts good.packets)
