-- The PES packets that the transport packets of a PID carry, in the form of a PES file, with a gap
-- marker after each PES packet that a gap follows (not defined by a standard).
use Rattle.std.specs.Prelude.{ℕ, ◌&&◌, Bool, true, false, List, [], ◌∷◌, ◌++◌, replicate}
use Rattle.std.specs.Int.{bytes_high_first}
use Rattle.ttx_pes.specs.PesGrammar.{packet_start, packet_length}
use Rattle.mpeg_ts.specs.GoodPackets.{good_packets}
use Rattle.mpeg_ts.specs.PacketsInStep.{items_of}
use Rattle.mpeg_ts.specs.Parts.{PartOutcome, Pes, Gap, Other, outcomes_of}

-- The gap marker, 184 bytes: the start code and the length field of a PES packet, and FF in all
-- other bytes, unlike in any Teletext PES packet.
--
--   0..3    packet_start_code_prefix, stream_id   00 00 01 BD
--   4..5    PES_packet_length                     00 B2
--   6..183                                        FF
unfoldable pub gap_marker : List ℕ
gap_marker = packet_start ++ (bytes_high_first 2 (packet_length 1) ++ replicate 178 0xFF)

-- The bytes of a gap marker, or no bytes.
abbrev pub gap_marker_where : Bool → List ℕ
gap_marker_where true = gap_marker
gap_marker_where false = []

-- The bytes for the outcomes of parts: PES packets and gap markers, up to and including the first
-- `Other` bytes. `given`: a PES packet came before; `gap`: a gap came after it, or before the first
-- PES packet. One gap marker stands for all gaps from one PES packet to the next, or after the
-- last. Gaps before the first PES packet have no marker, since a recording may begin anywhere.
unfoldable pub with_gap_markers : Bool → Bool → List PartOutcome → List ℕ
with_gap_markers given gap [] = gap_marker_where (given && gap)
with_gap_markers given gap (Gap ∷ more) = with_gap_markers given true more
with_gap_markers given gap (Pes bytes ∷ more) =
    gap_marker_where (given && gap) ++ (bytes ++ with_gap_markers true false more)
with_gap_markers given gap (Other bytes ∷ more) = gap_marker_where (given && gap) ++ bytes

-- The complete PES packets that the transport packets of a PID carry in the first 2^48 bytes of a
-- recording with this packet size, with a gap marker after each one that a gap follows. The first
-- part that begins with a wrong start code or length ends the output: its first payloads come last.
unfoldable pub carried_bytes : ℕ → ℕ → List ℕ → List ℕ
carried_bytes number distance recording =
    with_gap_markers false false
    (outcomes_of (good_packets distance number (items_of distance recording)))
