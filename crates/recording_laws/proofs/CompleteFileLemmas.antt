-- If all PES packets in a recording contain Teletext, there is no gap marker among them.
use Rattle.std.proofs.Common.{◌≡◌, ℕ, List, [], ◌∷◌, ◌++◌, length, slice_index, ap, subst, ◌∙◌}
use Rattle.std.proofs.Common.{arith}
use Rattle.std.specs.List.{AllByRecursion, AllZip}
use Rattle.ttx_pes.specs.PesGrammar.{IsValidPesPacket, PesValue}
use Rattle.ttx_pes.specs.PesPackets.{IsPesPacket}
use Rattle.ttx_pes.proofs.PesHeaderLemmas.{valid_body_decodes, body_of_valid_packet}
use Rattle.ttx_pes.proofs.PesHeaderLemmas.{packet_is_header_and_body}
use Rattle.mpeg_ts.specs.CarriedPackets.{gap_marker}
use Rattle.recording_laws.specs.Laws.{LawOfCompleteFile}
use Rattle.recording_laws.proofs.ArrivingLaw.{law_of_neighbours}
use Rattle.recording_laws.proofs.PesPacketLemmas.{pes_packets-append}

-- A gap marker is not a PES packet with Teletext: its byte 6 is FF, but byte 6 of a PES packet with
-- Teletext starts with the bits 1000.
no-packet : (v : PesValue) → IsValidPesPacket v gap_marker → ⊥
unfolding gap_marker
no-packet v h =
    let byte : 0xFF ≡ h.flags = ap (λ (l : List ℕ). slice_index l 6) h.bytes in
    absurd (omega (arith, byte, h.scrambling_is_off))

no-gap_markers : (values : List PesValue) (packets : List (List ℕ))
    → AllZip IsValidPesPacket values packets
    → AllByRecursion (λ p. p ≡ gap_marker → ⊥) packets
no-gap_markers [] [] each = tt
no-gap_markers [] (p ∷ packets) each = absurd each
no-gap_markers (v ∷ values) [] each = absurd each
no-gap_markers (v ∷ values) (p ∷ packets) each =
    (λ is. no-packet v (subst (IsValidPesPacket v) is each.0), no-gap_markers values packets each.1)

packet-pes_packet : (v : PesValue) (p : List ℕ) → IsValidPesPacket v p → IsPesPacket p
packet-pes_packet v p h =
    let is = packet_is_header_and_body v p h in
    let long = (valid_body_decodes v p h).1 in
    record {
      n = h.n;
      body = body_of_valid_packet v p h;
      bytes = is;
      size = h.size;
      long = ap length is ∙ omega (arith, long, h.size.0);
    }

packet-pes_packets : (values : List PesValue) (packets : List (List ℕ))
    → AllZip IsValidPesPacket values packets
    → AllByRecursion IsPesPacket packets
packet-pes_packets [] [] each = tt
packet-pes_packets [] (p ∷ packets) each = absurd each
packet-pes_packets (v ∷ values) [] each = absurd each
packet-pes_packets (v ∷ values) (p ∷ packets) each =
    (packet-pes_packet v p each.0, packet-pes_packets values packets each.1)

pub law_of_complete_file : LawOfCompleteFile
law_of_complete_file number distance recording before following values packets is_before is_after
    each
    joined =
    let none = no-gap_markers values packets each in (
      none,
      λ m lossy. law_of_neighbours number distance m recording before packets following lossy
          (pes_packets-append before (packets ++ following) is_before
          (pes_packets-append packets following (packet-pes_packets values packets each) is_after))
          joined none,
    )
