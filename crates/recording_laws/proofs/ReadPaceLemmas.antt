-- If each PES packet is read as a frame at most `pace` after the frame of the PES packet before it,
-- the frames computed from the bytes up to the PTS have the same property.
use Rattle.std.proofs.lemmas.Bool.Decides.{nat_tests}
use Rattle.std.proofs.Common.{◌≡◌, ℕ, ◌+◌, ◌^◌, ◌<◌, ◌≤◌, List, [], ◌∷◌, take, drop, sym, ap, ◌∙◌}
use Rattle.std.proofs.Common.{subst, arith, Option}
use Rattle.std.specs.List.{AllByRecursion, AllZip}
use Rattle.std.specs.Prelude.{unwrap_or}
use Rattle.ttx_pes.specs.PesGrammar.{IsValidPesPacket, PesValue, header_data_length, pts_bytes}
use Rattle.ttx_pes.specs.PesPackets.{IsPesPacket}
use Rattle.ttx_pes.specs.Reading.{pts_bits}
use Rattle.recording_laws.specs.Pace.{KeepPace, KeepPaceFrom, frame_up_to_pts, up_to_pts}
use Rattle.sub_plan.specs.FrameTime.{clock_of}
use Rattle.sub_plan.specs.Options.{OptionsValue}
use Rattle.sub_rules.specs.PesFrames.{IsReadAs}
use Rattle.sub_rules.specs.Transmission.{SentFrame, Transmission}
use Rattle.sub_rules.proofs.PesPacketFileLemmas.{packet_is_pes_packet}
use Rattle.recording_laws.specs.PacedCheck.{frame_by_clock}
use Rattle.recording_laws.proofs.PacedFrameLemmas.{AreNear, AreNearFrom, numbers}

pub are-pes_packets : (values : List PesValue) (packets : List (List ℕ))
    → AllZip IsValidPesPacket values packets
    → AllByRecursion IsPesPacket packets
are-pes_packets [] [] each = tt
are-pes_packets [] (p ∷ packets) each = absurd each
are-pes_packets (v ∷ values) [] each = absurd each
are-pes_packets (v ∷ values) (p ∷ packets) each =
    (packet_is_pes_packet v p each.0, are-pes_packets values packets each.1)

written-bits : (a b c pts : ℕ) → pts < 2 ^ 33 → pts_bits (a ∷ b ∷ c ∷ pts_bytes pts) ≡ pts
written-bits a b c pts fits = grind (arith, nat_tests)

-- The bytes of a PES packet up to its PTS determine the PTS.
prefix-bits : (v : PesValue) (p : List ℕ)
    → IsValidPesPacket v p
    → pts_bits (drop 6 (up_to_pts p)) ≡ v.pts
prefix-bits v p h =
    ap (λ (b : List ℕ). pts_bits (drop 6 (take 14 b))) h.bytes
    ∙ written-bits h.flags h.pts_dts_flags header_data_length v.pts h.pts_fits

module _ (options : OptionsValue) where
  prefix-frame : (v : PesValue) (p : List ℕ) (s : SentFrame)
      → IsValidPesPacket v p
      → IsReadAs (clock_of options) v s
      → frame_up_to_pts (frame_by_clock options) p ≡ s.frame
  prefix-frame v p s h read =
      ap (λ (pts : ℕ). unwrap_or (clock_of options pts) 0) (prefix-bits v p h)
      ∙ ap (λ (frame : Option ℕ). unwrap_or frame 0) read.frame

  keeps-from : (pace frame : ℕ) (values : List PesValue) (packets : List (List ℕ))
      (sendings : Transmission)
      → AllZip IsValidPesPacket values packets
      → AllZip (IsReadAs (clock_of options)) values sendings
      → AreNearFrom pace frame (numbers sendings)
      → KeepPaceFrom (frame_by_clock options) pace frame packets
  keeps-from pace frame values [] sendings each read near = tt
  keeps-from pace frame [] (p ∷ packets) sendings each read near = absurd each
  keeps-from pace frame (v ∷ values) (p ∷ packets) [] each read near = absurd read
  keeps-from pace frame (v ∷ values) (p ∷ packets) (s ∷ sendings) each read near =
      let own = prefix-frame v p s each.0 read.0 in
      let rest = keeps-from pace s.frame values packets sendings each.1 read.1 near.1 in (
        subst (λ (f : ℕ). f ≤ frame + pace) (sym own) near.0,
        subst (λ (f : ℕ). KeepPaceFrom (frame_by_clock options) pace f packets) (sym own) rest,
      )

  pub keeps-pace : (pace : ℕ) (values : List PesValue) (packets : List (List ℕ))
      (sendings : Transmission)
      → AllZip IsValidPesPacket values packets
      → AllZip (IsReadAs (clock_of options)) values sendings
      → AreNear pace (numbers sendings)
      → KeepPace (frame_by_clock options) pace packets
  keeps-pace pace values [] sendings each read near = tt
  keeps-pace pace [] (p ∷ packets) sendings each read near = absurd each
  keeps-pace pace (v ∷ values) (p ∷ packets) [] each read near = absurd read
  keeps-pace pace (v ∷ values) (p ∷ packets) (s ∷ sendings) each read near =
      subst (λ (f : ℕ). KeepPaceFrom (frame_by_clock options) pace f packets)
      (sym (prefix-frame v p s each.0 read.0))
      (keeps-from pace s.frame values packets sendings each.1 read.1 near)
