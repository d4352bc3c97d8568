-- The steps of the checker for a PES packet that was read, and the frames so far after it.
use Rattle.std.specs.Prelude.{◌≡◌, ℕ, Bool, true, false, List, [], ◌∷◌}
use Rattle.sub_rules.specs.FrameRules.{Criteria}
use Rattle.sub_rules.specs.PesPacketEvents.{steps_of_sent}
use Rattle.sub_rules.specs.PesPackets.{sent_after}
use Rattle.sub_rules.specs.Transmission.{SentFrame, Transmission}
use Rattle.sub_rules.specs.Trusted.{CheckStep}
use Rattle.sub_rules.specs.Trusted.CheckStep.{AtPes, Emits}
use Rattle.sub_rules.specs.declared.event.Event.TheVariants.{Reported}
use Rattle.sub_rules.specs.declared.pes_packet.NextPesPacket.{NextPesPacket}
use Rattle.sub_rules.specs.declared.pes_packet.NextPesPacket.TheVariants as next
use Rattle.sub_rules.specs.declared.valid_pes_packet.ValidPesPacket.{ValidPesPacket}

-- The PES packet that was read is skipped.
abbrev pub is_skipped : NextPesPacket → Bool
is_skipped (next.Skipped f) = true
is_skipped (next.Sent s) = false

-- The PES packet that was read is not skipped, and has the same data field as the one before,
-- which is valid (`again`).
abbrev pub RepeatsLastPacket : NextPesPacket → Type 0
RepeatsLastPacket (next.Skipped f) = ⊥
RepeatsLastPacket (next.Sent s) = s.again ≡ true

-- The frame of a valid PES packet with these Teletext packets.
abbrev pub frame_with_packets : ValidPesPacket → List (List ℕ) → SentFrame
frame_with_packets s packets = record { frame = s.frame; packets = packets }

-- The steps for PES packet number `pes`, after the frames `sent`.
abbrev pub steps_of_read_packet : Criteria → Transmission → ℕ → NextPesPacket → List (List ℕ) → List
    CheckStep
steps_of_read_packet g sent pes (next.Skipped f) packets = AtPes pes ∷ Emits (Reported f) ∷ []
steps_of_read_packet g sent pes (next.Sent s) packets = steps_of_sent g sent pes
    (frame_with_packets s packets)

-- The frames after one more PES packet was read.
abbrev pub frames_after_read : Criteria → Transmission → NextPesPacket → List (List ℕ) →
    Transmission
frames_after_read g sent (next.Skipped f) packets = sent
frames_after_read g sent (next.Sent s) packets = sent_after g.within sent
    (frame_with_packets s packets)

-- The Teletext packets of the last PES packet that was not skipped.
abbrev pub last_packets_after_read : List (List ℕ) → NextPesPacket → List (List ℕ) → List (List ℕ)
last_packets_after_read last (next.Skipped f) packets = last
last_packets_after_read last (next.Sent s) packets = packets
