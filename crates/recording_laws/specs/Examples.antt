-- Two recordings, byte by byte: one without losses and one with losses.
use Rattle.std.specs.Prelude.{◌≡◌, ℕ, false, List, [], ◌∷◌, ◌++◌, None, replicate}
use Rattle.mpeg_ts.specs.CarriedPackets.{gap_marker}
use Rattle.recording_laws.specs.Losses.{UnitFate, SentUnit, HasOnlyShortLosses, RecordedIntact}
use Rattle.recording_laws.specs.Losses.{NotRecorded, RecordedDamaged, arriving_bytes}
use Rattle.recording_laws.specs.Multiplex.{IsMultiplexed, Multiplex, SentPes}

-- A PES packet of 184 bytes: packet_start_code_prefix, stream_id and PES_packet_length, and then
-- 178 times the byte `filler`.
abbrev pub pes_packet_filled_with : ℕ → List ℕ
pes_packet_filled_with filler = 0x00 ∷ 0x00 ∷ 0x01 ∷ 0xBD ∷ 0x00 ∷ 0xB2 ∷ replicate 178 filler

-- A TS packet of PID 257 with payload_unit_start_indicator set, the given byte 3, and the given
-- payload.
abbrev pub packet_with : ℕ → List ℕ → List ℕ
packet_with byte_3 bytes = 0x47 ∷ 0x41 ∷ 0x01 ∷ byte_3 ∷ bytes

-- A TS packet of PID 257 with payload_unit_start_indicator and transport_error_indicator set, the
-- given byte 3, and the given payload.
abbrev pub damaged_packet_with : ℕ → List ℕ → List ℕ
damaged_packet_with byte_3 bytes = 0x47 ∷ 0xC1 ∷ 0x01 ∷ byte_3 ∷ bytes

-- A null packet: a TS packet of PID 8191.
abbrev pub null_packet : List ℕ
null_packet = 0x47 ∷ 0x1F ∷ 0xFF ∷ 0x10 ∷ replicate 184 0xFF

-- A PES packet that is sent in one TS packet, with no other TS packets before the next TS packet of
-- the PID.
abbrev pub sent_in_one_packet : {A : Type 0} → A → List ℕ → SentPes A
sent_in_one_packet item bytes = record {
  bytes = bytes;
  first = record { packet = item; before = []; again = None; after = [] };
  others = [];
}

-- A recording of two PES packets, each in one TS packet of PID 257, after a null packet.
abbrev pub recording_of_two_packets : List ℕ
recording_of_two_packets =
    null_packet ++ (packet_with 0x10 (pes_packet_filled_with 0x20) ++ packet_with 0x11
    (pes_packet_filled_with 0x21))

-- The recording of two PES packets satisfies the definition of a complete recording with TS packets
-- of 188 bytes.
abbrev pub ExampleOfMultiplex : Type 0
ExampleOfMultiplex = IsMultiplexed 257 188 (pes_packet_filled_with 0x20 ∷ pes_packet_filled_with
    0x21 ∷ []) recording_of_two_packets

-- A TS packet with a PES packet of filler bytes, and whether it was recorded intact, damaged or not
-- at all.
abbrev pub sent_unit_with : (byte_3 filler : ℕ) → UnitFate → SentUnit
sent_unit_with byte_3 filler fate =
    record { unit = packet_with byte_3 (pes_packet_filled_with filler); fate = fate }

-- Four PES packets as sent. The TS packet of the second was not recorded, and the TS packet of the
-- third was damaged.
abbrev pub four_packets_with_losses : Multiplex SentUnit
four_packets_with_losses = record {
  lead = record { unit = null_packet; fate = RecordedIntact } ∷ [];
  sent =
      sent_in_one_packet (sent_unit_with 0x10 0x20 RecordedIntact) (pes_packet_filled_with 0x20)
      ∷ sent_in_one_packet (sent_unit_with 0x11 0x21 NotRecorded) (pes_packet_filled_with 0x21)
      ∷ sent_in_one_packet (sent_unit_with 0x12 0x22
      (RecordedDamaged (damaged_packet_with 0x12 (pes_packet_filled_with 0x22))))
      (pes_packet_filled_with 0x22)
      ∷ sent_in_one_packet (sent_unit_with 0x13 0x23 RecordedIntact) (pes_packet_filled_with 0x23)
      ∷ [];
}

-- The recording of four PES packets with losses.
abbrev pub recording_with_losses : List ℕ
recording_with_losses =
    null_packet
    ++ (packet_with 0x10 (pes_packet_filled_with 0x20)
    ++ (damaged_packet_with 0x12 (pes_packet_filled_with 0x22) ++ packet_with 0x13
    (pes_packet_filled_with 0x23)))

-- The recording of four PES packets satisfies the definition of a recording with losses. The first
-- and the last PES packet arrive, with a gap marker between them.
pub record ExampleOfLosses : Type 0 where
  pub lossy : HasOnlyShortLosses 257 188 four_packets_with_losses recording_with_losses
  pub arrives : arriving_bytes false false four_packets_with_losses.sent ≡ pes_packet_filled_with
      0x20 ++
      (gap_marker ++ pes_packet_filled_with 0x23)
