-- Laws that relate the PES packets in a recording to the PES packets that a multiplexer sent.
use Rattle.std.specs.Prelude.{◌≡◌, ℕ, List, [], ◌∷◌, ◌++◌}
use Rattle.std.specs.List.{AllByRecursion, AllZip, concat}
use Rattle.ttx_pes.specs.PesGrammar.{IsValidPesPacket, PesValue}
use Rattle.ttx_pes.specs.PesPackets.{IsPesPacket}
use Rattle.mpeg_ts.specs.CarriedPackets.{carried_bytes, gap_marker}
use Rattle.recording_laws.specs.Losses.{CarriesArrivingPackets, IsRecordingWithLosses, SentUnit}
use Rattle.recording_laws.specs.Losses.{HasOnlyShortLosses}
use Rattle.recording_laws.specs.Multiplex.{IsMultiplexed, Multiplex, sent_pes_packets}
use Rattle.recording_laws.specs.Pace.{AreFarApart, FirstPacketContainsPts, KeepPace, up_to_pts}

-- The TS packets of a PID in a complete recording carry exactly the PES packets that a multiplexer
-- sent in them. So no PES packet is lost and no gap marker is added.
abbrev pub LawOfMultiplex : Type 0
LawOfMultiplex =
    (number distance : ℕ) (packets : List (List ℕ)) (recording : List ℕ)
    → IsMultiplexed number distance packets recording
    → carried_bytes number distance recording ≡ concat packets

-- If at most 14 consecutive TS packets of the PID with payload are missing or damaged at a time,
-- and the multiplexer announces no jump of the PID's continuity counter, the recording carries,
-- apart from gap markers, exactly the PES packets that arrive, unchanged and in order. If a PES
-- packet is missing between two of them, there is a gap marker between these two. So no such loss
-- creates a PES packet, and no missing PES packet between two that arrive goes unnoticed.
abbrev pub LawOfLosses : Type 0
LawOfLosses =
    (number distance : ℕ) (m : Multiplex SentUnit) (recording : List ℕ)
    → HasOnlyShortLosses number distance m recording
    → CarriesArrivingPackets m.sent (carried_bytes number distance recording)

-- If at most 14 consecutive TS packets of the PID with payload are missing or damaged at a time,
-- and the multiplexer announces no jump of the PID's continuity counter, consecutive PES packets in
-- a recording with no gap marker between them were sent one after another: the multiplexer sent no
-- other PES packet between the first and the last of them.
abbrev pub LawOfNeighbours : Type 0
LawOfNeighbours =
    (number distance : ℕ) (m : Multiplex SentUnit) (recording : List ℕ)
    (before run following : List (List ℕ))
    → HasOnlyShortLosses number distance m recording
    → AllByRecursion IsPesPacket (before ++ (run ++ following))
    → carried_bytes number distance recording ≡ concat (before ++ (run ++ following))
    → AllByRecursion (λ p. p ≡ gap_marker → ⊥) run
    → (earlier later : List (List ℕ)) × (sent_pes_packets m ≡ earlier ++ (run ++ later))

-- The law of pace, for any number of lost packets. Assumptions: the multiplexer announces no jump
-- of the PID's continuity counter, the first TS packet of each PES packet contains its PTS, and of
-- two PES packets with 16 or more TS packets of the PID with payload, without their repeats,
-- between their starts, the second is more than `pace` frames later. Suppose that the recording
-- carries only complete PES packets and gap markers, and that each of consecutive PES packets in it
-- is at most `pace` frames later than the one before, with no gap marker among them. Then they were
-- sent in sequence, with the same bytes, and none between them is missing. The last of them is only
-- known to have the same bytes up to its PTS, because its later TS packets may belong to another
-- PES packet. `frame_of` may be any function of the bytes up to a PTS. So a loss is noticed even if
-- the continuity counters happen to match.
abbrev pub LawOfPace : Type 0
LawOfPace =
    (number distance pace : ℕ) (frame_of : List ℕ → ℕ) (m : Multiplex SentUnit) (recording : List ℕ)
    (before run following : List (List ℕ)) (last : List ℕ)
    → IsRecordingWithLosses number distance m recording
    → AllByRecursion (FirstPacketContainsPts distance) m.sent
    → AreFarApart frame_of pace m.sent
    → AllByRecursion IsPesPacket (before ++ (run ++ (last ∷ following)))
    → carried_bytes number distance recording ≡ concat (before ++ (run ++ (last ∷ following)))
    → AllByRecursion (λ p. p ≡ gap_marker → ⊥) (run ++ last ∷ [])
    → KeepPace frame_of pace (run ++ last ∷ [])
    → (earlier later : List (List ℕ)) × (next : List ℕ)
    × (sent_pes_packets m ≡ earlier ++ (run ++ (next ∷ later)))
    × (up_to_pts next ≡ up_to_pts last)

-- If all PES packets in a recording, or a range of them, form a PES file with Teletext, there is no
-- gap marker among them. If at most 14 consecutive TS packets of the PID with payload were missing
-- or damaged at a time, and the multiplexer announced no jump of the PID's continuity counter, no
-- PES packet that was sent between the first and the last of them is missing. `check` accepts only
-- such files. So if `check` accepts such a recording, every PES packet between these was recorded.
abbrev pub LawOfCompleteFile : Type 0
LawOfCompleteFile =
    (number distance : ℕ) (recording : List ℕ)
    (before following : List (List ℕ)) (values : List PesValue) (packets : List (List ℕ))
    → AllByRecursion IsPesPacket before
    → AllByRecursion IsPesPacket following
    → AllZip IsValidPesPacket values packets
    → carried_bytes number distance recording ≡ concat (before ++ (packets ++ following))
    → AllByRecursion (λ p. p ≡ gap_marker → ⊥) packets
    × ((m : Multiplex SentUnit)
    → HasOnlyShortLosses number distance m recording
    → (earlier later : List (List ℕ)) × (sent_pes_packets m ≡ earlier ++ (packets ++ later)))
