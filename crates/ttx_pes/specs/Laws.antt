-- Laws about the format of PES packets, for lists of bytes.
use Rattle.std.specs.Prelude.{◌≡◌, ◌≢◌, ◌↔◌, ℕ, ◌^◌, ◌<◌, ◌≤◌, List, [], ◌++◌, length, map, Some}
use Rattle.std.specs.Prelude.{None, Ok, Err, true}
use Rattle.std.specs.Prelude.{IfSome, Option, min}
use Rattle.std.specs.List.{AllByRecursion, AllPairs, concat}
use Rattle.sub_io.specs.Reading.{AreBytes}
use Rattle.ttx_packet.specs.PacketAddress.{IsPacket}
use Rattle.ttx_pes.specs.DataUnit.{UnitValue}
use Rattle.ttx_pes.specs.LineOrder.{numbered_units, AreInLineOrder, PrecedesInLineOrder}
use Rattle.ttx_pes.specs.PesGrammar.{PesValue, IsValidPesPacket, IsPesValue, canonical_packet}
use Rattle.ttx_pes.specs.PesGrammar.{numbered_frame}
use Rattle.ttx_pes.specs.PesPacketRange.{StartsWithoutPesPacket, packets_in_range, first_index}
use Rattle.ttx_pes.specs.PesPacketRange.{range_bytes}
use Rattle.ttx_pes.specs.PesPackets.{SplitInto, IsPesPacket, pes_packets_after}
use Rattle.ttx_pes.specs.Reader.{StartsWithoutValidPacket}
use Rattle.ttx_pes.specs.Reading.{packet_at, answer_at, rest_after, is_format_fault}
use Rattle.ttx_pes.specs.Reading.{max_pes_packets}
use Rattle.ttx_pes.specs.Refusal.{fault_of_check, FailsFirstAtCheck}
use Rattle.ttx_pes.specs.declared.fault.PesFault.{PesFault}
use Rattle.ttx_pes.specs.declared.fault.PesFault.TheVariants.{TooMany}

-- A valid PES packet has only one value, and no valid packet is a proper prefix of another. So a
-- file splits into valid PES packets in at most one way.
abbrev pub LawOfOneValue : Type 0
LawOfOneValue =
    (a b x y : List ℕ) (v w : PesValue)
    → IsValidPesPacket v a
    → IsValidPesPacket w b
    → a ++ x ≡ b ++ y
    → (a ≡ b) × (v ≡ w)

-- The value of a valid PES packet fits in a `PesFrame`.
abbrev pub LawOfPacketValue : Type 0
LawOfPacketValue = (v : PesValue) (b : List ℕ) → IsValidPesPacket v b → IsPesValue v

-- The canonical packet of each value that fits in a `PesFrame` is a valid PES packet with that
-- value.
abbrev pub LawOfCanonicalPacket : Type 0
LawOfCanonicalPacket = (v : PesValue) → IsPesValue v → IsValidPesPacket v (canonical_packet v)

-- Reading a valid PES packet returns its value, whatever bytes follow. So parsing rejects nothing
-- that matches the grammar.
abbrev pub LawOfReading : Type 0
LawOfReading =
    (v : PesValue) (b rest : List ℕ) → IsValidPesPacket v b → packet_at (b ++ rest) ≡ Ok (v, rest)

-- If reading returns a value, the bytes begin with a valid PES packet of that value. So a reader
-- accepts nothing that does not match the grammar.
abbrev pub LawOfGrammar : Type 0
LawOfGrammar =
    (v : PesValue) (bytes rest : List ℕ)
    → AreBytes bytes
    → packet_at bytes ≡ Ok (v, rest)
    → (b : List ℕ) × IsValidPesPacket v b × (bytes ≡ b ++ rest)

-- If no PES packet can be read from the bytes, the fault is that of the first check that they fail:
-- a packet of the grammar agrees with them in all earlier checks, but none agrees in this check
-- too. If the bytes fail a check, no PES packet is read. So the grammar and the order of the checks
-- determine the reported fault.
abbrev pub LawOfRefusal : Type 0
LawOfRefusal =
    (bytes : List ℕ)
    → AreBytes bytes
    → ((f : PesFault)
    → packet_at bytes ≡ Err f
    → (question : ℕ) × (fault_of_check bytes question ≡ f) × FailsFirstAtCheck question bytes)
    × ((question : ℕ) → FailsFirstAtCheck question bytes → (f : PesFault) ×
    (packet_at bytes ≡ Err f))

-- The meaning of a reader's result for the remaining bytes. At the end, no bytes remain. After a
-- format fault, the remaining bytes do not begin with a valid PES packet. After `TooMany`, more
-- bytes remain.
abbrev pub LawOfReaderAnswers : Type 0
LawOfReaderAnswers =
    (given : ℕ) (bytes : List ℕ)
    → (answer_at given bytes ≡ Ok None → bytes ≡ [])
    × ((f : PesFault)
    → is_format_fault f ≡ true
    → answer_at given bytes ≡ Err f
    → StartsWithoutValidPacket bytes)
    × (answer_at given bytes ≡ Err TooMany → 0 < length bytes)

-- Reading the bytes written for a frame returns that frame, and leaves the bytes that follow,
-- unless 2,160,000 packets were read before. So a schedule of at most so many packets is read as it
-- was written.
abbrev pub LawOfReadingBack : Type 0
LawOfReadingBack =
    (given : ℕ) (v : PesValue) (rest : List ℕ)
    → given ≢ max_pes_packets
    → IsPesValue v
    → (answer_at given (canonical_packet v ++ rest) ≡ Ok (Some v))
    × (rest_after (canonical_packet v ++ rest) ≡ rest)

-- Units are in line order exactly if, for any two units with a defined line, the later unit has the
-- later line.
abbrev pub LawOfLineOrder : Type 0
LawOfLineOrder = (units : List UnitValue) → AreInLineOrder 0 units ↔ AllPairs PrecedesInLineOrder
    units

-- Up to 32 Teletext packets of one video frame form, with a PTS below 2^33, a value that fits in a
-- `PesFrame`, and the units of that value carry these packets.
abbrev pub LawOfNumberedFrame : Type 0
LawOfNumberedFrame =
    (pts : ℕ) (packets : List (List ℕ))
    → pts < 2 ^ 33
    → length packets ≤ 32
    → AllByRecursion IsPacket packets
    → IsPesValue (numbered_frame pts packets)
    × (map (λ (u : UnitValue). u.packet) (numbered_units 0 packets) ≡ packets)

-- Bytes split into the PES packets that are read from them: the longest list of at most 2,160,000
-- packets with correct length fields at the front of the bytes. Each packet has the value or the
-- fault that the grammar gives. So no skipped packet is left out of the reports.
abbrev pub LawOfPesPackets : Type 0
LawOfPesPackets = (bytes : List ℕ) → AreBytes bytes → SplitInto bytes (pes_packets_after 0 bytes)

-- A range of a file contains the PES packets with the indices in the range and, if it extends
-- beyond the last packet of the file, the bytes after that packet. Its first index is `first`, or
-- the number of packets in the file if it has fewer.
abbrev pub LawOfRanges : Type 0
LawOfRanges =
    (first : ℕ) (last : Option ℕ) (pes_packets : List (List ℕ)) (rest : List ℕ)
    → IfSome last (λ l. first ≤ l)
    → AllByRecursion IsPesPacket pes_packets
    → AreBytes rest
    → StartsWithoutPesPacket rest
    → (range_bytes (record { first = first; last = last }) (concat pes_packets ++ rest)
    ≡ packets_in_range first last pes_packets rest)
    × (first_index (record { first = first; last = last }) (concat pes_packets ++ rest)
    ≡ min first (length pes_packets))
