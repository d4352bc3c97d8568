-- The PES packets of a file, valid or not: each is as long as its length field states (EN 300 472,
-- PES_packet_length). A PES packet that does not match the grammar can be skipped, since its length
-- field shows where the next packet begins (not defined by a standard).
use Rattle.std.specs.Prelude.{◌≡◌, ℕ, zero, suc, ◌+◌, ◌-◌, ◌*◌, ◌≤◌, true, if◌then◌else◌, List, []}
use Rattle.std.specs.Prelude.{◌∷◌, ◌++◌, length, drop, Option, Some, None, Result, Ok, Err}
use Rattle.std.specs.Int.{bytes_high_first}
use Rattle.std.specs.Io.KnownBytes.{Consumes}
use Rattle.std.specs.List.{AllByRecursion, AllZip, concat}
use Rattle.ttx_pes.specs.declared.fault.PesFault.{PesFault}
use Rattle.ttx_pes.specs.declared.fault.PesFault.TheVariants.{TooMany}
use Rattle.ttx_pes.specs.Fault.{is_packet_content_fault}
use Rattle.ttx_pes.specs.PesGrammar.{PesValue, IsValidPesPacket, packet_length, packet_start}
use Rattle.ttx_pes.specs.PesGrammar.{payload_size}
use Rattle.ttx_pes.specs.Reading.{answer_at, max_pes_packets, packet_at, stated_size}

-- The bytes b are a PES packet, valid or not, n times 184 bytes for some n from 1 to 9:
--
--   0..3    packet_start_code_prefix, stream_id   00 00 01 BD
--   4..5    PES_packet_length                     184 * n - 6, high byte first
--   6..     arbitrary bytes
pub record IsPesPacket (b : List ℕ) : Type 0 where
  pub n : ℕ
  pub body : List ℕ
  pub bytes : b ≡ packet_start ++ (bytes_high_first 2 (packet_length n) ++ body)
  pub size : (1 ≤ n) × (n ≤ 9)
  pub long : length b ≡ payload_size * n

-- Exactly one PES packet was consumed, and it is rejected for the fault f.
pub record TakesRefusedPesPacket (old new : Option (List ℕ)) (f : PesFault) : Type 0 where
  pub bytes : List ℕ
  pub is_pes_packet : IsPesPacket bytes
  pub consumed : Consumes old new bytes
  pub refused : packet_at bytes ≡ Err f

-- ---- the PES packets in a list of bytes

-- The results of reading a file: the value or the fault of each PES packet, then the fault of the
-- bytes after the last packet, if any remain.
pub record PesPacketsValue : Type 0 where
  pub pes_packets : List (Result PesValue PesFault)
  pub left : Option PesFault

-- The results if no PES packet is read: only the fault of the bytes, if they have one.
abbrev pub without_pes_packets : Option PesFault → PesPacketsValue
without_pes_packets f = record { pes_packets = []; left = f }

-- The results of reading a PES packet and the bytes after it.
abbrev pub with_pes_packet : Result PesValue PesFault → PesPacketsValue → PesPacketsValue
with_pes_packet pes_packet more = record {
  pes_packets = pes_packet ∷ more.pes_packets;
  left = more.left;
}

-- Adds a reader's result in front of the results after it. If the result is not a PES packet, there
-- are no further results.
abbrev pub prepend_pes_packet_answer : Result (Option PesValue) PesFault → PesPacketsValue →
    PesPacketsValue
prepend_pes_packet_answer (Ok (Some v)) more = with_pes_packet (Ok v) more
prepend_pes_packet_answer (Ok None) more = without_pes_packets None
prepend_pes_packet_answer (Err f) more = if is_packet_content_fault f then with_pes_packet (Err f)
    more
    else without_pes_packets (Some f)

-- The bytes after the PES packet at the front.
abbrev pub rest_after_pes_packet : List ℕ → List ℕ
rest_after_pes_packet bytes = drop (stated_size bytes) bytes

-- The results of reading the bytes after `given` PES packets, if at most `room` more packets may be
-- read.
unfoldable pub pes_packets_from : ℕ → ℕ → List ℕ → PesPacketsValue
pes_packets_from zero given [] = without_pes_packets None
pes_packets_from zero given (x ∷ b) = without_pes_packets (Some TooMany)
pes_packets_from (suc room) given bytes =
    prepend_pes_packet_answer (answer_at given bytes)
    (pes_packets_from room (given + 1) (rest_after_pes_packet bytes))

-- The results of reading the bytes after `given` PES packets.
abbrev pub pes_packets_after : ℕ → List ℕ → PesPacketsValue
pes_packets_after given bytes = pes_packets_from (max_pes_packets - given) given bytes

-- ---- the PES packets by the grammar

-- The result for a PES packet: its value by the grammar, or its fault.
abbrev pub IsPesPacketOf : List ℕ → Result PesValue PesFault → Type 0
IsPesPacketOf b (Ok v) = IsValidPesPacket v b
IsPesPacketOf b (Err f) = (is_packet_content_fault f ≡ true) × (packet_at b ≡ Err f)

-- The result of a reader after its last PES packet: the end of the file, or a fault.
abbrev pub rest_fault_answer : Option PesFault → Result (Option PesValue) PesFault
rest_fault_answer None = Ok None
rest_fault_answer (Some f) = Err f

-- The bytes split into the PES packets of `value`: the longest list of packets at the front of the
-- bytes, at most one for each frame of a day.
pub record SplitInto (bytes : List ℕ) (value : PesPacketsValue) : Type 0 where
  pub packets : List (List ℕ)
  pub rest : List ℕ
  pub each : AllByRecursion IsPesPacket packets
  pub read : AllZip IsPesPacketOf packets value.pes_packets
  pub few : length packets ≤ max_pes_packets
  pub joined : bytes ≡ concat packets ++ rest
  pub longest :
      (others : List (List ℕ)) (more : List ℕ)
      → AllByRecursion IsPesPacket others
      → length others ≤ max_pes_packets
      → bytes ≡ concat others ++ more
      → length others ≤ length packets
  pub left_eq : answer_at (length packets) rest ≡ rest_fault_answer value.left
