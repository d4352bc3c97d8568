-- Copying to a file: each PES packet is read and then written, and so are any bytes after the last
-- PES packet. No contract of a function that the crate exports uses this file.
use Rattle.std.specs.Prelude.{◌≡◌, ℕ, ◌<◌, List, [], Bool, true, false, length, take, drop}
use Rattle.std.specs.Prelude.{Option, Some, Result, Ok, Err}
use Rattle.std.specs.Io.KnownBytes.{Appends, Keeps}
use Rattle.sub_io.specs.Device.{AppendsPrefix}
use Rattle.ttx_pes.specs.Fault.{is_read_fault}
use Rattle.ttx_pes.specs.PesPacketRange.{rest_after_pes_packets, count_pes_packets}
use Rattle.ttx_pes.specs.PesPacketRange.{first_pes_packets, pes_packet_size}
use Rattle.ttx_pes.specs.declared.pes_packets.Received.{Received}
use Rattle.ttx_pes.specs.declared.pes_packets.Received.TheVariants.{End, PesPacket, Rest}
use Rattle.sub_listing.specs.Extracting.{begins_with_gap_marker, count_gap_markers}
use Rattle.sub_listing.specs.Extracting.{max_pes_packet_count, fault_at_start}
use Rattle.sub_listing.specs.declared.copying.CopyFault.{CopyFault}
use Rattle.sub_listing.specs.declared.copying.CopyFault.TheVariants as fault

-- The source of the PES packets failed.
abbrev pub is_copy_source_failure : CopyFault → Bool
is_copy_source_failure fault.Read = true
is_copy_source_failure fault.Write = false

-- The output file failed.
abbrev pub is_copy_file_failure : CopyFault → Bool
is_copy_file_failure fault.Read = false
is_copy_file_failure fault.Write = true

-- A PES packet was read.
abbrev pub is_pes_packet : {A : Type 0} → Received A → Bool
is_pes_packet (PesPacket answer) = true
is_pes_packet _ = false

-- The source failed, but the result reports unreadable bytes instead. Contracts rule this case out.
abbrev pub reports_failure_as_rest : {A : Type 0} → Received A → Bool
reports_failure_as_rest (Rest f) = is_read_fault f
reports_failure_as_rest _ = false

-- The first `read` of the bytes were consumed, and were written to the file.
pub record HasCopied
    (bytes : List ℕ) (left old new : Option (List ℕ)) (read : ℕ) : Type 0 where
  pub left_eq : left ≡ Some (drop read bytes)
  pub written : Appends old new (take read bytes)

-- The bytes that one step of copying appended to the file: nothing if no PES packet was read, a
-- complete PES packet, or a prefix of the bytes if the file failed.
abbrev pub CopiesNext :
    List ℕ → Option (List ℕ) → Option (List ℕ) → Option (List ℕ) → Result (Received Bool) CopyFault
    → Type 0
CopiesNext bytes left old new (Ok End) = (bytes ≡ []) × Keeps old new
CopiesNext bytes left old new (Ok (PesPacket is_gap_marker)) =
    (size : ℕ) × (pes_packet_size bytes ≡ Some size) × (is_gap_marker ≡ begins_with_gap_marker size
    bytes)
    × HasCopied bytes left old new size
CopiesNext bytes left old new (Ok (Rest f)) =
    (fault_at_start bytes ≡ Some f) × (left ≡ Some bytes) × (new ≡ old)
CopiesNext bytes left old new (Err fault.Read) = Keeps old new
CopiesNext bytes left old new (Err fault.Write) = AppendsPrefix old new bytes

-- The bytes that were appended to the file after the last PES packet: all of them, unless there are
-- too many; or a prefix if a device failed.
abbrev pub CopiesRest :
    List ℕ → Option (List ℕ) → Option (List ℕ) → Result (Unit {0}) CopyFault → Type 0
CopiesRest bytes old new (Ok u) =
    AppendsPrefix old new bytes × (length bytes < max_pes_packet_count → Appends old new bytes)
CopiesRest bytes old new (Err f) = AppendsPrefix old new bytes

-- Exactly `pes_packets` PES packets were copied, including `gaps` gap markers.
pub record HasCopiedPesPackets
    (bytes : List ℕ) (left old new : Option (List ℕ)) (pes_packets gaps : ℕ) : Type 0 where
  pub left_eq : left ≡ Some (rest_after_pes_packets pes_packets bytes)
  pub written : Appends old new (first_pes_packets pes_packets bytes)
  pub number : count_pes_packets pes_packets bytes ≡ pes_packets
  pub gap_markers : gaps ≡ count_gap_markers pes_packets bytes
