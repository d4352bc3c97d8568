-- The bytes that `extract` writes, and the line that it prints.
use Rattle.std.specs.Prelude.{◌≡◌, ℕ, zero, suc, ◌+◌, ◌<◌, ◌==◌, ◌&&◌, Bool}
use Rattle.std.specs.Prelude.{true, false, List, [], ◌++◌, codes, decimal, length, take, drop}
use Rattle.std.specs.Prelude.{Option, Some, None, Result, Ok, Err, if◌then◌else◌, ◌⊎◌}
use Rattle.std.specs.Io.KnownBytes.{Appends, Keeps}
use Rattle.sub_io.specs.Device.{AppendsPrefix, CountRisesIf, failed}
use Rattle.sub_io.specs.Reading.{IfKnown}
use Rattle.ttx_pes.specs.PesGrammar.{payload_size}
use Rattle.ttx_pes.specs.PesPacketRange.{rest_after_pes_packets, with_packet_size_or}
use Rattle.ttx_pes.specs.PesPacketRange.{count_pes_packets}
use Rattle.ttx_pes.specs.PesPacketRange.{first_pes_packets}
use Rattle.ttx_pes.specs.PesPacketRange.{pes_packet_size}
use Rattle.ttx_pes.specs.Advancing.{rest_fault}
use Rattle.ttx_pes.specs.Reading.{is_all_stuffing}
use Rattle.ttx_pes.specs.declared.fault.PesFault.{PesFault}
use Rattle.ttx_pes.specs.declared.fault.PesFault.TheVariants as pes
use Rattle.sub_rules.specs.declared.fault.CheckFault.TheVariants as check
use Rattle.sub_rules.specs.declared.fault_place.FaultPlace.TheVariants.{Nowhere}
use Rattle.ttx_pes.specs.Fault.{is_read_fault, pes_code}
use Rattle.sub_listing.specs.DeviceCall.{SinkCall, SourceCall}
use Rattle.sub_listing.specs.Faults.{check_line}
use Rattle.sub_listing.specs.Listing.{Listing, PrintsOrFails, done, fault_listing}
use Rattle.sub_listing.specs.FaultLine.{line_with, counted_from}
use Rattle.sub_listing.specs.declared.extract.ExtractFault.{ExtractFault}
use Rattle.sub_listing.specs.declared.extract.ExtractFault.TheVariants.{Empty, Read, Refused, Write}
use Rattle.sub_listing.specs.declared.extract.Extracted.{Extracted}
use Rattle.sub_listing.specs.declared.fault_line.Kind.TheVariants as kind
use Rattle.sub_listing.specs.declared.fault_line.FaultLine.{FaultLine}
use Rattle.sub_listing.specs.declared.status.Status.{Status}

-- ---- the bytes to copy

-- The PES packet at the front, which has `size` bytes, is a gap marker: 184 bytes, all FF from byte
-- 6 on.
abbrev pub begins_with_gap_marker : ℕ → List ℕ → Bool
begins_with_gap_marker size b = (size == payload_size) && is_all_stuffing (drop 6 (take size b))

-- The number of gap markers among the first `n` PES packets.
unfoldable pub count_gap_markers : ℕ → List ℕ → ℕ
count_gap_markers zero b = 0
count_gap_markers (suc n) b =
    with_packet_size_or (pes_packet_size b)
    (λ size. (if begins_with_gap_marker size b then 1 else 0) + count_gap_markers n (drop size b)) 0

-- The reason why the bytes do not begin with a PES packet; `None` if they do, or if there are no
-- bytes.
unfoldable pub fault_at_start : List ℕ → Option PesFault
fault_at_start b = if length b == 0 then None else rest_fault b

-- The greatest number of PES packets that can be counted, 2^64 - 1.
abbrev pub max_pes_packet_count : ℕ
max_pes_packet_count = 0xFFFF_FFFF_FFFF_FFFF

-- ---- the bytes that were written

-- The source failed.
abbrev pub is_extract_source_failure : ExtractFault → Bool
is_extract_source_failure (Read pes) = true
is_extract_source_failure _ = false

-- The source failed, but the fault reports bytes that are not a PES packet instead. Contracts rule
-- this case out.
abbrev pub reports_failure_as_rejection : ExtractFault → Bool
reports_failure_as_rejection (Refused f pes) = is_read_fault f
reports_failure_as_rejection _ = false

-- The output file failed.
abbrev pub is_extract_file_failure : ExtractFault → Bool
is_extract_file_failure Write = true
is_extract_file_failure _ = false

-- The bytes consist of `pes` PES packets, at least one, including `gaps` gap markers, and were all
-- written to the file.
pub record IsExtractedCompletely (bytes : List ℕ) (old new : Option (List ℕ)) (pes gaps : ℕ) : Type
    0 where
  pub pes_packets : count_pes_packets pes bytes ≡ pes
  pub whole : rest_after_pes_packets pes bytes ≡ []
  pub gap_markers : gaps ≡ count_gap_markers pes bytes
  pub some : 0 < pes
  pub written : Appends old new bytes

-- After `pes` PES packets, the bytes are rejected because of fault `f`, and all bytes were written
-- to the file. If there are 2^64 - 1 bytes or more, `f` may be any fault, and perhaps only a prefix
-- of the bytes was written.
pub record IsExtractedWithFault
    (bytes : List ℕ) (old new : Option (List ℕ)) (f : PesFault) (pes : ℕ) : Type 0 where
  pub pes_packets : count_pes_packets pes bytes ≡ pes
  pub taken : AppendsPrefix old new bytes
  pub written : length bytes < max_pes_packet_count → Appends old new bytes
  pub refused :
      length bytes < max_pes_packet_count → fault_at_start (rest_after_pes_packets pes bytes) ≡ Some
      f

-- The source failed after `pes` PES packets, which were written to the file. If the bytes after
-- them do not begin with a PES packet, a prefix of these bytes, possibly empty, was written too.
pub record IsExtractedUntilFailure (bytes : List ℕ) (old new : Option (List ℕ)) (pes : ℕ) : Type 0
  where
    pub pes_packets : count_pes_packets pes bytes ≡ pes
    pub following : Option (List ℕ)
    pub given : Appends old following (first_pes_packets pes bytes)
    pub rest :
        Keeps following new
        ⊎ ((f : PesFault) × (fault_at_start (rest_after_pes_packets pes bytes) ≡ Some f)
        × AppendsPrefix following new (rest_after_pes_packets pes bytes))

-- The bytes that were written to the file, for each result of `extract`. If the file failed, it
-- received a prefix of the bytes.
abbrev pub Extracts :
    Option (List ℕ) → Option (List ℕ) → Option (List ℕ) → Result Extracted ExtractFault → Type 0
Extracts known old new (Ok e) = IfKnown known (λ bytes. IsExtractedCompletely bytes old new e.pes
    e.gaps)
Extracts known old new (Err Empty) = IfKnown known (λ bytes. (bytes ≡ []) × Keeps old new)
Extracts known old new (Err (Refused f n)) = IfKnown known (λ bytes. IsExtractedWithFault bytes old
    new f n)
Extracts known old new (Err (Read n)) = IfKnown known (λ bytes. IsExtractedUntilFailure bytes old
    new n)
Extracts known old new (Err Write) = IfKnown known (AppendsPrefix old new)

-- ---- the output of extracting

-- The line that a successful `extract` prints: the number of PES packets, including gap markers,
-- and the number of gap markers.
abbrev pub extracted_line : Extracted → List ℕ
extracted_line e =
    codes "written " ++ decimal e.pes ++ codes " pes " ++ decimal e.gaps ++ codes " gaps\n"

-- The line for a fault of `extract`: the source or the file failed, there are no bytes, the bytes
-- after the last PES packet are not a PES packet, or there are too many PES packets.
abbrev pub extract_line : ExtractFault → FaultLine
extract_line (Read n) = counted_from n (check_line (check.Pes 0 pes.Read))
extract_line Write = line_with kind.Fault (pes_code pes.Write) Nowhere
extract_line Empty = check_line check.Empty
extract_line (Refused f n) = counted_from n (check_line (check.Pes 0 f))

-- The output of `extract`.
abbrev pub extract_listing : Result Extracted ExtractFault → Listing
extract_listing (Ok e) = done (extracted_line e)
extract_listing (Err f) = fault_listing (extract_line f)

-- The command `extract` wrote the file as `Extracts` specifies, and printed the line of its result,
-- unless `out` failed.
pub record EndsExtract (source : SourceCall) (file out : SinkCall) (status : Status) : Type 0 where
  pub answer : Result Extracted ExtractFault
  pub extracts : Extracts source.known file.old file.new answer
  -- The source and the file failed exactly if the result reports it.
  pub source_count : CountRisesIf source.old_count (failed is_extract_source_failure answer)
      source.new_count
  pub file_count : CountRisesIf file.old_count (failed is_extract_file_failure answer)
      file.new_count
  pub printed : PrintsOrFails out (extract_listing answer) status
