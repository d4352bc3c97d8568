-- The result of reading a whole PES file: the values of its PES packets, then the end of the file
-- or a fault.
use Rattle.std.specs.Prelude.{◌≡◌, ℕ, Bool, true, false, List, [], ◌∷◌, Option, Some, None, Result}
use Rattle.std.specs.Prelude.{Ok, Err}
use Rattle.ttx_pes.specs.declared.fault.PesFault.{PesFault}
use Rattle.ttx_pes.specs.Fault.{is_read_fault}
use Rattle.ttx_pes.specs.PesGrammar.{PesValue}
use Rattle.ttx_pes.specs.PesPackets.{pes_packets_after}
use Rattle.ttx_pes.specs.Reading.{is_format_fault}
use Rattle.ttx_pes.specs.Reader.{FailsWithinPacket, TakesValidPesPacket, ConsumesRefusedBytes}

-- The values of the PES packets of a file, then the end of the file or a fault.
pub data PesOutcome : Type 0 where
  ends : PesOutcome
  fails : PesFault → PesOutcome
  gives : PesValue → PesOutcome → PesOutcome

-- The result of reading up to the first rejected PES packet. If no packet is rejected, it ends with
-- `left`, the fault of the bytes after the last packet, or, for `None`, with the end of the file.
abbrev pub outcome_until_refusal : List (Result PesValue PesFault) → Option PesFault → PesOutcome
outcome_until_refusal [] None = ends
outcome_until_refusal [] (Some f) = fails f
outcome_until_refusal (Ok v ∷ pes_packets) left = gives v (outcome_until_refusal pes_packets left)
outcome_until_refusal (Err f ∷ pes_packets) left = fails f

-- The result of reading the bytes after `given` PES packets, up to the first fault.
unfoldable pub outcome_after : ℕ → List ℕ → PesOutcome
outcome_after given bytes =
    let value = pes_packets_after given bytes in outcome_until_refusal value.pes_packets value.left

-- The PES packets of the result were consumed from a source. If the source failed, it failed within
-- the next packet. If the result ends with a format fault, the bytes consumed after the packets
-- have that fault.
abbrev pub ReadsPackets : Bool → Option (List ℕ) → PesOutcome → Option (List ℕ) → Type 0
ReadsPackets failed known ends left = failed ≡ false
ReadsPackets failed known (fails f) left =
    (is_read_fault f ≡ failed) × (failed ≡ true → FailsWithinPacket known left)
    × (is_format_fault f ≡ true → ConsumesRefusedBytes known left f)
ReadsPackets failed known (gives v more) left =
    (following : Option (List ℕ)) × TakesValidPesPacket known following v
    × ReadsPackets failed following more left
