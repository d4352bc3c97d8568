-- The model of a reader that compares each PES packet with the PES packet before it.
use Rattle.std.specs.Prelude.{◌≡◌, ℕ, ◌+◌, Bool, true, false, if◌then◌else◌, Option, Some, None}
use Rattle.std.specs.Prelude.{Result, Ok, Err, List, drop}
use Rattle.ttx_pes.specs.declared.comparing_reader.Compared.{Compared}
use Rattle.ttx_pes.specs.declared.comparing_reader.Compared.TheVariants.{End, Same, Other}
use Rattle.ttx_pes.specs.declared.fault.PesFault.{PesFault}
use Rattle.ttx_pes.specs.declared.progress.Progress.{Progress}
use Rattle.ttx_pes.specs.declared.progress.Progress.TheVariants.{Reading}
use Rattle.ttx_pes.specs.Fault.{is_packet_content_fault}
use Rattle.ttx_pes.specs.PesGrammar.{PesValue}
use Rattle.ttx_pes.specs.Reader.{TakesValidPesPacket}

-- The model of a comparing reader: its progress, its frame, and the data field of the last PES
-- packet, bytes 45 (data_identifier) to the end. The data field is empty before the first packet,
-- at the end and after a fault. Directly after the fault of a complete packet,
-- `count_through_fault` is the number of packets consumed, including the faulty one.
pub record ComparingValue : Type 0 where
  pub progress : Progress
  pub frame : PesValue
  pub data_field : List ℕ
  pub count_through_fault : Option ℕ

-- If a reader that has consumed `given` PES packets returns the fault of a complete packet, the
-- number of packets consumed with that packet, given + 1. Otherwise `None`.
abbrev pub count_through_fault_after : Progress → Result Compared PesFault → Option ℕ
count_through_fault_after (Reading given) (Err f) =
    if is_packet_content_fault f then Some (given + 1)
    else None
count_through_fault_after _ _ = None

-- The state of a comparing reader that continues after this number of PES packets. `None` leaves it
-- unchanged.
abbrev pub after_skipped_fault : ComparingValue → Option ℕ → ComparingValue
after_skipped_fault c None = c
after_skipped_fault c (Some given) =
    record c { progress = Reading given; count_through_fault = None }

-- The state of a comparing reader after `continue_after_fault`: it continues if its last result was
-- the fault of a complete packet; otherwise its state does not change.
abbrev pub with_packet_skipped : ComparingValue → ComparingValue
with_packet_skipped c = after_skipped_fault c c.count_through_fault

-- The result of a comparing reader as a result of `next_into`: `true` for `Same` and `Other`,
-- `false` for `End`.
abbrev pub comparison_as_flag : Result Compared PesFault → Result Bool PesFault
comparison_as_flag (Ok End) = Ok false
comparison_as_flag (Ok Same) = Ok true
comparison_as_flag (Ok Other) = Ok true
comparison_as_flag (Err f) = Err f

-- Exactly one valid PES packet with this value and this data field was consumed.
pub record TakesDataField
    (old new : Option (List ℕ)) (v : PesValue) (field : List ℕ) : Type 0 where
  pub packet : TakesValidPesPacket old new v
  pub field_is_after_header : field ≡ drop 45 packet.bytes
