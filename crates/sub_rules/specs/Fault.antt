-- The table of faults of a subtitle file and a PES file (not defined by a standard): the number and
-- name of each fault, its place, and its consequences.
use Rattle.std.specs.Prelude.{ℕ, List, Bool, true, false, Option, Some, None}
use Rattle.std.specs.Prelude.{codes, unwrap_or}
use Rattle.sub_io.specs.FaultCode.{FaultCodeValue, fault_code}
use Rattle.stl_file.specs.declared.fault.StlFault.TheVariants as stl
use Rattle.stl_rows.specs.Fault as load
use Rattle.stl_rows.specs.Fault.{load_code}
use Rattle.stl_rows.specs.declared.fault.LoadFaultKind.{LoadFaultKind}
use Rattle.stl_rows.specs.declared.fault.LoadFaultKind.TheVariants.{File, Memory, Row}
use Rattle.sub_rules.specs.declared.end_rule.EndRule.{EndRule}
use Rattle.sub_rules.specs.declared.end_rule.EndRule.TheVariants as end
use Rattle.sub_rules.specs.declared.fault.CheckFault.{CheckFault}
use Rattle.sub_rules.specs.declared.fault.CheckFault.TheVariants as fault
use Rattle.sub_rules.specs.declared.fault_place.FaultPlace.{FaultPlace}
use Rattle.sub_rules.specs.declared.fault_place.FaultPlace.TheVariants as place
use Rattle.sub_rules.specs.declared.fault_row.FaultRow.{FaultRow}
use Rattle.ttx_pes.specs.Fault as pes
use Rattle.ttx_pes.specs.Fault.{is_packet_content_fault, pes_code}
use Rattle.ttx_pes.specs.declared.fault.PesFault.TheVariants.{Read}

-- The number and name of the fault for a rule that is checked at the end of a frame.
abbrev pub code_of_end_rule : EndRule → FaultCodeValue
code_of_end_rule end.Content = fault_code 72 (codes "Content")
code_of_end_rule end.Gap = fault_code 73 (codes "Gap")
code_of_end_rule end.Incomplete = fault_code 77 (codes "Incomplete")
code_of_end_rule end.Undecided = fault_code 78 (codes "Undecided")
code_of_end_rule end.Silent = fault_code 79 (codes "Silent")

-- The place of a fault in the subtitle file: the TTI block, or 0 for the GSI block, and for a fault
-- in a subtitle's text the position in the text.
abbrev pub place_of_load_fault : LoadFaultKind → ℕ → FaultPlace
place_of_load_fault (Row f) block = place.Text block f.at
place_of_load_fault _ block = place.Block block

-- ---- the table of faults

-- The table row of a fault whose PES packet is not skipped.
abbrev pub row_with_code : FaultCodeValue → FaultPlace → Bool → FaultRow
row_with_code code place invalidates =
    record { code = code; place = place; invalidates = invalidates; is_skipped = false }

-- The table row of a fault with this number and name, whose PES packet is not skipped.
abbrev pub row_with_number : ℕ → List ℕ → FaultPlace → Bool → FaultRow
row_with_number number name place invalidates = row_with_code (fault_code number name) place
    invalidates

-- The table row of a fault: its number and name, its place, whether it affects receivers, and
-- whether its PES packet is skipped. The receivers of the model ignore packets X/25 to X/28, and
-- whether C11 differs from that of the first page header.
abbrev pub fault_row : CheckFault → FaultRow
fault_row (fault.Subtitles f) = row_with_code (load_code f.kind) (place_of_load_fault f.kind
    f.block) false
fault_row (fault.Pes n f) =
    record (row_with_code (pes_code f) (place.Pes n) true) {
      is_skipped = is_packet_content_fault
          f;
    }
fault_row fault.Empty = row_with_number 60 (codes "Empty") place.Nowhere false
fault_row (fault.OffFrame n) =
    record (row_with_number 61 (codes "OffFrame") (place.Pes n) true) { is_skipped = true }
fault_row (fault.Order n) = row_with_number 62 (codes "Order") (place.Pes n) true
fault_row (fault.Early f) = row_with_number 63 (codes "Early") (place.Frame f) false
fault_row (fault.Address f k) = row_with_number 64 (codes "Address") (place.Packet f k) true
fault_row (fault.HeaderCode f k) = row_with_number 65 (codes "HeaderCode") (place.Packet f k) true
fault_row (fault.Mode f k) = row_with_number 66 (codes "Mode") (place.Packet f k) false
fault_row (fault.Control f k) = row_with_number 67 (codes "Control") (place.Packet f k) true
fault_row (fault.Parity f k) = row_with_number 68 (codes "Parity") (place.Packet f k) true
fault_row (fault.RowChanged f k) = row_with_number 69 (codes "RowChanged") (place.Packet f k) true
fault_row (fault.Enhancement f k) = row_with_number 70 (codes "Enhancement") (place.Packet f k)
    false
fault_row (fault.NoFirstHeader f) = row_with_number 71 (codes "NoFirstHeader") (place.Frame f) false
fault_row (fault.Content f r c) = row_with_code (code_of_end_rule end.Content) (place.Cell f r c)
    true
fault_row (fault.Gap f) = row_with_code (code_of_end_rule end.Gap) (place.Frame f) true
fault_row (fault.Incomplete f) = row_with_code (code_of_end_rule end.Incomplete) (place.Frame f)
    true
fault_row (fault.Undecided f) = row_with_code (code_of_end_rule end.Undecided) (place.Frame f) true
fault_row (fault.Silent f) = row_with_code (code_of_end_rule end.Silent) (place.Frame f) true
fault_row (fault.Late f) = row_with_number 74 (codes "Late") (place.Frame f) false

-- The number and name of a fault.
abbrev pub code_of_check_fault : CheckFault → FaultCodeValue
code_of_check_fault f = (fault_row f).code

-- The place of a fault.
abbrev pub place_of_fault : CheckFault → FaultPlace
place_of_fault f = (fault_row f).place

-- The first frame that is no longer trusted because of a fault; `None` if the fault does not affect
-- receivers. For a faulty PES packet, it is `last`, the frame of the last PES packet before it that
-- was not skipped, since the faulty packet may belong to that frame. For a fault at the end of a
-- frame at which the page is overdue, it is `late`, the first frame with the unfinished page.
-- Otherwise it is the frame of its place, if the place has one.
abbrev pub invalidated_frame : ℕ → Option ℕ → Bool → FaultPlace → Option ℕ
invalidated_frame last late true (place.Pes n) = Some last
invalidated_frame last late true (place.Frame f) = Some (unwrap_or late f)
invalidated_frame last late true (place.Packet f k) = Some f
invalidated_frame last late true (place.Cell f r c) = Some (unwrap_or late f)
invalidated_frame last late _ _ = None

-- The same fault with PES packet number `pes`, if its place is a PES packet.
abbrev pub fault_with_pes_number : ℕ → CheckFault → CheckFault
fault_with_pes_number pes (fault.Order index) = fault.Order pes
fault_with_pes_number pes (fault.Pes index f) = fault.Pes pes f
fault_with_pes_number pes (fault.OffFrame index) = fault.OffFrame pes
fault_with_pes_number pes refusal = refusal

-- ---- causes of faults

-- The PES file could not be read.
abbrev pub is_pes_read_failure : CheckFault → Bool
is_pes_read_failure (fault.Pes index f) = pes.is_read_fault f
is_pes_read_failure _ = false

-- A PES packet could not be written. The checker never reports this fault.
abbrev pub is_pes_write_failure : CheckFault → Bool
is_pes_write_failure (fault.Pes index f) = pes.is_write_fault f
is_pes_write_failure _ = false

-- The subtitle file could not be read.
abbrev pub is_stl_read_failure : CheckFault → Bool
is_stl_read_failure (fault.Subtitles f) = load.is_load_read_failure f
is_stl_read_failure _ = false

-- The fault is one of loading the subtitle file.
abbrev pub is_subtitle_fault : CheckFault → Bool
is_subtitle_fault (fault.Subtitles f) = true
is_subtitle_fault _ = false

-- The subtitle file could not be loaded, because it could not be read or memory ran out.
abbrev pub is_failure_kind : LoadFaultKind → Bool
is_failure_kind Memory = true
is_failure_kind (File stl.Read) = true
is_failure_kind _ = false

-- A file could not be read or memory ran out, so the fault says nothing about the files.
abbrev pub is_failure : CheckFault → Bool
is_failure (fault.Subtitles f) = is_failure_kind f.kind
is_failure (fault.Pes index Read) = true
is_failure _ = false
