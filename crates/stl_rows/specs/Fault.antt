-- The number and the name of each fault of drawing and loading, and the faults that mean that the
-- source failed.
use Rattle.std.specs.Prelude.{Bool, false, codes}
use Rattle.sub_io.specs.FaultCode.{FaultCodeValue, fault_code}
use Rattle.stl_file.specs.Fault as stl
use Rattle.stl_file.specs.Fault.{code_of_stl_fault}
use Rattle.stl_rows.specs.declared.fault.LoadFault.{LoadFault}
use Rattle.stl_rows.specs.declared.fault.LoadFaultKind.{LoadFaultKind}
use Rattle.stl_rows.specs.declared.fault.LoadFaultKind.TheVariants as load
use Rattle.stl_rows.specs.declared.fault.RowFaultKind.{RowFaultKind}
use Rattle.stl_rows.specs.declared.fault.RowFaultKind.TheVariants as row

-- The number and the name of a fault in a subtitle's rows.
abbrev pub row_code : RowFaultKind → FaultCodeValue
row_code row.Character = fault_code 50 (codes "Character")
row_code row.Control = fault_code 51 (codes "Control")
row_code row.RowTooLong = fault_code 52 (codes "RowTooLong")
row_code row.PastBottom = fault_code 53 (codes "PastBottom")
row_code row.DoubleRow = fault_code 54 (codes "DoubleRow")
row_code row.Hidden = fault_code 55 (codes "Hidden")

-- The number and the name of a fault of loading a file.
abbrev pub load_code : LoadFaultKind → FaultCodeValue
load_code (load.File fault) = code_of_stl_fault fault
load_code load.OutOfOrder = fault_code 56 (codes "OutOfOrder")
load_code load.Overlap = fault_code 57 (codes "Overlap")
load_code (load.Row fault) = row_code fault.kind
load_code load.Memory = fault_code 58 (codes "Memory")

-- The fault of loading means that the source failed.
abbrev pub is_read_failure_kind : LoadFaultKind → Bool
is_read_failure_kind (load.File fault) = stl.is_file_read_failure fault
is_read_failure_kind _ = false

-- The fault of loading, with its block, means that the source failed.
abbrev pub is_load_read_failure : LoadFault → Bool
is_load_read_failure fault = is_read_failure_kind fault.kind
