-- The codes of the faults of `listen` in reports (not defined by a standard).
use Rattle.std.specs.Prelude.{codes}
use Rattle.sub_io.specs.FaultCode.{FaultCodeValue, fault_code}
use Rattle.sub_rules.specs.Fault.{code_of_check_fault}
use Rattle.sub_listen.specs.declared.listening.ListenFault.{ListenFault}
use Rattle.sub_listen.specs.declared.listening.ListenFault.TheVariants as listen

-- The number and the name of the fault in reports.
abbrev pub listen_code : ListenFault → FaultCodeValue
listen_code (listen.File f) = code_of_check_fault f
listen_code (listen.LostHeader frame packet) = fault_code 76 (codes "LostHeader")
