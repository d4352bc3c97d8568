-- The number and the name of each fault for which the program cannot carry out a request.
use Rattle.std.specs.Prelude.{codes}
use Rattle.sub_io.specs.FaultCode.{FaultCodeValue, fault_code}
use Rattle.sub_request.specs.declared.request.UsageFault.{UsageFault}
use Rattle.sub_request.specs.declared.request.UsageFault.TheVariants as fault

-- The number and the name of a fault of the arguments, of files that are not opened or created, or
-- of a failure to allocate memory.
abbrev pub code_of_usage_fault : UsageFault → FaultCodeValue
code_of_usage_fault fault.Words = fault_code 0 (codes "Words")
code_of_usage_fault fault.BadHex = fault_code 2 (codes "BadHex")
code_of_usage_fault fault.SameFile = fault_code 7 (codes "SameFile")
code_of_usage_fault fault.BadPage = fault_code 1 (codes "BadPage")
code_of_usage_fault fault.Every = fault_code 80 (codes "Every")
code_of_usage_fault fault.Origin = fault_code 81 (codes "Origin")
code_of_usage_fault fault.BadOption = fault_code 83 (codes "BadOption")
code_of_usage_fault fault.Within = fault_code 85 (codes "Within")
code_of_usage_fault fault.Pid = fault_code 86 (codes "Pid")
code_of_usage_fault fault.PacketSize = fault_code 87 (codes "PacketSize")
code_of_usage_fault fault.Range = fault_code 88 (codes "Range")
code_of_usage_fault fault.BadLayout = fault_code 89 (codes "Layout")
code_of_usage_fault fault.Pace = fault_code 92 (codes "Pace")
code_of_usage_fault fault.BadTime = fault_code 6 (codes "BadTime")
code_of_usage_fault fault.BadSkip = fault_code 8 (codes "BadSkip")
code_of_usage_fault fault.BadFlip = fault_code 5 (codes "BadFlip")
code_of_usage_fault fault.BadLose = fault_code 84 (codes "BadLose")
code_of_usage_fault fault.BadReceiver = fault_code 9 (codes "BadReceiver")
code_of_usage_fault fault.Open = fault_code 90 (codes "Open")
code_of_usage_fault fault.Memory = fault_code 91 (codes "Memory")
