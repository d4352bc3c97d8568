-- The number and the name of each error of writing a schedule, and the errors that mean that the
-- sink failed.
use Rattle.std.specs.Prelude.{Bool, true, false, codes}
use Rattle.sub_io.specs.FaultCode.{FaultCodeValue, fault_code}
use Rattle.sub_plan.specs.declared.fault.PlanFault.{PlanFault}
use Rattle.sub_plan.specs.declared.fault.PlanFault.TheVariants as fault

-- The number and the name of an error of writing a schedule.
abbrev pub code_of_plan_fault : PlanFault → FaultCodeValue
code_of_plan_fault fault.NoSubtitles = fault_code 82 (codes "NoSubtitles")
code_of_plan_fault fault.Write = fault_code 42 (codes "Write")

-- The error means that the sink failed.
abbrev pub is_plan_write_failure : PlanFault → Bool
is_plan_write_failure fault.Write = true
is_plan_write_failure _ = false
