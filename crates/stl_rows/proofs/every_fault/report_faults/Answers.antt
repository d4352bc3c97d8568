-- If the receiver of the reports stops at a subtitle's last fault, all faults of the subtitle were
-- reported.
use Rattle.std.proofs.Common.{arith}
use Rattle.std.proofs.lemmas.Bool.Decides.{nat_tests}
use Rattle.stl_rows.proofs.LoadingLemmas.{stops-last}
use Rattle.stl_rows.proofs.every_fault.report_faults.Goals as goal

pub returns-in_default-clause-stops : goal.returns-in_default-clause-stops
returns-in_default-clause-stops g c = grind (arith, nat_tests, stops-last)
