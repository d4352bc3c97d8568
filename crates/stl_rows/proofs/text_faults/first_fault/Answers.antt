-- `first_fault` returns the first fault of a subtitle, or none if the subtitle can be drawn.
use Rattle.std.proofs.Common.{arith}
use Rattle.std.proofs.lemmas.Bool.Decides.{nat_tests}
use Rattle.stl_rows.proofs.DefaultLayoutLemmas.{drawn-none, drawn-some}
use Rattle.stl_rows.proofs.DrawnPageLemmas.{drawn-first}
use Rattle.stl_rows.proofs.TextFaultLemmas.{first_fault_of_codes-faults}
use Rattle.stl_rows.proofs.text_faults.first_fault.Goals as goal

pub returns-in-None : goal.returns-in-None
returns-in-None c =
    grind (
      arith,
      nat_tests,
      first_fault_of_codes-faults,
      drawn-first,
      drawn-none c.args.drawing.now c.args.subtitle.now,
    )

pub returns-in-Ok : goal.returns-in-Ok
returns-in-Ok c = grind (arith, nat_tests, drawn-some c.args.drawing.now c.args.subtitle.now)

pub returns-in-Err : goal.returns-in-Err
returns-in-Err c = grind (arith, nat_tests, drawn-some c.args.drawing.now c.args.subtitle.now)
