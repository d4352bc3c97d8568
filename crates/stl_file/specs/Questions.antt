-- Checks of the bytes of a subtitle file, one after another. EBU Tech 3264 defines no order of
-- checks.
use Rattle.std.specs.Prelude.{Bool, if◌then◌else◌, List, [], ◌∷◌, Result, Err}
use Rattle.stl_file.specs.declared.fault.StlFault.{StlFault}

-- A list of checks, in order: each with the fault to report, and whether the check fails.
abbrev pub Checks : Type 0
Checks = List (StlFault × Bool)

-- The fault of the first check that fails, or `answer` if no check fails.
abbrev pub result_of_checks : {X : Type 0} → Checks → Result X StlFault → Result X StlFault
result_of_checks [] answer = answer
result_of_checks (q ∷ qs) answer = if q.1 then Err q.0 else result_of_checks qs answer
