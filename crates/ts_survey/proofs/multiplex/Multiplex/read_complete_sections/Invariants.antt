-- In each iteration of `read_complete_sections`, the requested PID and pages stay the same.
use Rattle.ts_survey.specs.Requested.{KeepsRequested}
use Rattle.ts_survey.proofs.multiplex.Multiplex.read_complete_sections.Given as goal

abbrev pub invariant-loop : goal.invariant-loop
invariant-loop l = KeepsRequested l.fn.self l.self
