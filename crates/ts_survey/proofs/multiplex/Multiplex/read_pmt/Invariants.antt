-- In each iteration of `read_pmt`, the requested PID and pages stay the same.
use Rattle.ts_survey.specs.Requested.{KeepsRequested}
use Rattle.ts_survey.proofs.multiplex.Multiplex.read_pmt.Given as goal

abbrev pub invariant-loop : goal.invariant-loop
invariant-loop l = KeepsRequested l.fn.self l.self
