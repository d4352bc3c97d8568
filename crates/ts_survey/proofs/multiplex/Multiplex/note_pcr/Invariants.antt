-- In each iteration of `note_pcr`, the followed PIDs stay the same.
use Rattle.std.proofs.Common.{◌≡◌, map}
use Rattle.ts_survey.specs.Requested.{pid_followed}
use Rattle.ts_survey.proofs.multiplex.Multiplex.note_pcr.Given as goal

abbrev pub invariant-loop-carrier : goal.invariant-loop-carrier
invariant-loop-carrier l =
    map pid_followed l.carrier-items ≡ map pid_followed l.fn.self.carriers.items
