-- In each iteration of `report_settled_pcrs`, the followed PIDs stay the same.
use Rattle.std.proofs.Common.{◌≡◌, map}
use Rattle.ts_survey.specs.Requested.{followed_pid}
use Rattle.ts_survey.proofs.multiplex.Multiplex.report_settled_pcrs.Given as goal

abbrev pub invariant-loop-carrier : goal.invariant-loop-carrier
invariant-loop-carrier l =
    map followed_pid l.carrier-items ≡ map followed_pid l.fn.self.carriers.items
