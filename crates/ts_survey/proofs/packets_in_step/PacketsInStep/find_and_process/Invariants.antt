-- In each iteration of `find_and_process`, the items up to `at` were found; each iteration
-- processes at least one more byte.
use Rattle.std.proofs.Common.{◌≤◌}
use Rattle.ts_survey.specs.InStep.{ItemsFound}
use Rattle.ts_survey.proofs.packets_in_step.PacketsInStep.find_and_process.Given as goal

abbrev pub invariant-loop : goal.invariant-loop
invariant-loop g l = record {
  found :
      ItemsFound g.M.TakesPackets.is_taken l.fn.self l.fn.to l.bytes l.is_end l.at 0 l.self l.to;
  far : l.counter ≤ l.at;
}
