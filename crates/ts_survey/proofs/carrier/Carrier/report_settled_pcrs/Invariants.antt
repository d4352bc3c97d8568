-- No iteration of `report_settled_pcrs` changes the PID of the carrier.
use Rattle.std.proofs.Common.{◌≡◌}
use Rattle.ts_survey.proofs.carrier.Carrier.report_settled_pcrs.Given as goal

abbrev pub invariant-loop : goal.invariant-loop
invariant-loop l = l.self.pid ≡ l.fn.self.pid
