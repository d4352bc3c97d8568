-- While Teletext packets are passed on, the number of PES packets stays the same.
use Rattle.std.proofs.Common.{◌≡◌}
use Rattle.ts_survey.proofs.pes_lines.PesLines.hear.Given as goal

abbrev pub invariant-units : goal.invariant-units
invariant-units l = l.self.count ≡ l.fn.self.count
