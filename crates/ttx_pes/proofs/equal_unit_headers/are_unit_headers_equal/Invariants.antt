-- In each iteration of `are_unit_headers_equal`, the headers of all earlier data units are equal.
use Rattle.std.proofs.Common.{ℕ, ◌+◌, ◌*◌, ◌<◌}
use Rattle.ttx_pes.specs.Accepting.{HasSameUnitHeader}
use Rattle.ttx_pes.proofs.equal_unit_headers.are_unit_headers_equal.Given as goal

abbrev pub invariant-loop-i : goal.invariant-loop-i
invariant-loop-i l = (k : ℕ) → k < 3 + 4 * l.i → HasSameUnitHeader l.a l.b (46 * k + 1)
