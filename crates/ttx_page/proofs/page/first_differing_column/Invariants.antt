use Rattle.std.proofs.Common.{◌≡◌, ℕ, ◌*◌, ◌<◌, false, get_or}
use lib.Lanes.{zip2}
use Rattle.ttx_page.specs.Lanes.{differ}
use Rattle.ttx_page.proofs.page.first_differing_column.Given as goal

-- In each iteration of `first_differing_column`, the codes in all earlier blocks of the two rows
-- are equal.
abbrev pub invariant-loop-i : goal.invariant-loop-i
invariant-loop-i l = (k : ℕ) → k < 16 * l.i → get_or (zip2 differ l.a l.b) k false ≡ false
