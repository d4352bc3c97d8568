-- In each iteration of `are_long_blocks_equal`, all earlier blocks are equal.
use Rattle.std.proofs.Common.{◌≡◌, ◌*◌, take}
use Rattle.ttx_pes.proofs.same_bytes.are_long_blocks_equal.Given as goal

abbrev pub invariant-loop-i : goal.invariant-loop-i
invariant-loop-i l = take (256 * l.i) l.a ≡ take (256 * l.i) l.b
