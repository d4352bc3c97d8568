use Rattle.std.proofs.Common.{◌≡◌, ℕ, ◌+◌, ◌*◌, ◌<◌, true, slice_index, drop}
use Rattle.ttx_packet.specs.Parity.{is_odd}
use Rattle.ttx_packet.proofs.packet.Packet.first_even_parity_column.Given as goal

-- After each iteration of the first loop of `first_even_parity_column`, all bytes of the blocks so
-- far have odd parity.
abbrev pub invariant-loop-i : goal.invariant-loop-i
invariant-loop-i l = (k : ℕ) → k < 16 * l.i → is_odd (slice_index (drop 2 l.self) k) ≡ true

-- After each iteration of the second loop of `first_even_parity_column`, all bytes so far have odd
-- parity.
abbrev pub invariant-loop-j : goal.invariant-loop-j
invariant-loop-j l = (k : ℕ) → k < 32 + l.j → is_odd (slice_index (drop 2 l.self) k) ≡ true
