use Rattle.std.proofs.Common.{◌+◌, ◌*◌}
use Rattle.ttx_packet.specs.Parity.{odd_parity_byte}
use Rattle.ttx_packet.proofs.BlockLemmas.{IsMappedPrefix}
use Rattle.ttx_packet.proofs.parity.odd_parity_bytes.Given as goal

-- After each iteration of the first loop of `odd_parity_bytes`, the bytes of all earlier blocks
-- have odd parity.
abbrev pub invariant-loop-i : goal.invariant-loop-i
invariant-loop-i l = IsMappedPrefix odd_parity_byte l.codes 40 (16 * l.i) l.bytes

-- After each iteration of the second loop of `odd_parity_bytes`, all earlier bytes have odd parity.
abbrev pub invariant-loop-j : goal.invariant-loop-j
invariant-loop-j l = IsMappedPrefix odd_parity_byte l.codes 40 (32 + l.j) l.bytes
