use Rattle.std.proofs.Common.{◌*◌}
use Rattle.ttx_packet.specs.BitOrder.{mirror}
use Rattle.ttx_packet.proofs.BlockLemmas.{IsMappedPrefix}
use Rattle.ttx_packet.proofs.bit_order.mirrored.Given as goal

-- After each iteration of `mirrored`, the bits of all bytes so far are reversed.
abbrev pub invariant-loop-i : goal.invariant-loop-i
invariant-loop-i l = IsMappedPrefix mirror l.bytes 42 (16 * l.i) l.other
