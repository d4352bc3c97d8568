use Rattle.std.proofs.Common.{arith, ◌∙◌}
use Rattle.ttx_packet.proofs.BitOrderLemmas.{mirror_is_reversal}
use Rattle.ttx_packet.proofs.bit_order.mirror.Goals as goal

pub returns : goal.returns
returns c = c.reverse_bits.ensures ∙ mirror_is_reversal c.args.byte (omega arith)
