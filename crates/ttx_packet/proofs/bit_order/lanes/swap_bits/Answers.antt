use Rattle.ttx_packet.proofs.LaneLemmas.{lanes_swap_bits}
use Rattle.ttx_packet.proofs.bit_order.lanes.swap_bits.Goals as goal

pub returns : goal.returns
returns c = lanes_swap_bits c.args.bytes 16 1 0x55 c.fits-bytes.0
