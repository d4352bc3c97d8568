use Rattle.std.proofs.Common.{rules}
use Rattle.ttx_packet.proofs.LaneLemmas.{lane_is_byte, lanes_swap_bits}
use Rattle.ttx_packet.proofs.bit_order.lanes.swap_halves.Goals as goal

pub returns : goal.returns
returns c = search (rules, lanes_swap_bits, lane_is_byte)
