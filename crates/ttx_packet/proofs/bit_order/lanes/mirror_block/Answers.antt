use Rattle.std.proofs.Common.{arith}
use Rattle.std.proofs.lemmas.Bool.Decides.{nat_tests}
use Rattle.ttx_packet.proofs.LaneLemmas.{swaps_mirror_lanes}
use Rattle.ttx_packet.proofs.bit_order.lanes.mirror_block.Goals as goal

pub returns : goal.returns
returns c = grind (arith, nat_tests, swaps_mirror_lanes)
