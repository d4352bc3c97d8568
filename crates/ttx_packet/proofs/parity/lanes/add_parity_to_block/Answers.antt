use Rattle.std.proofs.Common.{rules}
use Rattle.ttx_packet.proofs.LaneLemmas.{lanes_add_odd_parity}
use Rattle.ttx_packet.proofs.parity.lanes.add_parity_to_block.Goals as goal

pub returns : goal.returns
returns c = search (rules, lanes_add_odd_parity)
