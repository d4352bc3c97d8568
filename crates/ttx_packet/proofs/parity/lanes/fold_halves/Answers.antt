use Rattle.std.proofs.Common.{rules}
use Rattle.ttx_packet.proofs.LaneLemmas.{lanes_fold_bits, lane_is_byte}
use Rattle.ttx_packet.proofs.parity.lanes.fold_halves.Goals as goal

pub returns : goal.returns
returns c = search (rules, lanes_fold_bits, lane_is_byte)
