use Rattle.ttx_packet.proofs.LaneLemmas.{lanes_fold_bits}
use Rattle.ttx_packet.proofs.parity.lanes.fold_bits.Goals as goal

pub returns : goal.returns
returns c = lanes_fold_bits c.args.bytes 16 1 c.fits-bytes.0
