use Rattle.std.proofs.Common.{rules}
use Rattle.ttx_packet.proofs.LaneLemmas.{even_parity_mask_is_correct}
use Rattle.ttx_packet.proofs.parity.lanes.find_even_parity_bytes.Goals as goal

pub returns : goal.returns
returns c = search (rules, even_parity_mask_is_correct)
