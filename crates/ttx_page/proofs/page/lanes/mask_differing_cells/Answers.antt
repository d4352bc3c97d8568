use Rattle.std.proofs.Common.{arith}
use Rattle.ttx_page.proofs.LaneLemmas.{compare_mask_is_correct}
use Rattle.ttx_page.proofs.page.lanes.mask_differing_cells.Goals as goal

pub returns : goal.returns
returns c = compare_mask_is_correct c.args.a.now c.args.b.now 16 c.told-a c.told-b (omega arith)
