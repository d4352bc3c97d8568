use Rattle.ttx_pes.proofs.SameBytesLemmas.{block_comparison_is_correct}
use Rattle.ttx_pes.proofs.same_bytes.lanes.is_block_equal.Goals as goal

pub returns : goal.returns
returns g c = block_comparison_is_correct _ c.args.a.now c.args.b.now c.requires c.told-a c.told-b
