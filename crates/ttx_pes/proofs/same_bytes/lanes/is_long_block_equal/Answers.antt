use Rattle.ttx_pes.proofs.SameBytesLemmas.{four_block_tests_are_correct}
use Rattle.ttx_pes.proofs.same_bytes.lanes.is_long_block_equal.Goals as goal

pub returns : goal.returns
returns c = four_block_tests_are_correct c.args.a.now c.args.b.now _ _ _ _ _ _ c.told-a c.told-b
    c.as_chunks.ensures.front c.as_chunks-2.ensures.front
    c.is_block_equal.ensures c.is_block_equal-2.ensures
    c.is_block_equal-3.ensures c.is_block_equal-4.ensures
