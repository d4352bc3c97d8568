-- Loop invariant of `encode_blocks`: the blocks so far, followed by the blocks for the rest of the
-- text, are all blocks of the subtitle.
use Rattle.std.proofs.Common.{◌≡◌, ◌≤◌, ◌+◌, ◌*◌, ◌++◌, length}
use Rattle.std.specs.List.{concat}
use Rattle.stl_file.specs.NormalForm.{blocks_from, blocks_of, full_chunk_count}
use Rattle.stl_file.proofs.writer.encode_blocks.Given as goal

abbrev pub invariant-loop-rest : goal.invariant-loop-rest
invariant-loop-rest l = record {
  few : 112 * l.ebn + length l.rest ≤ 1008;
  counted : l.ebn + full_chunk_count l.rest ≡ full_chunk_count l.subtitle.text;
  size : length l.out.items ≡ 128 * l.ebn;
  same : l.out.items ++ concat (blocks_from l.subtitle (full_chunk_count l.rest) l.ebn l.rest)
      ≡ concat (blocks_of l.subtitle);
}

abbrev pub decreases-loop-rest : goal.decreases-loop-rest
decreases-loop-rest l = length l.rest
