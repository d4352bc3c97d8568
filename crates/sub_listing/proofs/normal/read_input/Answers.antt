-- Each read appends its bytes to those of earlier reads.
use Rattle.std.proofs.Common.{rules}
use Rattle.sub_listing.proofs.NormalLemmas.{Consumes-next, block-at, memory-expected, taken-at_end}
use Rattle.sub_listing.proofs.NormalLemmas.{taken-to_most}
use Rattle.sub_listing.proofs.normal.read_input.Goals as goal

pub returns-in-Ok-eq0-clause-bytes : goal.returns-in-Ok-eq0-clause-bytes
returns-in-Ok-eq0-clause-bytes g c =
    taken-at_end _ _ _ _ _ _ (search rules) c.chunks.invariant.taken
    c.in-Ok-eq0.ensures.bytes.0
    (c.in-Ok-eq0.ensures.bytes.1 (search rules) (search rules)) (search rules)

pub chunks-preserved : goal.chunks-preserved
chunks-preserved g c = record {
  most = search rules;
  taken = Consumes-next _ _ _ _ _ _ _ (search rules) c.chunks.invariant.taken
      c.in-Ok.ensures.bytes.0;
  count = search rules;
}

pub returns-in-Err-clause-read : goal.returns-in-Err-clause-read
returns-in-Err-clause-read g c =
    block-at _ _ _ _ _ c.chunks.invariant.taken c.in-Err.ensures.bytes (search rules)

pub returns-clause-bytes : goal.returns-clause-bytes
returns-clause-bytes g c =
    taken-to_most _ _ _ c.chunks.invariant.taken (search rules)

pub returns-in_default-clause-read : goal.returns-in_default-clause-read
returns-in_default-clause-read g c =
    memory-expected _ _ _ _ _ _ (search rules) (search rules) c.chunks.invariant.taken
    c.in-Ok.ensures.bytes.0
