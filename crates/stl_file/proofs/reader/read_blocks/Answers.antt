-- At each return of `read_blocks`, the bytes read determine its result, unless the source failed.
use Rattle.std.proofs.Common.{rules, refl, arith}
use Rattle.std.proofs.lemmas.Bool.Decides.{nat_tests}
use Rattle.std.proofs.lemmas.Bool.{ne_eqb}
use Rattle.stl_file.proofs.FindingsLemmas.{empty_bytes_end_the_findings}
use Rattle.stl_file.proofs.ReadBlocksLemmas.{file_end_leads_to_result, extra_byte_leads_to_fault}
use Rattle.stl_file.proofs.ReadBlocksLemmas.{cut_block_leads_to_fault}
use Rattle.stl_file.proofs.ReadBlocksLemmas.{failed_source_fails_reading}
use Rattle.stl_file.proofs.ReadBlocksLemmas.{yielding_block_leads_to_subtitle}
use Rattle.stl_file.proofs.ReadBlocksLemmas.{rejected_block_leads_to_result}
use Rattle.stl_file.proofs.ReadBlocksLemmas.{continuing_block_is_read}
use Rattle.stl_file.proofs.reader.read_blocks.Goals as goal

pub loop-read_count-init : goal.loop-read_count-init
loop-read_count-init g c = grind (arith, nat_tests)

pub returns-in_err-read_count-clause-failed : goal.returns-in_err-read_count-clause-failed
returns-in_err-read_count-clause-failed g c = λ _.
    let e = c.in_err-read_count.ensures.err in
    failed_source_fails_reading c.args.scope c.args.block.now c.loop-read_count.block _ _ _ _ _ e.0
    c.loop-read_count.invariant.taken c.loop-read_count.invariant.few
    (let l = e.1 in let s = c.fill.auto.to in omega arith) e.2

pub returns-then-read-eq0-clause-leads : goal.returns-then-read-eq0-clause-leads
returns-then-read-eq0-clause-leads g c = grind (
  arith,
  nat_tests,
  file_end_leads_to_result,
  empty_bytes_end_the_findings,
)

pub returns-else-read-eq0-clause-leads : goal.returns-else-read-eq0-clause-leads
returns-else-read-eq0-clause-leads g c = grind (
  arith,
  nat_tests,
  file_end_leads_to_result,
  empty_bytes_end_the_findings,
  ne_eqb,
)

pub returns-then-block-eq99999-clause-leads : goal.returns-then-block-eq99999-clause-leads
returns-then-block-eq99999-clause-leads g c = λ _.
    extra_byte_leads_to_fault c.loop-read_count.invariant.taken c.in_ok-read_count.ensures.fills
    (search rules) _ _
    c.if-read_count-eq0.false c.if-block-eq99999.true

pub returns-then-read_count-lt128-clause-leads : goal.returns-then-read_count-lt128-clause-leads
returns-then-read_count-lt128-clause-leads g c = λ _.
    cut_block_leads_to_fault c.loop-read_count.invariant.taken c.in_ok-read_count.ensures.fills
    (search rules) _ _
    c.if-read_count-eq0.false
    (let e = c.if-block-eq99999.false in let f = c.loop-read_count.invariant.few in omega arith)
    c.if-read_count-lt128.true

pub returns-in-Ok-true-clause-leads : goal.returns-in-Ok-true-clause-leads
returns-in-Ok-true-clause-leads g c = λ _.
    yielding_block_leads_to_subtitle c.loop-read_count.invariant.taken
    c.in_ok-read_count.ensures.fills (search rules) _
    c.take_block.new.subtitle
    (let e = c.if-block-eq99999.false in let f = c.loop-read_count.invariant.few in omega arith)
    c.if-read_count-lt128.false refl
    (rw (c.of_bytes-tti.ensures, c.in-Ok-true.field-0-test) at c.in-Ok-true.ensures.exact)

pub returns-then-ebn-clause-leads : goal.returns-then-ebn-clause-leads
returns-then-ebn-clause-leads g c = λ _.
    rejected_block_leads_to_result c.loop-read_count.invariant.taken
    c.in_ok-read_count.ensures.fills (search rules) _ _
    (let e = c.if-block-eq99999.false in let f = c.loop-read_count.invariant.few in omega arith)
    c.if-read_count-lt128.false c.in-Err.fault c.in-Err.ensures.own (grind (arith, nat_tests))
    (rw c.of_bytes-tti.ensures at c.in-Err.ensures.exact)

pub returns-else-ebn-clause-leads : goal.returns-else-ebn-clause-leads
returns-else-ebn-clause-leads g c = λ _.
    rejected_block_leads_to_result c.loop-read_count.invariant.taken
    c.in_ok-read_count.ensures.fills (search rules) _ _
    (let e = c.if-block-eq99999.false in let f = c.loop-read_count.invariant.few in omega arith)
    c.if-read_count-lt128.false c.in-Err.fault c.in-Err.ensures.own
    (grind (arith, nat_tests, ne_eqb))
    (rw c.of_bytes-tti.ensures at c.in-Err.ensures.exact)

pub loop-read_count-preserved : goal.loop-read_count-preserved
loop-read_count-preserved g c = record {
  fits = c.in-Ok-false.ensures.room;
  taken = continuing_block_is_read c.loop-read_count.invariant.taken
      c.in_ok-read_count.ensures.fills (search rules) _
      c.take_block.new.subtitle
      (let e = c.if-block-eq99999.false in let f = c.loop-read_count.invariant.few in omega arith)
      c.if-read_count-lt128.false
      (rw (c.of_bytes-tti.ensures, c.in-Ok-false.field-0-test) at c.in-Ok-false.ensures.exact);
  few = let f = c.loop-read_count.invariant.few in let n = c.if-block-eq99999.false in omega arith;
  count = search rules;
}
