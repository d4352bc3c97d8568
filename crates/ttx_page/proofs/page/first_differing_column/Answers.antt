-- If two rows differ, the masks of the blocks of 16 columns give the first differing column; if all
-- masks are zero, the rows are equal.
use Rattle.std.proofs.Common.{◌≡◌, ◌*◌, false, drop, ap₂, ◌∙◌, arith, rules}
use Rattle.std.proofs.lemmas.Simd.{length-zip2}
use lib.Lanes.{zip2}
use Rattle.ttx_packet.proofs.BlockLemmas.{block_is_chunk, suffix_is_last_chunk}
use Rattle.ttx_packet.proofs.BlockLemmas.{zero_mask_extends_search, nonzero_mask_gives_first}
use Rattle.ttx_page.specs.Lanes.{differ, differing_mask}
use Rattle.ttx_page.proofs.LaneLemmas.{block_mask_is_correct, first_test_gives_column}
use Rattle.ttx_page.proofs.LaneLemmas.{equal_tests_give_equal_rows}
use Rattle.ttx_page.proofs.page.first_differing_column.Goals as goal

pub loop-i-preserved : goal.loop-i-preserved
loop-i-preserved c k l =
    let xs = c.args.a.now in
    let ys = c.args.b.now in
    let i = c.loop-i.i in
    let mask =
    c.mask_differing_cells-mask.ensures
    ∙ ap₂ differing_mask (block_is_chunk _ 16 xs i c.as_chunks.ensures.front (omega arith))
    (block_is_chunk _ 16 ys i c.as_chunks-2.ensures.front (omega arith))
    ∙ block_mask_is_correct xs ys (16 * i) (omega arith) (omega arith) in
    zero_mask_extends_search (λ x. x) (zip2 differ xs ys) (16 * i)
    c.mask_differing_cells-mask.result false
    (omega (arith, length-zip2 differ xs ys (omega arith))) mask c.if-mask-ne0.false
    c.loop-i.invariant k (omega arith)

pub returns-then-mask-ne0 : goal.returns-then-mask-ne0
returns-then-mask-ne0 c =
    let xs = c.args.a.now in
    let ys = c.args.b.now in
    let i = c.loop-i.i in
    let mask =
    c.mask_differing_cells-mask.ensures
    ∙ ap₂ differing_mask (block_is_chunk _ 16 xs i c.as_chunks.ensures.front (omega arith))
    (block_is_chunk _ 16 ys i c.as_chunks-2.ensures.front (omega arith))
    ∙ block_mask_is_correct xs ys (16 * i) (omega arith) (omega arith) in
    let found =
    nonzero_mask_gives_first (λ x. x) (zip2 differ xs ys) (16 * i)
    c.mask_differing_cells-mask.result false
    (omega (arith, length-zip2 differ xs ys (omega arith))) mask c.if-mask-ne0.true
    c.loop-i.invariant in
    first_test_gives_column xs ys _ c.told-a c.told-b (omega (arith, found.0)) found.1

pub returns-then-last-ne0 : goal.returns-then-last-ne0
returns-then-last-ne0 c =
    let xs = c.args.a.now in
    let ys = c.args.b.now in
    let back : c.unwrap.result.now ≡ drop 24 xs = search rules in
    let back-2 : c.unwrap-2.result.now ≡ drop 24 ys = search rules in
    let mask =
    c.mask_differing_cells-last.ensures
    ∙ ap₂ differing_mask (suffix_is_last_chunk 24 16 xs _ c.told-a back)
    (suffix_is_last_chunk 24 16 ys _ c.told-b back-2)
    ∙ block_mask_is_correct xs ys 24 (omega arith) (omega arith) in
    let found =
    nonzero_mask_gives_first (λ x. x) (zip2 differ xs ys) 24 c.mask_differing_cells-last.result
    false
    (omega (arith, length-zip2 differ xs ys (omega arith))) mask c.if-last-ne0.true
    (λ k l. c.loop-i.invariant k (omega arith)) in
    first_test_gives_column xs ys _ c.told-a c.told-b (omega (arith, found.0)) found.1

pub returns : goal.returns
returns c =
    let xs = c.args.a.now in
    let ys = c.args.b.now in
    let back : c.unwrap.result.now ≡ drop 24 xs = search rules in
    let back-2 : c.unwrap-2.result.now ≡ drop 24 ys = search rules in
    let mask =
    c.mask_differing_cells-last.ensures
    ∙ ap₂ differing_mask (suffix_is_last_chunk 24 16 xs _ c.told-a back)
    (suffix_is_last_chunk 24 16 ys _ c.told-b back-2)
    ∙ block_mask_is_correct xs ys 24 (omega arith) (omega arith) in
    equal_tests_give_equal_rows xs ys (omega arith)
    (λ k l.
    zero_mask_extends_search (λ x. x) (zip2 differ xs ys) 24 c.mask_differing_cells-last.result
    false
    (omega (arith, length-zip2 differ xs ys (omega arith))) mask c.if-last-ne0.false
    (λ k l. c.loop-i.invariant k (omega arith)) k (omega arith))
