-- If the three masks are zero, the rows are equal.
use Rattle.std.proofs.Common.{◌≡◌, ℕ, ◌<◌, false, drop, get_or, ap₂, ◌∙◌, arith, rules}
use Rattle.std.proofs.lemmas.Bool.Decides.{nat_tests}
use Rattle.std.proofs.lemmas.Simd.{length-zip2}
use lib.Lanes.{zip2}
use Rattle.ttx_packet.proofs.BlockLemmas.{block_is_chunk, suffix_is_last_chunk}
use Rattle.ttx_packet.proofs.BlockLemmas.{zero_mask_extends_search}
use Rattle.ttx_page.specs.Lanes.{differ, differing_mask}
use Rattle.ttx_page.proofs.LaneLemmas.{block_mask_is_correct, equal_tests_give_equal_rows}
use Rattle.ttx_page.proofs.page.are_rows_equal.Goals as goal

pub returns : goal.returns
returns c is_equal =
    let xs = c.args.a.now in
    let ys = c.args.b.now in
    let back : c.unwrap.result.now ≡ drop 24 xs = search rules in
    let back-2 : c.unwrap-2.result.now ≡ drop 24 ys = search rules in
    let long = length-zip2 differ xs ys (omega arith) in
    let prefix =
    c.mask_differing_cells-prefix.ensures
    ∙ ap₂ differing_mask (block_is_chunk _ 16 xs 0 c.as_chunks.ensures.front (omega arith))
    (block_is_chunk _ 16 ys 0 c.as_chunks-2.ensures.front (omega arith))
    ∙ block_mask_is_correct xs ys 0 (omega arith) (omega arith) in
    let middle =
    c.mask_differing_cells-middle.ensures
    ∙ ap₂ differing_mask (block_is_chunk _ 16 xs 1 c.as_chunks.ensures.front (omega arith))
    (block_is_chunk _ 16 ys 1 c.as_chunks-2.ensures.front (omega arith))
    ∙ block_mask_is_correct xs ys 16 (omega arith) (omega arith) in
    let last =
    c.mask_differing_cells-last.ensures
    ∙ ap₂ differing_mask (suffix_is_last_chunk 24 16 xs _ c.told-a back)
    (suffix_is_last_chunk 24 16 ys _ c.told-b back-2)
    ∙ block_mask_is_correct xs ys 24 (omega arith) (omega arith) in
    let tests = zip2 differ xs ys in
    let to16 : (k : ℕ) → k < 16 → get_or tests k false ≡ false =
    zero_mask_extends_search (λ x. x) tests 0 _ false (omega (arith, long)) prefix
    (grind (arith, nat_tests))
    (λ k l. absurd (omega arith)) in
    let to32 : (k : ℕ) → k < 32 → get_or tests k false ≡ false =
    zero_mask_extends_search (λ x. x) tests 16 _ false (omega (arith, long)) middle
    (grind (arith, nat_tests))
    to16 in
    equal_tests_give_equal_rows xs ys (omega arith)
    (λ k l.
    zero_mask_extends_search (λ x. x) tests 24 _ false (omega (arith, long)) last
    (grind (arith, nat_tests))
    (λ k l. to32 k (omega arith)) k (omega arith))
