-- Each block of a row adds its number of differing columns to the count.
use Rattle.std.proofs.Common.{◌≡◌, ◌+◌, ◌*◌, drop, arith, rules, sym, ap₂, ◌∙◌}
use Rattle.std.proofs.lemmas.Bool.Decides.{nat_tests}
use lib.Lanes.{chunk}
use Rattle.ttx_page.specs.Differing.{differing_column_count}
use Rattle.ttx_page.proofs.DifferingLemmas.{differing_columns_are_bounded, no_columns_no_difference}
use Rattle.ttx_page.proofs.LaneLemmas.{chunk_adds_differing_columns}
use Rattle.ttx_packet.proofs.BlockLemmas.{block_is_chunk, suffix_is_last_chunk}
use Rattle.ttx_page.proofs.differing.count_differing_columns.Goals as goal

pub loop-i-init : goal.loop-i-init
loop-i-init c = (omega arith, sym (no_columns_no_difference c.args.a.now c.args.b.now))

pub loop-i-preserved : goal.loop-i-preserved
loop-i-preserved c =
    let xs = c.args.a.now in
    let ys = c.args.b.now in
    let i = c.loop-i.i in
    let block : c.count_differing_16-count.result
    ≡ differing_column_count 16 (chunk (16 * i) 16 xs) (chunk (16 * i) 16 ys) =
    c.count_differing_16-count.ensures.value
    ∙ ap₂ (differing_column_count 16) (block_is_chunk _ 16 xs i c.as_chunks.ensures.front
    (omega arith))
    (block_is_chunk _ 16 ys i c.as_chunks-2.ensures.front (omega arith)) in
    let next : 16 * i + 16 ≡ 16 * (i + 1) = omega arith in
    let more = chunk_adds_differing_columns xs ys (16 * i) 16 16 (omega arith) in
    grind (arith, nat_tests)

pub returns : goal.returns
returns c =
    let xs = c.args.a.now in
    let ys = c.args.b.now in
    let back : c.unwrap.result.now ≡ drop 32 xs = search rules in
    let back-2 : c.unwrap-2.result.now ≡ drop 32 ys = search rules in
    let last =
    c.count_differing_8.ensures.value
    ∙ ap₂ (differing_column_count 8) (suffix_is_last_chunk 32 8 xs _ c.told-a back)
    (suffix_is_last_chunk 32 8 ys _ c.told-b back-2) in
    let blocks : 16 * c.loop-i.i ≡ 32 = omega arith in
    let before = rw blocks at c.loop-i.invariant.1 in
    let value : c.loop-i.count + c.count_differing_8.result ≡ differing_column_count 40 xs ys =
    omega (arith, before, last, chunk_adds_differing_columns xs ys 32 8 8 (omega arith)) in
    record { value = value; range = omega (arith, value, differing_columns_are_bounded 40 xs ys) }
