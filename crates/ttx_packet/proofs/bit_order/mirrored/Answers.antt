-- `mirrored` reverses the bits of each block of 16 bytes, and of the last 10 bytes.
use Rattle.std.proofs.Common.{◌≡◌, ◌+◌, ◌*◌, ◌/◌, ◌<◌, map, length, take, drop, arith, rules, ◌∙◌}
use Rattle.std.proofs.Common.{ap}
use Rattle.std.proofs.lemmas.List.{drop-drop, drop-map, take-map}
use Rattle.ttx_packet.specs.BitOrder.{mirror}
use Rattle.ttx_packet.proofs.BlockLemmas.{block_is_chunk, IsMappedPrefix}
use Rattle.ttx_packet.proofs.BlockLemmas.{mapping_block_extends_prefix, full_prefix_is_mapped}
use Rattle.ttx_packet.proofs.bit_order.mirrored.Goals as goal

pub loop-i-preserved : goal.loop-i-preserved
loop-i-preserved c =
    let xs = c.args.bytes.now in
    let i = c.loop-i.i in
    let prefix : i < length xs / 16 = search rules in
    let block =
    c.copy_from_slice.ensures.after
    ∙ c.mirror_block.ensures
    ∙ ap (map mirror) (block_is_chunk _ 16 xs i c.as_chunks.ensures.front prefix) in
    mapping_block_extends_prefix mirror xs c.loop-i.other _ 42 (16 * i) 16 _ (16 * (i + 1))
    (omega arith)
    (omega arith) (omega arith) (omega arith) block c.loop-i.invariant

pub returns : goal.returns
returns c =
    let xs = c.args.bytes.now in
    let back : c.unwrap.result.now ≡ drop 26 xs = search rules in
    let blocks : 16 * c.loop-i.i ≡ 32 = omega arith in
    let made : IsMappedPrefix mirror xs 42 32 c.loop-i.other = rw blocks at c.loop-i.invariant in
    let block =
    c.copy_from_slice-2.ensures.after
    ∙ ap (λ l. take 10 (drop 6 l)) (c.mirror_block-last.ensures ∙ ap (map mirror) back)
    ∙ ap (take 10) (drop-map mirror 6 (drop 26 xs))
    ∙ take-map mirror 10 (drop 6 (drop 26 xs))
    ∙ ap (λ l. map mirror (take 10 l)) (drop-drop 6 26 xs) in
    full_prefix_is_mapped mirror xs _ 42 (omega arith)
    (mapping_block_extends_prefix mirror xs c.loop-i.other _ 42 32 10 10 42 (omega arith)
    (omega arith) (omega arith)
    (omega arith) block made)
