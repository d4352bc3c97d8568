-- `odd_parity_bytes` gives odd parity to each block of 16 codes, and to each of the last 8 codes.
use Rattle.std.proofs.Common.{◌+◌, ◌*◌, ◌/◌, ◌<◌, map, length, arith, rules, ◌∙◌, ap}
use Rattle.ttx_packet.specs.Parity.{odd_parity_byte}
use Rattle.ttx_packet.proofs.BlockLemmas.{chunk_keeps_upper_bound, block_is_chunk}
use Rattle.ttx_packet.proofs.BlockLemmas.{mapping_block_extends_prefix}
use Rattle.ttx_packet.proofs.parity.odd_parity_bytes.Goals as goal

pub add_parity_to_block-requires : goal.add_parity_to_block-requires
add_parity_to_block-requires c k =
    let xs = c.args.codes.now in
    let i = c.loop-i.i in
    let prefix : i < length xs / 16 = search rules in
    rw (block_is_chunk _ 16 xs i c.as_chunks.ensures.front prefix)
    (chunk_keeps_upper_bound 0x80 (16 * i) 16 xs (omega arith) c.requires k)

pub loop-i-preserved : goal.loop-i-preserved
loop-i-preserved c =
    let xs = c.args.codes.now in
    let i = c.loop-i.i in
    let prefix : i < length xs / 16 = search rules in
    let block =
    c.copy_from_slice.ensures.after
    ∙ c.add_parity_to_block.ensures
    ∙ ap (map odd_parity_byte) (block_is_chunk _ 16 xs i c.as_chunks.ensures.front prefix) in
    mapping_block_extends_prefix odd_parity_byte xs c.loop-i.bytes _ 40 (16 * i) 16 _ (16 * (i + 1))
    (omega arith)
    (omega arith) (omega arith) (omega arith) block c.loop-i.invariant
