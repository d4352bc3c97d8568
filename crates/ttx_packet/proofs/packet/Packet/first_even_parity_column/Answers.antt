-- The masks of the two blocks of 16 data bytes, and tests of the last 8 data bytes, give the first
-- data byte with even parity, if there is one.
use Rattle.std.proofs.Common.{◌*◌, ◌/◌, ◌<◌, length, drop, not, arith, rules, ◌∙◌, ap}
use Rattle.std.proofs.lemmas.Bool.Decides.{nat_tests}
use Rattle.std.proofs.lemmas.Bool.{not-false}
use Rattle.std.proofs.lemmas.List.{get_or-drop}
use Rattle.ttx_packet.specs.Lanes.{has_even_parity, even_parity_flags}
use Rattle.ttx_packet.proofs.BlockLemmas.{block_is_chunk, zero_mask_extends_search}
use Rattle.ttx_packet.proofs.BlockLemmas.{nonzero_mask_gives_first}
use Rattle.ttx_packet.proofs.RowPacketLemmas.{first_even_parity_column-at}
use Rattle.ttx_packet.proofs.RowPacketLemmas.{first_even_parity_column-none}
use Rattle.ttx_packet.proofs.packet.Packet.first_even_parity_column.Goals as goal

pub loop-i-preserved : goal.loop-i-preserved
loop-i-preserved c k below =
    let xs = drop 2 c.args.self.now in
    let i = c.loop-i.i in
    let prefix : i < length xs / 16 = search rules in
    let blocks = rw c.data.ensures at c.as_chunks.ensures.front in
    let mask = c.find_even_parity_bytes-mask.ensures ∙ ap even_parity_flags
    (block_is_chunk _ 16 xs i blocks prefix) in
    not-false _
    (zero_mask_extends_search has_even_parity xs (16 * i) c.find_even_parity_bytes-mask.result 0
    (omega arith) mask c.if-mask-ne0.false
    (λ k l. ap not (c.loop-i.invariant k l)) k (omega arith))

pub returns-then-mask-ne0 : goal.returns-then-mask-ne0
returns-then-mask-ne0 c =
    let xs = drop 2 c.args.self.now in
    let i = c.loop-i.i in
    let prefix : i < length xs / 16 = search rules in
    let blocks = rw c.data.ensures at c.as_chunks.ensures.front in
    let mask = c.find_even_parity_bytes-mask.ensures ∙ ap even_parity_flags
    (block_is_chunk _ 16 xs i blocks prefix) in
    let found =
    nonzero_mask_gives_first has_even_parity xs (16 * i) c.find_even_parity_bytes-mask.result 0
    (omega arith) mask c.if-mask-ne0.true
    (λ k l. ap not (c.loop-i.invariant k l)) in
    let first = first_even_parity_column-at c.args.self.now _ (omega (arith, found.0)) found.1 in
    record { value = first.value; odd = first.odd }

pub returns-then-not-is_odd : goal.returns-then-not-is_odd
returns-then-not-is_odd c = grind (arith, nat_tests, get_or-drop, first_even_parity_column-at)

pub returns : goal.returns
returns c = grind (arith, nat_tests, first_even_parity_column-none)
