use Rattle.std.proofs.Common.{◌≡◌, ◌/◌, ◌++◌, [], drop, take, get_or, length, rules, ap, ◌∙◌, arith}
use Rattle.hex.specs.Hex.{encode_lower, lower_digits}
use Rattle.ttx_packet.proofs.BlockLemmas.{chunk_at_index}
use Rattle.sub_listing.proofs.HexDigitLemmas.{blocks_encode_all_digits}
use Rattle.sub_listing.proofs.lines.push_lower_hex.Goals as goal

pub returns-clause-items : goal.returns-clause-items
returns-clause-items g c =
    let xs = c.args.bytes.now in
    let long : length xs ≡ 42 = c.told-bytes in
    let last : c.unwrap.result.now ≡ drop 26 xs = search rules in
    blocks_encode_all_digits lower_digits xs c.args.line.now.items c.push_text.new.line.items
    c.push_text-2.new.line.items c.push_text-3.new.line.items long
    (c.push_text.ensures.items ∙ ap (λ l. c.args.line.now.items ++ l) (c.digits_of_block.ensures
    ∙ ap encode_lower (ap (λ l. get_or l 0 []) c.as_chunks.ensures.front
    ∙ chunk_at_index 16 (length xs / 16) xs 0 (omega arith))))
    (c.push_text-2.ensures.items
    ∙ ap (λ l. c.push_text.new.line.items ++ l) (c.digits_of_block-2.ensures
    ∙ ap encode_lower (ap (λ l. get_or l 1 []) c.as_chunks.ensures.front
    ∙ chunk_at_index 16 (length xs / 16) xs 1 (omega arith))))
    (c.push_text-3.ensures.items
    ∙ ap (λ l. c.push_text-2.new.line.items ++ take 20 (drop 12 l))
    (c.digits_of_block-3.ensures ∙ ap encode_lower last))
