use Rattle.std.proofs.Common.{arith, ◌∙◌, eq-eqb}
use Rattle.std.proofs.lemmas.Bool.Decides.{nat_tests}
use Rattle.std.proofs.lemmas.Bool.{cond-true, cond-false, ne_eqb}
use Rattle.ttx_packet.proofs.Hamming84Lemmas.{decoded_nibble-by_table, decodes_implies_decoded}
use Rattle.ttx_packet.proofs.Hamming84Lemmas.{decoded_implies_decodes}
use Rattle.ttx_packet.proofs.hamming.unham.Goals as goal

pub returns-then-number : goal.returns-then-number
returns-then-number c =
    let b = c.args.byte in
    let none = decoded_nibble-by_table b (omega arith) ∙ cond-true
    _ _ _ (eq-eqb _ _ c.if-number.true) in
    grind (arith, nat_tests, decoded_implies_decodes, decodes_implies_decoded)

pub returns-else-number : goal.returns-else-number
returns-else-number c =
    let b = c.args.byte in
    let some = decoded_nibble-by_table b (omega arith) ∙ cond-false
    _ _ _ (ne_eqb _ _ c.if-number.false) in
    grind (arith, nat_tests, decoded_implies_decodes, decodes_implies_decoded)
