use Rattle.std.proofs.Common.{◌≡◌, true, [], ◌∷◌, ◌++◌, sym, ap, ◌∙◌, subst, arith}
use Rattle.std.proofs.lemmas.Bool.Decides.{nat_tests}
use Rattle.ttx_page.specs.PacketKind.{is_this_page}
use Rattle.sub_packets.specs.Listener.{Knows}
use Rattle.sub_packets.proofs.ListenerLemmas.{repeated_row_keeps_knowledge}
use Rattle.sub_packets.proofs.ListenerLemmas.{erasing_header_keeps_knowledge}
use Rattle.sub_packets.proofs.ListenerLemmas.{repeating_header_keeps_knowledge}
use Rattle.sub_packets.proofs.ListenerLemmas.{new_row_keeps_knowledge}
use Rattle.sub_packets.proofs.ListenerLemmas.{other_packet_keeps_knowledge}
use Rattle.sub_packets.proofs.listener.Listener.hear.Goals as goal

pub returns-then-begins_text-clause-knows : goal.returns-then-begins_text-clause-knows
returns-then-begins_text-clause-knows c heard known =
    let begins = c.begins_text.ensures in
    let k = c.in-ThisPage.is in
    subst (Knows (heard ++ c.args.packet.now ∷ [])) (sym c.start.ensures)
    (erasing_header_keeps_knowledge heard c.args.packet.now c.args.self.now _ _ known
    c.requires.page_header
    c.first_serial-self.ensures c.in-ThisPage.header (sym c.requires.kind ∙ c.in-ThisPage.is)
    (grind (arith, nat_tests)))

pub returns-else-begins_text-clause-knows : goal.returns-else-begins_text-clause-knows
returns-else-begins_text-clause-knows c heard known =
    let begins = c.begins_text.ensures in
    let k = c.in-ThisPage.is in
    subst (Knows (heard ++ c.args.packet.now ∷ [])) (sym c.note_repeated_header.ensures)
    (repeating_header_keeps_knowledge heard c.args.packet.now c.args.self.now _ _ known
    c.requires.page_header
    c.first_serial-self.ensures c.in-ThisPage.header (sym c.requires.kind ∙ c.in-ThisPage.is)
    (grind (arith, nat_tests)))

pub returns-in-EndsPage-clause-knows : goal.returns-in-EndsPage-clause-knows
returns-in-EndsPage-clause-knows c heard known =
    let k = sym c.requires.kind ∙ c.in-EndsPage.is in
    other_packet_keeps_knowledge heard c.args.packet.now c.args.self.now _ _ known
    c.requires.page_header
    c.first_serial-self.ensures (ap is_this_page k) _ (grind (arith, nat_tests))
    (λ row low high opened. grind (arith, nat_tests))

pub returns-then-is_new_row-clause-knows : goal.returns-then-is_new_row-clause-knows
returns-then-is_new_row-clause-knows c heard known =
    let k = sym c.requires.kind ∙ c.in-Row.is in
    let range = c.requires.row c.in-Row.row c.in-Row.is in
    let new = c.is_new_row.ensures in
    let opened : c.args.self.now.is_open ≡ true = grind (arith, nat_tests) in
    rw (c.store_row.ensures.kept, c.text_codes.ensures.value)
    (new_row_keeps_knowledge heard c.args.packet.now c.args.self.now _ _ known
    c.requires.page_header
    c.first_serial-self.ensures (ap is_this_page k) c.in-Row.row range.0 range.1 k opened
    (omega arith) (grind (arith, nat_tests)) (omega arith) c.store_row.ensures.page.rows)

pub returns-then-self-clause-knows : goal.returns-then-self-clause-knows
returns-then-self-clause-knows c heard known =
    let k = sym c.requires.kind ∙ c.in-Row.is in
    let range = c.requires.row c.in-Row.row c.in-Row.is in
    let new = c.is_new_row.ensures in
    let opened : c.args.self.now.is_open ≡ true = grind (arith, nat_tests) in
    rw c.note_repeated_row.ensures
    (repeated_row_keeps_knowledge heard c.args.packet.now c.args.self.now _ _ known
    c.requires.page_header
    c.first_serial-self.ensures (ap is_this_page k) c.in-Row.row range.0 range.1 k opened
    (omega arith) (grind (arith, nat_tests)))

pub returns-else-self-clause-knows : goal.returns-else-self-clause-knows
returns-else-self-clause-knows c heard known =
    let k = sym c.requires.kind ∙ c.in-Row.is in
    let closed = c.if-self.false in
    other_packet_keeps_knowledge heard c.args.packet.now c.args.self.now _ _ known
    c.requires.page_header
    c.first_serial-self.ensures (ap is_this_page k) _ (grind (arith, nat_tests))
    (λ row low high opened. grind (arith, nat_tests))

pub returns-in-Other-clause-knows : goal.returns-in-Other-clause-knows
returns-in-Other-clause-knows c heard known =
    let k = sym c.requires.kind ∙ c.in-Other.is in
    other_packet_keeps_knowledge heard c.args.packet.now c.args.self.now _ _ known
    c.requires.page_header
    c.first_serial-self.ensures (ap is_this_page k) _ (grind (arith, nat_tests))
    (λ row low high opened. grind (arith, nat_tests))
