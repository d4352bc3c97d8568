use Rattle.std.proofs.Common.{refl, sym, ◌∙◌, arith}
use Rattle.std.proofs.lemmas.Bool.Decides.{nat_tests}
use Rattle.sub_packets.proofs.PacketRuleLemmas.{closing_header_breaks_no_later_rule}
use Rattle.sub_packets.proofs.PacketRuleLemmas.{other_packet_breaks_enhancement_rule_only}
use Rattle.sub_packets.proofs.PacketRuleLemmas.{row_breaks_row_rules_only}
use Rattle.sub_packets.proofs.PacketRuleLemmas.{page_header_breaks_control_rule_only}
use Rattle.sub_packets.proofs.listener.Listener.broken_rules_from_control.Goals as goal

pub returns-in-ThisPage-clause-rules : goal.returns-in-ThisPage-clause-rules
returns-in-ThisPage-clause-rules c heard known =
    let is = c.is_allowed_page_header.ensures heard known in
    rw (page_header_breaks_control_rule_only c.args.self.now.watched heard c.args.packet.now
    c.in-ThisPage.header (sym c.requires.kind ∙ c.in-ThisPage.is)) (grind (arith, nat_tests))

pub returns-in-EndsPage-clause-rules : goal.returns-in-EndsPage-clause-rules
returns-in-EndsPage-clause-rules c heard known =
    c.none-none.ensures
    ∙ sym (closing_header_breaks_no_later_rule c.args.self.now.watched heard c.args.packet.now
    (sym c.requires.kind ∙ c.in-EndsPage.is))

pub returns-in-Row-clause-rules : goal.returns-in-Row-clause-rules
returns-in-Row-clause-rules c heard known =
    let range = c.requires.row c.in-Row.row c.in-Row.is in
    let sent = known.sent_eq c.in-Row.row range.0 range.1 in
    let page = known.page_is c.in-Row.row range.0 range.1 in
    rw (row_breaks_row_rules_only c.args.self.now.watched heard c.args.packet.now c.in-Row.row _
    (sym c.requires.kind ∙ c.in-Row.is) refl) (grind (arith, known.open_eq))

pub returns-in-Other-clause-rules : goal.returns-in-Other-clause-rules
returns-in-Other-clause-rules c heard known =
    rw (other_packet_breaks_enhancement_rule_only c.args.self.now.watched heard c.args.packet.now
    (sym c.requires.kind ∙ c.in-Other.is)) (grind (arith, known.open_eq))
