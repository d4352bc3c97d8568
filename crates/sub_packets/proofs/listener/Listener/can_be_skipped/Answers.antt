-- If `can_be_skipped` returns true, the address of the packet, or its page header, proves that the
-- packet can be skipped.
use Rattle.std.proofs.lemmas.Bool.{not-true}
use Rattle.sub_packets.proofs.SkippedLemmas.{skipped_header_is_of_another_page}
use Rattle.sub_packets.proofs.SkippedLemmas.{other_packet_is_no_header}
use Rattle.sub_packets.proofs.SkippedLemmas.{header_of_other_page_is_skipped}
use Rattle.sub_packets.proofs.SkippedLemmas.{packet_of_other_page_is_skipped}
use Rattle.sub_packets.proofs.listener.Listener.can_be_skipped.Goals as goal

pub returns-then-packet_number-ne0-clause-no_header :
    goal.returns-then-packet_number-ne0-clause-no_header
returns-then-packet_number-ne0-clause-no_header c _ =
    other_packet_is_no_header c.args.packet.now c.args.self.now _ c.in-Some.ensures.1
    c.if-packet_number-ne0.true

pub returns-then-packet_number-ne0-clause-skipped :
    goal.returns-then-packet_number-ne0-clause-skipped
returns-then-packet_number-ne0-clause-skipped c heard known is =
    packet_of_other_page_is_skipped heard c.args.packet.now c.args.self.now known
    c.in-Some.ensures.0 _
    c.in-Some.ensures.1 c.if-packet_number-ne0.true (not-true _
    (rw (c.is_closed_for_magazine.ensures, c.requires) at is))

pub returns-clause-no_header : goal.returns-clause-no_header
returns-clause-no_header c is =
    let header = (c.is_skippable_header.ensures is).1 in
    skipped_header_is_of_another_page c.args.packet.now c.args.self.now _ c.in-Some.ensures.1
    header.0
    c.if-packet_number-ne0.false header.1 header.2

pub returns-clause-skipped : goal.returns-clause-skipped
returns-clause-skipped c heard known is =
    let says = c.is_skippable_header.ensures is in
    let header = says.1 in
    header_of_other_page_is_skipped heard c.args.packet.now c.args.self.now known
    c.in-Some.ensures.0 _
    c.in-Some.ensures.1 c.if-packet_number-ne0.false says.0 header.0 header.1 header.2
