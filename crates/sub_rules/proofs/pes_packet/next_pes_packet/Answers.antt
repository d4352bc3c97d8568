use Rattle.std.proofs.Common.{◌≡◌, ◌∙◌, refl, sym, ap, true, false, Some, List, ℕ, arith}
use Rattle.std.proofs.lemmas.Bool.Decides.{nat_tests}
use Rattle.ttx_pes.specs.Fault.{is_packet_content_fault}
use Rattle.ttx_pes.proofs.PesPacketListLemmas.{value_leaves_rest, refused_packet_leaves_rest}
use Rattle.sub_rules.specs.FrameRules.UnreadReason.{BadPacket}
use Rattle.sub_rules.proofs.PesPacketFileLemmas.{packet_fault_is_no_read_failure}
use Rattle.sub_rules.proofs.PesPacketFileLemmas.{taking_data_field_takes_packet}
use Rattle.sub_rules.proofs.PesPacketFileLemmas.{end_answer_leaves_no_packets}
use Rattle.sub_rules.proofs.PesPacketFileLemmas.{failed_answer_leaves_no_packets}
use Rattle.sub_rules.proofs.PesPacketFileLemmas.{bad_answer_reads_skipped_packet}
use Rattle.sub_rules.proofs.pes_packet.next_pes_packet.Goals as goal

pub returns-then-not-is_packet_content_fault-clause-exact :
    goal.returns-then-not-is_packet_content_fault-clause-exact
returns-then-not-is_packet_content_fault-clause-exact g c = λ pes_packets unread bytes reported fine
    reads.
    let is = c.in-Err.ensures.reports.exact c.args.pes c.requires.reading bytes reported fine in
    let kind : is_packet_content_fault c.in-Err.fault ≡ false = grind (arith, nat_tests) in
    let end = failed_answer_leaves_no_packets _ _ bytes pes_packets unread c.in-Err.fault
    c.requires.few reads is
    kind in
    (end.0, BadPacket c.in-Err.fault, end.1, refl)

pub returns-else-not-is_packet_content_fault-clause-exact :
    goal.returns-else-not-is_packet_content_fault-clause-exact
returns-else-not-is_packet_content_fault-clause-exact g c = λ pes_packets unread bytes reported fine
    reads.
    let kind : is_packet_content_fault c.in-Err.fault ≡ true = grind (arith, nat_tests) in
    let is = c.in-Err.ensures.reports.exact c.args.pes c.requires.reading bytes reported
    (packet_fault_is_no_read_failure c.in-Err.fault kind) in (
      BadPacket c.in-Err.fault,
      refl,
      bad_answer_reads_skipped_packet _ _ bytes pes_packets unread c.in-Err.fault c.requires.few
          reads is kind,
    )

pub returns-else-not-is_packet_content_fault-clause-left :
    goal.returns-else-not-is_packet_content_fault-clause-left
returns-else-not-is_packet_content_fault-clause-left g c = λ bytes reported some.
    let kind : is_packet_content_fault c.in-Err.fault ≡ true = grind (arith, nat_tests) in
    sym (c.in-Err.ensures.pes_packet_settled kind)
    ∙ refused_packet_leaves_rest _ _ bytes c.in-Err.fault (c.in-Err.ensures.pes_packet kind)
    reported

pub returns-else-not-is_packet_content_fault-clause-taken :
    goal.returns-else-not-is_packet_content_fault-clause-taken
returns-else-not-is_packet_content_fault-clause-taken g c = λ some.
    let kind : is_packet_content_fault c.in-Err.fault ≡ true = grind (arith, nat_tests) in
    let taken = c.in-Err.ensures.pes_packet kind in
    rw (← c.in-Err.ensures.pes_packet_settled kind)
    (record { bytes = taken.bytes; is_pes_packet = taken.is_pes_packet; consumed = taken.consumed })

pub returns-else-not-is_packet_content_fault-clause-settled :
    goal.returns-else-not-is_packet_content_fault-clause-settled
returns-else-not-is_packet_content_fault-clause-settled g c = λ some.
    let kind : is_packet_content_fault c.in-Err.fault ≡ true = grind (arith, nat_tests) in
    c.in-Err.ensures.pes_packet_settled kind

pub returns-in-Ok-End-clause-exact : goal.returns-in-Ok-End-clause-exact
returns-in-Ok-End-clause-exact g c = λ pes_packets unread bytes reported fine reads.
    let reports = rw c.in-Ok-End.field-0-is at c.in-Ok-End.ensures.reports in
    end_answer_leaves_no_packets _ _ bytes pes_packets unread c.requires.few reads
    (reports.exact c.args.pes c.requires.reading bytes reported refl)

pub returns-in-Ok-Same-clause-exact : goal.returns-in-Ok-Same-clause-exact
returns-in-Ok-Same-clause-exact g c = λ pes_packets unread bytes reported fine reads.
    let reports = rw c.in-Ok-Same.field-0-is at c.in-Ok-Same.ensures.reports in
    c.pes_packet_of.ensures.exact c.next.new.self.frame bytes pes_packets unread
    (grind (arith, nat_tests))
    c.requires.few (reports.exact c.args.pes c.requires.reading bytes reported refl) reads

pub returns-in-Ok-Same-clause-taken : goal.returns-in-Ok-Same-clause-taken
returns-in-Ok-Same-clause-taken g c = λ some.
    rw (← c.in-Ok-Same.ensures.settled (rw c.in-Ok-Same.field-0-is refl))
    (taking_data_field_takes_packet
    _ _ _ _ (c.in-Ok-Same.ensures.taken (rw c.in-Ok-Same.field-0-is refl)))

pub returns-in-Ok-Same-clause-left : goal.returns-in-Ok-Same-clause-left
returns-in-Ok-Same-clause-left g c = λ bytes reported some.
    let reports = rw c.in-Ok-Same.field-0-is at c.in-Ok-Same.ensures.reports in
    sym (c.in-Ok-Same.ensures.settled (rw c.in-Ok-Same.field-0-is refl))
    ∙ reports.left c.args.pes c.requires.reading bytes reported
    ∙ ap (λ (x : List ℕ). Some x) (value_leaves_rest c.args.pes bytes c.next.new.self.frame
    (reports.exact c.args.pes c.requires.reading bytes reported refl))

pub returns-in-Ok-Other-clause-exact : goal.returns-in-Ok-Other-clause-exact
returns-in-Ok-Other-clause-exact g c = λ pes_packets unread bytes reported fine reads.
    let reports = rw c.in-Ok-Other.field-0-is at c.in-Ok-Other.ensures.reports in
    c.pes_packet_of-in-Ok-Other.ensures.exact c.next.new.self.frame bytes pes_packets unread
    (grind (arith, nat_tests)) c.requires.few
    (reports.exact c.args.pes c.requires.reading bytes reported refl) reads

pub returns-in-Ok-Other-clause-taken : goal.returns-in-Ok-Other-clause-taken
returns-in-Ok-Other-clause-taken g c = λ some.
    rw (← c.in-Ok-Other.ensures.settled (rw c.in-Ok-Other.field-0-is refl))
    (taking_data_field_takes_packet
    _ _ _ _ (c.in-Ok-Other.ensures.taken (rw c.in-Ok-Other.field-0-is refl)))

pub returns-in-Ok-Other-clause-left : goal.returns-in-Ok-Other-clause-left
returns-in-Ok-Other-clause-left g c = λ bytes reported some.
    let reports = rw c.in-Ok-Other.field-0-is at c.in-Ok-Other.ensures.reports in
    sym (c.in-Ok-Other.ensures.settled (rw c.in-Ok-Other.field-0-is refl))
    ∙ reports.left c.args.pes c.requires.reading bytes reported
    ∙ ap (λ (x : List ℕ). Some x) (value_leaves_rest c.args.pes bytes c.next.new.self.frame
    (reports.exact c.args.pes c.requires.reading bytes reported refl))

pub returns-in-Ok-Same-clause-sent : goal.returns-in-Ok-Same-clause-sent
returns-in-Ok-Same-clause-sent g c = λ sending is.
    rw (← c.in-Ok-Same.ensures.settled (rw c.in-Ok-Same.field-0-is refl))
    (c.in-Ok-Same.ensures.taken (rw c.in-Ok-Same.field-0-is refl)).packet

pub returns-in-Ok-Other-clause-sent : goal.returns-in-Ok-Other-clause-sent
returns-in-Ok-Other-clause-sent g c = λ sending is.
    rw (← c.in-Ok-Other.ensures.settled (rw c.in-Ok-Other.field-0-is refl))
    (c.in-Ok-Other.ensures.taken (rw c.in-Ok-Other.field-0-is refl)).packet
