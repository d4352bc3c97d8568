-- A comparing reader returns the specified result for each result of receiving a PES packet.
use Rattle.std.proofs.Common.{◌∙◌, Bool, Err, Ok, Result, false, rules, sym, true}
use Rattle.std.proofs.lemmas.Bool.{true≢false}
use Rattle.sub_io.specs.declared.source.Failed.{Failed}
use Rattle.ttx_pes.specs.declared.fault.PesFault.{PesFault}
use Rattle.ttx_pes.proofs.PesPacketReportingLemmas.{received_packet_is_taken}
use Rattle.ttx_pes.proofs.PesPacketReportingLemmas.{reported_fault_is_rest_kind}
use Rattle.ttx_pes.proofs.PesPacketReportingLemmas.{kept_packet_is_answer}
use Rattle.ttx_pes.proofs.PesPacketReportingLemmas.{end_reports_no_packet}
use Rattle.ttx_pes.proofs.PesPacketReportingLemmas.{refused_packet_is_answer, faulty_rest_is_answer}
use Rattle.ttx_pes.proofs.comparing_reader.read_compared.Goals as goal

pub returns-in-End-clause-reports : goal.returns-in-End-clause-reports
returns-in-End-clause-reports g c =
    let on = rw c.in-End.is at c.in_ok-next.ensures.received in
    end_reports_no_packet _ _ _ _ on.0 on.1 on.2

pub returns-in-PesPacket-Ok-true-clause-reports : goal.returns-in-PesPacket-Ok-true-clause-reports
returns-in-PesPacket-Ok-true-clause-reports g c =
    let on = received_packet_is_taken Failed _ _ _ _ _ _ _ c.in_ok-next.ensures.received
    (let r : Result Bool PesFault = Ok true in r) (search rules) in
    (kept_packet_is_answer c.args.given _ _ _ _ _ c.if-given-eq-MAX_PES_PACKETS.false true on.0
    on.1).0

pub returns-in-PesPacket-Ok-true-clause-taken : goal.returns-in-PesPacket-Ok-true-clause-taken
returns-in-PesPacket-Ok-true-clause-taken g c = λ _.
    let on = received_packet_is_taken Failed _ _ _ _ _ _ _ c.in_ok-next.ensures.received
    (let r : Result Bool PesFault = Ok true in r) (search rules) in
    (kept_packet_is_answer c.args.given _ _ _ _ _ c.if-given-eq-MAX_PES_PACKETS.false true on.0
    on.1).1

pub returns-in-PesPacket-Ok-false-clause-reports : goal.returns-in-PesPacket-Ok-false-clause-reports
returns-in-PesPacket-Ok-false-clause-reports g c =
    let on = received_packet_is_taken Failed _ _ _ _ _ _ _ c.in_ok-next.ensures.received
    (let r : Result Bool PesFault = Ok false in r) (search rules) in
    (kept_packet_is_answer c.args.given _ _ _ _ _ c.if-given-eq-MAX_PES_PACKETS.false false on.0
    on.1).0

pub returns-in-PesPacket-Ok-false-clause-taken : goal.returns-in-PesPacket-Ok-false-clause-taken
returns-in-PesPacket-Ok-false-clause-taken g c = λ _.
    let on = received_packet_is_taken Failed _ _ _ _ _ _ _ c.in_ok-next.ensures.received
    (let r : Result Bool PesFault = Ok false in r) (search rules) in
    (kept_packet_is_answer c.args.given _ _ _ _ _ c.if-given-eq-MAX_PES_PACKETS.false false on.0
    on.1).1

pub returns-in-PesPacket-Err-clause-reports : goal.returns-in-PesPacket-Err-clause-reports
returns-in-PesPacket-Err-clause-reports g c =
    let f = c.in-PesPacket-Err.fault in
    let on = received_packet_is_taken Failed _ _ _ _ _ _ _ c.in_ok-next.ensures.received
    (let r : Result Bool PesFault = Err f in r) (search rules) in
    (refused_packet_is_answer c.args.given _ _ _ _ _ c.if-given-eq-MAX_PES_PACKETS.false f on.0
    on.1).0

pub returns-in-PesPacket-Err-clause-pes_packet : goal.returns-in-PesPacket-Err-clause-pes_packet
returns-in-PesPacket-Err-clause-pes_packet g c = λ _.
    let f = c.in-PesPacket-Err.fault in
    let on = received_packet_is_taken Failed _ _ _ _ _ _ _ c.in_ok-next.ensures.received
    (let r : Result Bool PesFault = Err f in r) (search rules) in
    (refused_packet_is_answer c.args.given _ _ _ _ _ c.if-given-eq-MAX_PES_PACKETS.false f on.0
    on.1).1

pub returns-in-Rest-clause-reports : goal.returns-in-Rest-clause-reports
returns-in-Rest-clause-reports g c =
    let on = rw c.in-Rest.is at c.in_ok-next.ensures.received in
    faulty_rest_is_answer _ _ _ _ c.if-given-eq-MAX_PES_PACKETS.false on.1

pub returns-in-Rest-clause-pes_packet : goal.returns-in-Rest-clause-pes_packet
returns-in-Rest-clause-pes_packet g c = λ yes.
    let on = rw c.in-Rest.is at c.in_ok-next.ensures.received in
    absurd (true≢false (sym yes ∙ (reported_fault_is_rest_kind _ _ _ on.1).1))

pub returns-in-Rest-clause-pes_packet_settled : goal.returns-in-Rest-clause-pes_packet_settled
returns-in-Rest-clause-pes_packet_settled g c = λ yes.
    let on = rw c.in-Rest.is at c.in_ok-next.ensures.received in
    absurd (true≢false (sym yes ∙ (reported_fault_is_rest_kind _ _ _ on.1).1))

pub returns-in-Rest-clause-ready : goal.returns-in-Rest-clause-ready
returns-in-Rest-clause-ready g c = λ _.
    let on = rw c.in-Rest.is at c.in_ok-next.ensures.received in (reported_fault_is_rest_kind
    _ _ _ on.1).2

pub returns-in-Rest-clause-count : goal.returns-in-Rest-clause-count
returns-in-Rest-clause-count g c =
    let on = rw c.in-Rest.is at c.in_ok-next.ensures.received in
    rw ((reported_fault_is_rest_kind _ _ _ on.1).2) c.in_ok-next.ensures.count
