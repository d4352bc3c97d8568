-- `read_packet` returns the specified result for each result of receiving a PES packet.
use Rattle.std.proofs.Common.{Err, Ok, Result, rules}
use Rattle.sub_io.specs.declared.source.Failed.{Failed}
use Rattle.ttx_pes.specs.declared.fault.PesFault.{PesFault}
use Rattle.ttx_pes.proofs.PesPacketReportingLemmas.{received_packet_is_taken}
use Rattle.ttx_pes.proofs.PesPacketReportingLemmas.{reported_fault_is_rest_kind}
use Rattle.ttx_pes.proofs.PesPacketReportingLemmas.{end_reports_no_packet}
use Rattle.ttx_pes.proofs.PesPacketReportingLemmas.{reports_read}
use Rattle.ttx_pes.proofs.PesPacketReportingLemmas.{faulty_rest_is_answer}
use Rattle.ttx_pes.proofs.PesPacketReportingLemmas.{unreadable_packet_is_answer}
use Rattle.ttx_pes.proofs.reader.read_packet.Goals as goal

pub returns-in-End-clause-reports : goal.returns-in-End-clause-reports
returns-in-End-clause-reports g c =
    let on = rw c.in-End.is at c.in_ok-next.ensures.received in
    end_reports_no_packet _ _ _ _ on.0 on.1 on.2

pub returns-in-PesPacket-Ok-clause-reports : goal.returns-in-PesPacket-Ok-clause-reports
returns-in-PesPacket-Ok-clause-reports g c =
    let on = received_packet_is_taken Failed _ _ _ _ _ _ _ c.in_ok-next.ensures.received
    (let r : Result (Unit {0}) PesFault = Ok tt in r) (search rules) in
    reports_read c.args.given _ _ _ _ _ c.if-given-eq-MAX_PES_PACKETS.false on.0 on.1

pub returns-in-PesPacket-Err-clause-reports : goal.returns-in-PesPacket-Err-clause-reports
returns-in-PesPacket-Err-clause-reports g c =
    let f = c.in-PesPacket-Err.fault in
    let on = received_packet_is_taken Failed _ _ _ _ _ _ _ c.in_ok-next.ensures.received
    (let r : Result (Unit {0}) PesFault = Err f in r) (search rules) in
    unreadable_packet_is_answer c.args.given _ _ _ _ _ c.if-given-eq-MAX_PES_PACKETS.false f on.0
    on.1

pub returns-in-Rest-clause-reports : goal.returns-in-Rest-clause-reports
returns-in-Rest-clause-reports g c =
    let on = rw c.in-Rest.is at c.in_ok-next.ensures.received in
    faulty_rest_is_answer _ _ _ _ c.if-given-eq-MAX_PES_PACKETS.false on.1

pub returns-in-Rest-clause-count : goal.returns-in-Rest-clause-count
returns-in-Rest-clause-count g c =
    let on = rw c.in-Rest.is at c.in_ok-next.ensures.received in
    rw ((reported_fault_is_rest_kind _ _ _ on.1).2) c.in_ok-next.ensures.count
