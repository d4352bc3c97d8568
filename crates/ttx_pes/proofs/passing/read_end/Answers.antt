-- After as many PES packets as a day has frames, further bytes give the fault TooMany.
use Rattle.ttx_pes.proofs.PesPacketReportingLemmas.{end_reports_no_packet}
use Rattle.ttx_pes.proofs.PesPacketReportingLemmas.{packet_after_limit_is_refused}
use Rattle.ttx_pes.proofs.PesPacketReportingLemmas.{rest_after_limit_is_refused}
use Rattle.ttx_pes.proofs.passing.read_end.Goals as goal

pub returns-in-End-clause-none : goal.returns-in-End-clause-none
returns-in-End-clause-none g c =
    let on = rw c.in-End.is at c.in_ok-next.ensures.received in
    end_reports_no_packet _ _ _ _ on.0 on.1 on.2

pub returns-in-PesPacket-clause-fault : goal.returns-in-PesPacket-clause-fault
returns-in-PesPacket-clause-fault g c =
    let on = rw c.in-PesPacket.is at c.in_ok-next.ensures.received in
    packet_after_limit_is_refused _ _ _ _ _ _ _ _ c.requires.full on.0 on.1

pub returns-in-Rest-clause-fault : goal.returns-in-Rest-clause-fault
returns-in-Rest-clause-fault g c =
    let on = rw c.in-Rest.is at c.in_ok-next.ensures.received in
    rest_after_limit_is_refused _ _ _ _ c.requires.full on.1
