use Rattle.std.proofs.Common.{refl, rules}
use Rattle.std.specs.Io.KnownBytes.{Appends}
use Rattle.sub_io.specs.Device.{AppendsPrefix}
use Rattle.ttx_pes.proofs.PesPacketReportingLemmas.{reported_fault_is_rest_kind}
use Rattle.sub_listing.proofs.CopyingLemmas.{no_bytes_are_left_at_end, failed_copy_appends_prefix}
use Rattle.sub_listing.proofs.CopyingLemmas.{copying_pes_packet_appends_it}
use Rattle.sub_listing.proofs.CopyingLemmas.{rejected_rest_is_not_consumed}
use Rattle.sub_listing.proofs.copying.copy_next.Goals as goal

pub returns-then-is_err-clause-reported : goal.returns-then-is_err-clause-reported
returns-then-is_err-clause-reported g c = λ bytes reported.
    let pes_packet = (rw c.in-PesPacket.is at c.in-Ok.ensures.received).0 in
    let part :
    AppendsPrefix (g.F.Sink.contents c.args.file.now)
    (g.F.Sink.contents c.write_and_flush.new.file) c.bytes.result.now =
    search rules in
    failed_copy_appends_prefix bytes pes_packet.bytes _ _ _ _ reported pes_packet.consumed
    (rw (c.bytes.ensures, pes_packet.takes.0) at part)

pub returns-else-is_err-clause-reported : goal.returns-else-is_err-clause-reported
returns-else-is_err-clause-reported g c = λ bytes reported.
    let pes_packet = (rw c.in-PesPacket.is at c.in-Ok.ensures.received).0 in
    let all :
    Appends (g.F.Sink.contents c.args.file.now) (g.F.Sink.contents c.write_and_flush.new.file)
    c.bytes.result.now =
    search rules in
    copying_pes_packet_appends_it bytes pes_packet.bytes _ _ _ _ _ reported pes_packet.is_pes_packet
    pes_packet.consumed pes_packet.takes.1
    (rw (c.bytes.ensures, pes_packet.takes.0) at all)

pub returns-in-Rest-clause-reported : goal.returns-in-Rest-clause-reported
returns-in-Rest-clause-reported g c = λ bytes reported.
    let received = rw c.in-Rest.is at c.in-Ok.ensures.received in
    let rest = rejected_rest_is_not_consumed bytes _ _ _ c.in-Rest.fault reported received.0
    received.1 in
    (rest.0, rest.1, refl)

pub returns-in-Rest-clause-never_reports_failed_read :
    goal.returns-in-Rest-clause-never_reports_failed_read
returns-in-Rest-clause-never_reports_failed_read g c =
    let received = rw c.in-Rest.is at c.in-Ok.ensures.received in
    (reported_fault_is_rest_kind _ _ c.in-Rest.fault received.1).2

pub returns-in-End-clause-reported : goal.returns-in-End-clause-reported
returns-in-End-clause-reported g c = λ bytes reported.
    let received = rw c.in-End.is at c.in-Ok.ensures.received in
    (no_bytes_are_left_at_end bytes _ _ reported received.0 received.2, search rules)
