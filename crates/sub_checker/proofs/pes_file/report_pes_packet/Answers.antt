use Rattle.std.proofs.Common.{◌∙◌, ap, subst, sym}
use Rattle.sub_rules.specs.PacketRules.{packets_of_units}
use Rattle.sub_checker.specs.NextPesPackets.{RepeatsLastPacket}
use Rattle.sub_checker.proofs.pes_file.report_pes_packet.Goals as goal

pub returns-in-Sent-clause-reported : goal.returns-in-Sent-clause-reported
returns-in-Sent-clause-reported g c = λ criteria sent last keeps again.
    let units = c.units_of-units.ensures.value in
    let go =
    c.check_pes_packet.ensures.reported criteria sent last keeps
    (λ e. let both = c.sending_after_packet.ensures.again e in
    again both.1 (subst RepeatsLastPacket (sym c.in-Sent.is) both.0) ∙ ap packets_of_units
    (sym units)) in
    rw c.in-Sent.is (rw (c.sending_after_packet.ensures.frame, units) at go)
