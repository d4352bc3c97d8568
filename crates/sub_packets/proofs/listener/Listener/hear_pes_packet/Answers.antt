use Rattle.std.proofs.Common.{length}
use Rattle.sub_io.proofs.ReportingLemmas.{Reports-none}
use Rattle.sub_rules.specs.PacketRules.{packets_of_units}
use Rattle.sub_packets.proofs.PacketEventLemmas.{numbered_packet_events-none}
use Rattle.sub_packets.proofs.RepeatedPacketLemmas.{received_again}
use Rattle.sub_packets.proofs.listener.Listener.hear_pes_packet.Goals as goal

pub returns-in-Some-clause-knows : goal.returns-in-Some-clause-knows
returns-in-Some-clause-knows g c heard last known same =
    let ps = packets_of_units c.args.units.now in
    let w = c.args.self.now.watched in
    let again =
    received_again heard last ps c.in-Some.headers c.args.self.now known c.in-Some.is
    (same c.if-again.true) in (
      again.1,
      again.2,
      again.3 c.args.from,
      rw (numbered_packet_events-none w c.args.frame c.args.from heard ps (length ps) again.0)
          (Reports-none c.args.taker.now),
    )

pub returns-clause-knows : goal.returns-clause-knows
returns-clause-knows g c heard last known same = c.hear_each_packet.ensures.knows heard known.knows
