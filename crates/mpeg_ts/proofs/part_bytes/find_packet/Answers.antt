-- If `find_packet` finds a complete PES packet, the collected bytes begin with that PES packet,
-- whether its contents are valid or not. If it finds a wrong start code or length, the collected
-- bytes do not begin with a PES packet.
use Rattle.std.proofs.Common.{◌∙◌}
use Rattle.mpeg_ts.proofs.ReadyLemmas.{found_packet_is_pes_packet, found_fault_is_refused}
use Rattle.mpeg_ts.proofs.part_bytes.find_packet.Goals as goal

pub returns-clause-packet : goal.returns-clause-packet
returns-clause-packet c = λ size is.
    found_packet_is_pes_packet c.args.bytes.now size c.find_packet_at_start.ensures.fit
    (c.find_packet_at_start.ensures.found ∙ is)

pub returns-clause-other : goal.returns-clause-other
returns-clause-other c = λ fault is.
    found_fault_is_refused c.args.bytes.now fault (c.find_packet_at_start.ensures.found ∙ is)
