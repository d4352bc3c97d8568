-- Replacing the bytes of the PTS gives the canonical packet with the new PTS.
use Rattle.ttx_pes.proofs.PesGrammarLemmas.{has_room_for_pts, refill-pts}
use Rattle.ttx_pes.proofs.repeated_packet.RepeatedPacket.set_pts.Goals as goal

pub put_pts-requires-clause-room : goal.put_pts-requires-clause-room
put_pts-requires-clause-room c =
    rw (c.as_mut_slice.ensures.value, c.self.invariant) (has_room_for_pts c.self.inside.frame)

pub invariant_of-self : goal.invariant_of-self
invariant_of-self c =
    rw (c.put_pts.ensures, c.as_mut_slice.ensures.value, c.set_pts.ensures)
    (refill-pts c.self.inside.frame c.args.pts c.self.inside.bytes.items c.self.invariant)
