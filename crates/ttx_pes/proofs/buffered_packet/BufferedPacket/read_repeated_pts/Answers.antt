-- A PES packet with a valid header and the stored data field repeats the stored packet.
use Rattle.std.proofs.Common.{◌∙◌, arith, rules}
use Rattle.sub_io.specs.Reading.{AreBytes}
use Rattle.ttx_pes.proofs.RepeatedPacketLemmas.{repeated_packet_keeps_units}
use Rattle.ttx_pes.proofs.buffered_packet.BufferedPacket.read_repeated_pts.Goals as goal

pub returns-in-Ok : goal.returns-in-Ok
returns-in-Ok c =
    let pes_packet = c.args.pes_packet.now in
    let fit : AreBytes pes_packet = λ i. let fits = c.type_inv.pes_packet i in omega (arith, fits)
    in
    let kept = c.is_same.ensures.0 (search rules) ∙ c.field.ensures in
    record {
      again = repeated_packet_keeps_units pes_packet _ c.split_at.result.1.now
          c.split_at-2.result.1.now
          c.args.self.now c.in-Ok.pts fit c.requires.known (search rules) c.requires.size
          c.split_at.ensures.back c.split_at-2.ensures.back kept c.in-Ok.ensures.exact;
    }
