-- A PES packet that is completely buffered in the source is processed and skipped.
use Rattle.std.proofs.Common.{arith, subst, sym}
use Rattle.std.specs.Io.KnownBytes.{Consumes}
use Rattle.sub_io.proofs.DeviceLemmas.{Consumes-skipped}
use Rattle.sub_io.specs.Reading.{AreBytes}
use Rattle.ttx_pes.proofs.DataUnitLemmas.{AreBytes-take}
use Rattle.ttx_pes.specs.PesPackets.{IsPesPacket}
use Rattle.ttx_pes.proofs.PesPacketBufferLemmas.{borrowed_covers_buffered}
use Rattle.ttx_pes.proofs.PesPacketBufferLemmas.{borrowed_prefix_is_pes_packet}
use Rattle.ttx_pes.proofs.file_pes_packets.take_borrowed.Goals as goal

pub take-answer-requires : goal.take-answer-requires
take-answer-requires g c =
    subst IsPesPacket (sym c.first_bytes-pes_packet.ensures.value)
    (borrowed_prefix_is_pes_packet c.buffered-buffered.result.now c.in-Some.size
    c.first_bytes-pes_packet.ensures.bytes
    c.in-Some.ensures.long c.in-Some.ensures.whole c.in-Some.ensures.reported)

pub returns-clause-some : goal.returns-clause-some
returns-clause-some g c =
    let buffered = c.buffered-buffered.result.now in
    let size = c.in-Some.size in
    let is = sym c.first_bytes-pes_packet.ensures.value in
    let begins = c.buffered-buffered.ensures.bytes in
    let long = borrowed_covers_buffered buffered (g.S.Source.borrowed c.args.source.now)
    c.buffered-buffered.ensures.borrowed in
    let le = c.in-Some.ensures.whole in
    let yes = c.skip_bytes-is_skipped.ensures.whole (omega (arith, long, le)) in
    record {
      bytes = c.first_bytes-pes_packet.result.now;
      is_pes_packet = subst IsPesPacket is
          (borrowed_prefix_is_pes_packet buffered size
          c.first_bytes-pes_packet.ensures.bytes
          c.in-Some.ensures.long le c.in-Some.ensures.reported);
      fit = subst AreBytes is
          (AreBytes-take size buffered c.first_bytes-pes_packet.ensures.bytes);
      consumed = subst
          (Consumes (g.S.Source.remaining c.args.source.now)
          (g.S.Source.remaining c.skip_bytes-is_skipped.new.self)) is
          (Consumes-skipped _ _ buffered size begins le (c.skip_bytes-is_skipped.ensures.bytes
          yes));
      takes = c.take-answer.ensures;
    }
