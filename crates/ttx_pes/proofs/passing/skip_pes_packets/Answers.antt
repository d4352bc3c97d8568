-- Each iteration of `skip_pes_packets` skips one PES packet, or ends the loop.
use Rattle.std.proofs.Common.{◌∙◌, arith}
use Rattle.sub_io.specs.declared.source.Failed.{Failed}
use Rattle.ttx_pes.proofs.LimitedReadLemmas.{skipping_stops_at_count, skipping_counts_packet}
use Rattle.ttx_pes.proofs.LimitedReadLemmas.{skipping_stops_at_rest}
use Rattle.ttx_pes.proofs.passing.skip_pes_packets.Goals as goal

pub loop-skipped-preserved : goal.loop-skipped-preserved
loop-skipped-preserved g c =
    let i = c.loop-skipped.invariant in
    let on = rw c.in-PesPacket.is at c.in-Ok.ensures.received in
    let lt = c.loop-skipped-test.true in
    let counted = c.in-Ok.ensures.count in
    let before = i.count in
    record {
      low = omega (arith, lt);
      count = omega (arith, counted, before);
      same = c.in-Ok.ensures.same ∙ i.same;
      reported = skipping_counts_packet _ _ _ _ _ on.0.bytes lt i.reported on.0.is_pes_packet
          on.0.consumed;
    }

pub returns-in_default : goal.returns-in_default
returns-in_default g c =
    let i = c.loop-skipped.invariant in
    let counted = c.in-Ok.ensures.count in
    let before = i.count in
    let stop = skipping_stops_at_rest Failed _ _ _ _ _ _ _ _ _ _ c.in_default.not-PesPacket
    i.reported
    c.in-Ok.ensures.received in
    record {
      most = i.low;
      fewer = tt;
      skipped = stop.0;
      so_far = stop.1;
      same = c.in-Ok.ensures.same ∙ i.same;
      count = omega (arith, counted, before);
    }

pub returns-clause-skipped : goal.returns-clause-skipped
returns-clause-skipped g c =
    skipping_stops_at_count _ _ _ _ c.loop-skipped-test.false c.loop-skipped.invariant.reported
