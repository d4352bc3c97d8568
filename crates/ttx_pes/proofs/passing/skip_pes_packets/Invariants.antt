-- After each iteration of `skip_pes_packets`, the count is the number of skipped PES packets.
use Rattle.std.proofs.Common.{◌≡◌, ◌-◌, ◌≤◌}
use Rattle.ttx_pes.specs.Advancing.{HasSkipped}
use Rattle.ttx_pes.proofs.passing.skip_pes_packets.Given as goal

abbrev pub invariant-loop-skipped : goal.invariant-loop-skipped
invariant-loop-skipped g l = record {
  low : l.skipped ≤ l.n;
  count : g.P.PesPackets.failure_count l.pes_packets ≡ g.P.PesPackets.failure_count
      l.fn.pes_packets;
  same : g.P.PesPackets.device l.pes_packets ≡ g.P.PesPackets.device l.fn.pes_packets;
  reported : HasSkipped l.n l.skipped (g.P.PesPackets.remaining l.fn.pes_packets)
      (g.P.PesPackets.remaining l.pes_packets);
}

abbrev pub decreases-loop-skipped : goal.decreases-loop-skipped
decreases-loop-skipped g l = l.n - l.skipped
