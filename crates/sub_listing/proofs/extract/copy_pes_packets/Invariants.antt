-- Loop invariant of `copy_pes_packets`: all PES packets read so far were copied and flushed, and no
-- device has failed.
use Rattle.std.proofs.Common.{◌≡◌, ◌<◌, ◌≤◌}
use Rattle.sub_io.specs.Reading.{IfKnown}
use Rattle.sub_listing.specs.Copying.{HasCopiedPesPackets}
use Rattle.sub_listing.proofs.extract.copy_pes_packets.Given as goal

abbrev pub invariant-pes_packets : goal.invariant-pes_packets
invariant-pes_packets g l = record {
  device : g.P.PesPackets.device l.pes_packets ≡ g.P.PesPackets.device l.fn.pes_packets;
  pes_packets : g.P.PesPackets.failure_count l.pes_packets ≡ g.P.PesPackets.failure_count
      l.fn.pes_packets;
  file : g.F.Sink.failure_count l.file ≡ g.F.Sink.failure_count l.fn.file;
  buffered : g.F.Flush.buffered l.fn.file ≡ 0 → g.F.Flush.buffered l.file ≡ 0;
  flushed : 0 < l.pes → g.F.Flush.buffered l.file ≡ 0;
  few : l.gaps ≤ l.pes;
  copied : IfKnown (g.P.PesPackets.remaining l.fn.pes_packets) (λ bytes.
      HasCopiedPesPackets bytes (g.P.PesPackets.remaining l.pes_packets)
      (g.F.Sink.contents l.fn.file)
      (g.F.Sink.contents l.file) l.pes l.gaps);
}
