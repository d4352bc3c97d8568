-- Loop invariant of `copy_rest`: each iteration has copied at least one byte, and no device has
-- failed.
use Rattle.std.proofs.Common.{◌≡◌, true}
use Rattle.sub_io.specs.Reading.{IfKnown}
use Rattle.sub_listing.proofs.CopyingLemmas.{HasCopiedAtLeast}
use Rattle.sub_listing.proofs.copying.copy_rest.Given as goal

abbrev pub invariant-reads : goal.invariant-reads
invariant-reads g l = record {
  rest : g.P.PesPackets.may_read_rest l.pes_packets ≡ true;
  device : g.P.PesPackets.device l.pes_packets ≡ g.P.PesPackets.device l.initial.pes_packets;
  pes_packets : g.P.PesPackets.failure_count l.pes_packets ≡ g.P.PesPackets.failure_count
      l.initial.pes_packets;
  file : g.F.Sink.failure_count l.file ≡ g.F.Sink.failure_count l.initial.file;
  buffered : g.F.Flush.buffered l.initial.file ≡ 0 → g.F.Flush.buffered l.file ≡ 0;
  copied : IfKnown (g.P.PesPackets.remaining l.initial.pes_packets) (λ bytes.
      HasCopiedAtLeast bytes (g.P.PesPackets.remaining l.pes_packets)
      (g.F.Sink.contents l.initial.file)
      (g.F.Sink.contents l.file) l.turn);
}
