-- After `pes` PES packets, the checker's state agrees with them, and all their events were
-- reported.
use Rattle.std.proofs.Common.{◌≡◌, ◌≤◌, ◌-◌, ℕ, List, None, Option, Some, false}
use Rattle.ttx_pes.specs.Reading.{max_pes_packets}
use Rattle.ttx_pes.specs.declared.progress.Progress.TheVariants.{Reading}
use Rattle.sub_io.specs.Flushing.{BuffersOnlyWhilePending}
use Rattle.sub_io.specs.Reporting.{Reports, ReportsSome}
use Rattle.sub_plan.specs.FrameTime.{clock_of}
use Rattle.sub_rules.specs.FrameRules.{UnreadReason, criteria_of_judged}
use Rattle.sub_rules.specs.PacketRules.{packets_of_units}
use Rattle.sub_rules.specs.PesPacketEvents.{events_of_pes_packets}
use Rattle.sub_rules.specs.PesPackets.{PesPacket, ReadsPesPackets, TakesPesPackets}
use Rattle.sub_rules.specs.Transmission.{Transmission}
use Rattle.sub_checker.specs.Checker.{AreCountsBounded}
use Rattle.sub_checker.specs.CheckedFrames.{BetweenPesPackets}
use Rattle.sub_checker.proofs.PesPacketLoopLemmas.{TracksPesPackets}
use Rattle.sub_checker.proofs.RemainingBytesLemmas.{ReadsRemainingBytes}
use Rattle.sub_checker.proofs.pes_file.report_pes_packets.Given as goal

abbrev pub invariant-pes_packets : goal.invariant-pes_packets
invariant-pes_packets g l = record {
  few : l.pes ≤ max_pes_packets;
  reading : l.reader.progress ≡ Reading l.pes;
  taken : TakesPesPackets l.pes (g.P.PesPackets.remaining l.fn.source) (g.P.PesPackets.remaining
      l.source);
  failures : g.P.PesPackets.failure_count l.source ≡ g.P.PesPackets.failure_count l.fn.source;
  device : g.P.PesPackets.device l.source ≡ g.P.PesPackets.device l.fn.source;
  continues : l.reporter.fused.stopped ≡ false;
  same : l.reporter.fused.device.ghost_name ≡ l.initial.reporter.fused.device.ghost_name;
  some : ReportsSome g.A.ReportSink.is_reported l.fn.report_sink l.reporter.fused.device.now;
  keeps :
      (sent : Transmission)
      × (last : List (List ℕ))
      × BetweenPesPackets (criteria_of_judged l.fn.judging l.options None) sent last l.checker
      × (l.skipped ≡ false → last ≡ packets_of_units l.reader.frame.units);
  holds :
      g.A.Live.buffered l.fn.report_sink ≡ 0
      → BuffersOnlyWhilePending g.A.Live.has_pending_reports g.A.Live.buffered
      l.reporter.fused.device.now;
  room : AreCountsBounded l.pes l.checker.counts;
  reported :
      (pes_packets : List PesPacket) (unread : Option UnreadReason) (bytes : List ℕ)
      → g.P.PesPackets.remaining l.fn.source ≡ Some bytes
      → ReadsPesPackets (clock_of l.options) 0 bytes pes_packets unread
      → (done : List PesPacket)
      × ReadsRemainingBytes l.options bytes pes_packets unread (g.P.PesPackets.remaining l.source)
      l.pes done
      × (last : List (List ℕ))
      × TracksPesPackets (criteria_of_judged l.fn.judging l.options unread) done last l.checker
      l.reporter.relay
      × (l.skipped ≡ false → last ≡ packets_of_units l.reader.frame.units)
      × Reports g.A.ReportSink.is_reported l.fn.report_sink l.reporter.fused.device.now
      (events_of_pes_packets (criteria_of_judged l.fn.judging l.options unread) done);
}

abbrev pub decreases-pes_packets : goal.decreases-pes_packets
decreases-pes_packets g l = max_pes_packets - l.pes
