-- Loop invariant of `listen_pes_packets`: after n PES packets, the receiver has received exactly
-- those of their packets that arrive and that it uses.
use Rattle.std.proofs.Common.{◌≡◌, ◌*◌, ◌-◌, ◌≤◌, ℕ, List, Option, Some}
use Rattle.ttx_page.specs.Screen.{display}
use Rattle.ttx_pes.specs.PesGrammar.{max_units}
use Rattle.ttx_pes.specs.Reader.{TakesValidPesPackets}
use Rattle.ttx_pes.specs.Reading.{max_pes_packets}
use Rattle.ttx_pes.specs.declared.progress.Progress.TheVariants.{Reading}
use Rattle.stl_file.specs.TimeCode.{day}
use Rattle.sub_plan.specs.FrameTime.{clock_of}
use Rattle.sub_rules.specs.FrameRules.{UnreadReason}
use Rattle.sub_rules.specs.PesReading.{ReadsAs}
use Rattle.sub_rules.specs.Transmission.{Transmission}
use Rattle.sub_listen.proofs.ListenResultLemmas.{ReachesPesPacket}
use Rattle.sub_listen.proofs.listening.listen_pes_packets.Given as goal

abbrev pub invariant-packets : goal.invariant-packets
invariant-packets g l = record {
  reading : l.reader.progress ≡ Reading l.index;
  packet_count_is_bounded : l.index ≤ max_pes_packets;
  taken : TakesValidPesPackets l.index (g.P.PesPackets.remaining l.fn.pes)
      (g.P.PesPackets.remaining l.pes);
  failures : g.P.PesPackets.failure_count l.pes ≡ g.P.PesPackets.failure_count l.fn.pes;
  device : g.P.PesPackets.device l.pes ≡ g.P.PesPackets.device l.fn.pes;
  tuned : g.R.Receiver.tuned_to l.receiver ≡ g.R.Receiver.tuned_to l.fn.receiver;
  few : l.number ≤ max_units * l.index;
  sent_count_is_bounded : l.sent ≤ max_units * l.index;
  day : l.least ≤ day;
  reported :
      (frames : Transmission) (unread : Option UnreadReason) (bytes : List ℕ)
      → g.P.PesPackets.remaining l.fn.pes ≡ Some bytes
      → ReadsAs (clock_of l.listening.options) 0 bytes frames unread
      → ReachesPesPacket g.R.Receiver.leaves l.listening frames unread
      (g.R.Receiver.tuned_to l.fn.receiver)
      (display (g.R.Receiver.state l.fn.receiver) l.fn.screen) (g.P.PesPackets.remaining l.pes)
      l.index l.number l.sent l.least (display (g.R.Receiver.state l.receiver) l.screen);
}

abbrev pub decreases-packets : goal.decreases-packets
decreases-packets g l = max_pes_packets - l.index
