-- Loop invariant of `send_steps`, at each frame: one PES packet with the same Teletext packets has
-- been written for each earlier frame with a page transmission.
use Rattle.std.proofs.Common.{◌≡◌, ◌-◌, ◌<◌, ◌≤◌}
use Rattle.ttx_pes.specs.LineOrder.{numbered_units}
use Rattle.sub_plan.specs.Steps.{pes_packet_bytes_at, steps}
use Rattle.sub_plan.proofs.PartLemmas.{IsPartWritten}
use Rattle.sub_plan.proofs.scheduling.send_steps.Given as goal

abbrev pub invariant-loop-frame : goal.invariant-loop-frame
invariant-loop-frame g l = record {
  low : l.from ≤ l.frame;
  few : l.count ≤ l.end - l.from;
  fewer : l.frame < l.end → l.count ≤ l.frame - l.from;
  units : l.packet.units ≡ numbered_units 0 l.packets;
  failures : g.K.Sink.failure_count l.sink ≡ g.K.Sink.failure_count l.initial.sink;
  part :
      IsPartWritten (g.K.Sink.contents l.initial.sink) (g.K.Sink.contents l.sink)
      (pes_packet_bytes_at l.options.origin l.packets) l.count
      (steps l.options.every l.frame l.end)
      (steps l.options.every l.from l.end);
}

abbrev pub decreases-loop-frame : goal.decreases-loop-frame
decreases-loop-frame g l = l.end - l.frame
