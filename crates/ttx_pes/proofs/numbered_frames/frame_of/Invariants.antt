use Rattle.std.proofs.Common.{◌≡◌, ◌<◌, ◌++◌, length, drop}
use Rattle.ttx_pes.specs.LineOrder.{last_place, numbered_units, numbered_place}
use Rattle.ttx_pes.proofs.numbered_frames.frame_of.Given as goal

abbrev pub invariant-loop-i : goal.invariant-loop-i
invariant-loop-i l = record {
  pts : l.frame.pts ≡ l.initial.frame.pts;
  units : l.frame.units ++ numbered_units l.i (drop l.i l.packets) ≡ numbered_units 0 l.packets;
  few : length l.frame.units ≡ l.i;
  below : last_place 0 l.frame.units < numbered_place l.i;
}
