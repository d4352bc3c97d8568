use Rattle.std.proofs.Common.{◌≡◌, ◌≤◌, ◌+◌, ◌-◌, ◌*◌, length}
use Rattle.ttx_pes.specs.Reading.{units_at}
use Rattle.ttx_pes.proofs.data_unit.append_units_from_blocks.Given as goal

abbrev pub invariant-loop : goal.invariant-loop
invariant-loop l = record {
  room : length l.frame.units + (l.count - l.counter) ≤ 35;
  blocks : length l.rest ≡ 46 * (l.count - l.counter);
  pts : l.frame.pts ≡ l.initial.frame.pts;
  same : units_at (l.count - l.counter) l.frame.units l.rest ≡ units_at l.count
      l.initial.frame.units l.blocks;
}
