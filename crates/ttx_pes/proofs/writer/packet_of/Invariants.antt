use Rattle.std.proofs.Common.{◌≡◌, ◌+◌, ◌*◌, ◌++◌, ◌-◌, length, take}
use Rattle.std.specs.List.{flat_map}
use Rattle.ttx_pes.specs.DataUnit.{teletext_unit, stuffing_unit}
use Rattle.ttx_pes.specs.PesGrammar.{repeated}
use Rattle.ttx_pes.proofs.writer.packet_of.Given as goal

abbrev pub invariant-loop-unit : goal.invariant-loop-unit
invariant-loop-unit l = record {
  len : length l.out.items ≡ 46 + 46 * l.unit-index;
  items : l.out.items ≡ l.initial.out.items ++ flat_map teletext_unit (take l.unit-index l.units);
}

abbrev pub invariant-loop : goal.invariant-loop
invariant-loop l = record {
  len : length l.out.items ≡ length l.initial.out.items + 46 * l.counter;
  items : l.out.items ++ repeated (l.end - l.counter) stuffing_unit
      ≡ l.initial.out.items ++ repeated l.end stuffing_unit;
}
