-- After each iteration of `append_unit_places`, the units found so far and the units of the
-- remaining data units are all units of the data field.
use Rattle.std.proofs.Common.{◌≡◌, ◌≤◌, ◌<◌, ◌+◌, ◌-◌, ◌*◌, ◌++◌, [], length, drop}
use Rattle.ttx_pes.specs.LineOrder.{last_place}
use Rattle.ttx_pes.specs.Reading.{units_at}
use Rattle.ttx_pes.specs.SentUnits.{EndWithinField, sent_units}
use Rattle.ttx_pes.specs.Accepting.{teletext_places}
use Rattle.ttx_pes.proofs.unit_places.append_unit_places.Given as goal

abbrev pub invariant-loop-k : goal.invariant-loop-k
invariant-loop-k l = record {
  few : length l.places ≤ l.k;
  within : EndWithinField (length l.field) l.places;
  placed : l.places ++ teletext_places (l.count - l.k) (1 + 46 * l.k) l.field
      ≡ teletext_places l.count 1 l.field;
  last : l.last ≡ last_place 0 (sent_units l.field l.places);
  small : l.last < 64;
  same : units_at (l.count - l.k) (sent_units l.field l.places) (drop (1 + 46 * l.k) l.field)
      ≡ units_at l.count [] (drop 1 l.field);
}
