-- Loop invariant of `codes_of_text`: parsing the rest of the text into the empty places gives the
-- result for the whole text.
use Rattle.std.proofs.Common.{◌≡◌, ◌-◌, ◌≤◌, length, drop}
use Rattle.stl_rows.specs.LayoutText.{places_with_codes, codes_of_text}
use Rattle.stl_rows.proofs.layout_text.codes_of_text.Given as goal

abbrev pub invariant-loop-at : goal.invariant-loop-at
invariant-loop-at g l = record {
  within : l.at ≤ length l.text;
  few : l.filled ≤ g.row.N;
  places : length l.places ≡ g.row.N;
  reported : places_with_codes l.places l.filled (drop l.at l.text) ≡ codes_of_text g.row.N l.text;
}

abbrev pub decreases-loop-at : goal.decreases-loop-at
decreases-loop-at g l = length l.text - l.at
