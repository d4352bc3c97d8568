-- Loop invariant of `stripped_of_text`: parsing the rest of the text, with the bytes so far, gives
-- the result for the whole text.
use Rattle.std.proofs.Common.{◌≡◌, ◌-◌, ◌≤◌, false, length, drop, replicate}
use Rattle.stl_rows.specs.LayoutText.{strip_with_bytes}
use Rattle.stl_rows.proofs.layout_text.stripped_of_text.Given as goal

abbrev pub invariant-loop-at : goal.invariant-loop-at
invariant-loop-at l = record {
  within : l.at ≤ length l.text;
  strip : length l.strip ≡ 32;
  reported :
      strip_with_bytes l.strip (drop l.at l.text) ≡ strip_with_bytes (replicate 32 false) l.text;
}

abbrev pub decreases-loop-at : goal.decreases-loop-at
decreases-loop-at l = length l.text - l.at
