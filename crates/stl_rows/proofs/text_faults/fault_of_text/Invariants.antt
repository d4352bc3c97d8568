-- Loop invariant of `fault_of_text`: the first fault of the remaining text codes is the first fault
-- of the whole text.
use Rattle.std.proofs.Common.{◌≡◌, ◌+◌, ◌-◌, ◌≤◌, None, false, length, drop}
use Rattle.stl_rows.specs.LineByLine.{empty_line, first_fault_of_codes}
use Rattle.stl_rows.specs.TextCode.{text_codes}
use Rattle.stl_rows.proofs.text_faults.fault_of_text.Given as goal

abbrev pub invariant-loop-at : goal.invariant-loop-at
invariant-loop-at l = record {
  within : l.at ≤ length l.text;
  numbers : l.line.number ≤ l.at;
  rows : l.line.row ≤ l.vp + l.at;
  cells : l.line.len ≤ l.at;
  first_fault_of_codes :
      first_fault_of_codes l.fault l.line (text_codes l.national l.at (drop l.at l.text))
      ≡ first_fault_of_codes None (empty_line 0 l.vp false) (text_codes l.national 0 l.text);
}

abbrev pub decreases-loop-at : goal.decreases-loop-at
decreases-loop-at l = length l.text - l.at
