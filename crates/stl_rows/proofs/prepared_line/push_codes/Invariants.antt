-- Loop invariant of `push_codes`: the codes added so far, followed by the remaining codes, are all
-- codes of the list.
use Rattle.std.proofs.Common.{◌≡◌, ◌+◌, ◌≤◌, ◌++◌, length, drop}
use Rattle.stl_rows.specs.Layout.{codes_of_places}
use Rattle.stl_rows.proofs.prepared_line.push_codes.Given as goal

abbrev pub invariant-loop-code : goal.invariant-loop-code
invariant-loop-code l = record {
  few : length l.line.items ≤ length l.fn.line.items + l.code-index;
  all :
      l.line.items ++ codes_of_places (drop l.code-index l.codes)
      ≡ l.fn.line.items ++ codes_of_places l.codes;
}
