-- In `left`, each code that was expected in its cell in the frames from `at` to `frame` is replaced
-- by a space.
use Rattle.std.proofs.Common.{◌+◌, ◌-◌, ◌≤◌}
use Rattle.sub_packets.specs.UnexpectedCodes.{LacksDueCodes}
use Rattle.sub_plan.specs.Schedule.{due_page_in}
use Rattle.sub_packets.proofs.unexpected.page_without_due_codes.Given as goal

abbrev pub invariant-loop-before : goal.invariant-loop-before
invariant-loop-before l = record {
  until : l.at ≤ l.frame;
  reach : l.frame ≤ l.at + l.within;
  left : LacksDueCodes (due_page_in l.programme) l.first l.frame (l.frame - l.at) l.shown l.left;
}

abbrev pub decreases-loop-before : goal.decreases-loop-before
decreases-loop-before l = l.at
