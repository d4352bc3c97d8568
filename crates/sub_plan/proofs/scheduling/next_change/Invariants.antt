-- Loop invariant of `next_change`: the expected page has not changed up to the current cue.
use Rattle.std.proofs.Common.{◌≡◌, ℕ, ◌-◌, ◌<◌, ◌≤◌}
use Rattle.sub_plan.specs.Schedule.{due_page_in}
use Rattle.sub_plan.proofs.scheduling.next_change.Given as goal

abbrev pub invariant-loop-edge : goal.invariant-loop-edge
invariant-loop-edge l = record {
  low : l.frame ≤ l.at;
  high : l.at < l.last;
  same : (f : ℕ) → l.frame ≤ f → f ≤ l.at → due_page_in l.programme f ≡ due_page_in l.programme
      l.frame;
}

abbrev pub decreases-loop-edge : goal.decreases-loop-edge
decreases-loop-edge l = l.last - l.at
