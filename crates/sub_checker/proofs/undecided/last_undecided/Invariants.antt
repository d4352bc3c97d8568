-- The expected page is known from the frame that was examined last up to the current frame.
use Rattle.std.proofs.Common.{◌≡◌, ℕ, ◌≤◌, false}
use Rattle.stl_rows.specs.Judged.{is_undecided_in}
use Rattle.sub_checker.proofs.undecided.last_undecided.Given as goal

abbrev pub invariant-loop-before : goal.invariant-loop-before
invariant-loop-before l = record {
  until : l.at ≤ l.frame;
  known : (f : ℕ) → l.at ≤ f → f ≤ l.frame → is_undecided_in l.judging f ≡ false;
}

abbrev pub decreases-loop-before : goal.decreases-loop-before
decreases-loop-before l = l.at
