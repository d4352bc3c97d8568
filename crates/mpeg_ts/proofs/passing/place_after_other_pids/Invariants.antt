-- In each iteration of `place_after_other_pids`, skipping the transport packets so far, which have
-- other PIDs, does not change the output.
use Rattle.std.proofs.Common.{◌≡◌, ◌≤◌, ◌-◌, List, [], ◌++◌, ℕ, drop, length, take, true, false}
use Rattle.mpeg_ts.specs.Joining.{JoiningValue, has_ended}
use Rattle.mpeg_ts.specs.Stream.{stream_output}
use Rattle.mpeg_ts.proofs.passing.place_after_other_pids.Given as goal

abbrev pub invariant-loop-at : goal.invariant-loop-at
invariant-loop-at l = record {
  from : l.from ≤ l.at;
  within : l.at ≤ length l.bytes;
  gives :
      (rest : List ℕ) (joining : JoiningValue)
      → has_ended joining.part ≡ false
      → joining.pending ≡ []
      → stream_output l.distance l.number 0 true joining rest
      ≡ stream_output l.distance l.number 0 true joining
      (drop l.from (take l.at l.bytes ++ rest));
}

abbrev pub decreases-loop-at : goal.decreases-loop-at
decreases-loop-at l = length l.bytes - l.at
