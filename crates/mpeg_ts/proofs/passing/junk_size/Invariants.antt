-- In each iteration of `junk_size`, skipping the bytes so far, none of which is a sync byte, does
-- not change the output if reading is out of step and these bytes complete no loss.
use Rattle.std.proofs.Common.{◌≡◌, ◌≤◌, ◌-◌, ◌+◌, ◌<◌, List, [], ◌++◌, ℕ, length, take, false}
use Rattle.mpeg_ts.specs.GoodPackets.{loss_size}
use Rattle.mpeg_ts.specs.Joining.{JoiningValue, has_ended}
use Rattle.mpeg_ts.specs.Stream.{stream_output}
use Rattle.mpeg_ts.proofs.passing.junk_size.Given as goal

abbrev pub invariant-loop-at : goal.invariant-loop-at
invariant-loop-at l = record {
  within : l.at ≤ length l.bytes;
  gives :
      (distance number run : ℕ) (joining : JoiningValue) (rest : List ℕ)
      → 188 ≤ distance
      → (run < loss_size distance → run + l.at < loss_size distance)
      → has_ended joining.part ≡ false
      → joining.pending ≡ []
      → stream_output distance number (run + l.at) false joining rest
      ≡ stream_output distance number run false joining (take l.at l.bytes ++ rest);
}

abbrev pub decreases-loop-at : goal.decreases-loop-at
decreases-loop-at l = length l.bytes - l.at
