-- In each iteration of `next_packet_start`, all bytes so far belong to no packet.
use Rattle.std.proofs.Common.{◌≡◌, ◌-◌, List, ◌++◌, ℕ, drop, false, replicate}
use Rattle.mpeg_ts.specs.PacketsInStep.{Skipped}
use Rattle.ts_survey.specs.InStep.{items_from}
use Rattle.ts_survey.proofs.packets_in_step.next_packet_start.Given as goal

abbrev pub invariant-loop-start : goal.invariant-loop-start
invariant-loop-start l =
    (more : List ℕ)
    → items_from l.distance false (drop l.place (l.bytes ++ more))
    ≡ replicate (l.start - l.place) Skipped
    ++ items_from l.distance false (drop l.start (l.bytes ++ more))
