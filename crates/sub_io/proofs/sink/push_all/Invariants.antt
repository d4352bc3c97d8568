-- After each iteration of `push_all`, the first `at` bytes are written, and no push has failed.
use Rattle.std.proofs.Common.{length, ◌-◌, ◌≡◌, ◌≤◌, Bool, drop, take}
use Rattle.std.specs.Io.KnownBytes.{Appends}
use Rattle.sub_io.specs.Calls.{PutsByPushes}
use Rattle.sub_io.proofs.sink.push_all.Given as goal

abbrev pub invariant-loop-at : goal.invariant-loop-at
invariant-loop-at g l = record {
  bound : l.at ≤ length l.from;
  bytes : Appends (g.K.Sink.contents l.initial.sink) (g.K.Sink.contents l.sink) (take l.at l.from);
  calls :
      (ok : Bool) (end : g.row.K.Denot)
      → PutsByPushes g.K.Sink.is_push l.sink (drop l.at l.from) ok end
      → PutsByPushes g.K.Sink.is_push l.initial.sink l.from ok end;
  count : g.K.Sink.failure_count l.sink ≡ g.K.Sink.failure_count l.initial.sink;
}

abbrev pub decreases-loop-at : goal.decreases-loop-at
decreases-loop-at g l = length l.from - l.at
