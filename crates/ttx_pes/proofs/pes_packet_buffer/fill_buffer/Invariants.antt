-- After each iteration of `fill_buffer`, the bytes read so far follow the bytes that were in the
-- buffer before, and no pull has failed.
use Rattle.std.proofs.Common.{◌+◌, ◌-◌, ◌≡◌, ◌≤◌, ◌++◌, length, take}
use Rattle.std.specs.Io.KnownBytes.{Consumes, prepend_known}
use Rattle.ttx_pes.proofs.pes_packet_buffer.fill_buffer.Given as goal

abbrev pub invariant-loop-at : goal.invariant-loop-at
invariant-loop-at g l = record {
  from : l.buffered ≤ l.at;
  bound : l.buffered ≤ l.most → l.at ≤ l.most;
  none : l.least ≤ l.buffered → l.at ≡ l.buffered;
  room : l.at ≤ length l.room;
  size : length l.room ≡ length l.initial.room;
  kept : take l.buffered l.room ≡ take l.buffered l.initial.room;
  bytes : Consumes
      (prepend_known (take l.buffered l.initial.room) (g.S.Source.remaining l.initial.source))
      (g.S.Source.remaining l.source) (take l.at l.room);
  borrowed :
      l.least ≤ l.buffered + length (g.S.Source.borrowed l.initial.source)
      → take l.buffered l.initial.room ++ g.S.Source.borrowed l.initial.source
      ≡ take l.at l.room ++ g.S.Source.borrowed l.source;
  count : g.S.Source.failure_count l.source ≡ g.S.Source.failure_count l.initial.source;
}

abbrev pub decreases-loop-at : goal.decreases-loop-at
decreases-loop-at g l = l.least - l.at
