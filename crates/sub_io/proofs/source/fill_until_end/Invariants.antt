-- After each iteration of `fill_until_end`, the buffer begins with the bytes read so far, and no
-- pull has failed.
use Rattle.std.proofs.Common.{length, ◌-◌, ◌≡◌, ◌≤◌, Bool, take}
use Rattle.std.specs.Io.KnownBytes.{Consumes}
use Rattle.sub_io.specs.Calls.{FillsByPulls}
use Rattle.sub_io.proofs.source.fill_until_end.Given as goal

abbrev pub invariant-loop-at : goal.invariant-loop-at
invariant-loop-at g l = record {
  bound : l.at ≤ length l.to;
  bytes : Consumes
      (g.S.Source.remaining l.initial.source) (g.S.Source.remaining l.source) (take l.at l.to);
  calls :
      (ok : Bool) (end : g.row.S.Denot)
      → FillsByPulls g.S.Source.is_pull l.source (length l.initial.to - l.at) ok end
      → FillsByPulls g.S.Source.is_pull l.initial.source (length l.initial.to) ok end;
  count : g.S.Source.failure_count l.source ≡ g.S.Source.failure_count l.initial.source;
}

abbrev pub decreases-loop-at : goal.decreases-loop-at
decreases-loop-at g l = length l.initial.to - l.at
