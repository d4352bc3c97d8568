-- In each iteration of `fill_window_to`, the number of buffered bytes plus the number of bytes that
-- may still be read stays the same, and no pull has failed.
use Rattle.std.proofs.Common.{length, true, ◌+◌, ◌-◌, ◌≡◌, ◌≤◌}
use Rattle.mpeg_ts.specs.ConsumedStreamBytes.{TakesPrefix}
use Rattle.mpeg_ts.specs.Window.{RequestsUpTo, buffered_and_left}
use Rattle.mpeg_ts.proofs.window.Window.fill_window_to.Given as goal

abbrev pub invariant-loop-buffered_count : goal.invariant-loop-buffered_count
invariant-loop-buffered_count g l = record {
  buffered_count : l.buffered_count ≡ length l.self.buffered;
  takes :
      TakesPrefix (buffered_and_left l.initial.self) (buffered_and_left l.self)
      (g.S.Source.remaining l.initial.source) (g.S.Source.remaining l.source);
  sum :
      length l.self.buffered + l.self.left
      ≡ length l.initial.self.buffered + l.initial.self.left;
  grows : length l.initial.self.buffered ≤ length l.self.buffered;
  requests :
      RequestsUpTo g.S.Source.is_pull g.S.Source.borrowed g.S.Source.remaining l.count
      l.initial.self l.initial.source true l.self l.source;
  count : g.S.Source.failure_count l.source ≡ g.S.Source.failure_count l.initial.source;
}

abbrev pub decreases-loop-buffered_count : goal.decreases-loop-buffered_count
decreases-loop-buffered_count g l = l.count - l.buffered_count
