-- In each iteration of `read_more`, the output still to be returned is the same, and no pull has
-- failed.
use Rattle.std.proofs.Common.{◌≡◌, true}
use Rattle.sub_io.specs.Requesting.{Requests}
use Rattle.mpeg_ts.specs.Stream.{bytes_at_most, output_of, has_output}
use Rattle.mpeg_ts.specs.ConsumedStreamBytes.{TakesPrefix}
use Rattle.mpeg_ts.proofs.stream.Stream.read_more.Given as goal

abbrev pub invariant-loop-self : goal.invariant-loop-self
invariant-loop-self g l = record {
  takes :
      TakesPrefix (output_of l.initial.self) (output_of l.self)
      (g.S.Source.remaining l.initial.source) (g.S.Source.remaining l.source);
  requests :
      Requests g.S.Source.is_pull g.S.Source.borrowed g.S.Source.remaining
      (has_output l.initial.self) l.initial.source true (has_output l.self) l.source;
  count : g.S.Source.failure_count l.source ≡ g.S.Source.failure_count l.initial.source;
}

abbrev pub decreases-loop-self : goal.decreases-loop-self
decreases-loop-self g l = bytes_at_most l.self
