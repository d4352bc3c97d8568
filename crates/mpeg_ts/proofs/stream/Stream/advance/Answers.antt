-- Skipping `count` bytes drops them from the front of the unprocessed bytes.
use Rattle.mpeg_ts.specs.Stream.{StreamValue}
use Rattle.mpeg_ts.specs.contracts.stream.Stream.{the_view}
use Rattle.mpeg_ts.proofs.StreamLemmas.{advancing_moves_bytes_ahead}
use Rattle.mpeg_ts.proofs.stream.Stream.advance.Goals as goal

pub returns-clause-ahead : goal.returns-clause-ahead
returns-clause-ahead c =
    let i = c.self.inside in
    let moved : StreamValue = record {
      number = i.number;
      distance = i.distance;
      window = c.advance-self-inside.new.self;
      lead = c.advance-self-inside.result;
      in_step = i.in_step;
      run = i.run;
      joining = i.joining;
    } in
    rw (← c.self.view_is) (λ bytes.
    advancing_moves_bytes_ahead (the_view i) moved c.args.count bytes
    c.advance-self-inside.ensures.buffered
    c.advance-self-inside.ensures.left c.advance-self-inside.ensures.rest)
