-- Skipping a byte that belongs to no packet does not change the output still to be returned.
use Rattle.std.proofs.Common.{◌≡◌, ◌≤◌, ◌+◌, ℕ, drop, refl, ap, ◌∙◌, arith, false}
use Rattle.mpeg_ts.specs.Stream.{StreamValue, after_skipped, bytes_ahead}
use Rattle.mpeg_ts.proofs.StreamLemmas.{skipping_advances_stream}
use Rattle.mpeg_ts.proofs.stream.Stream.skip.Goals as goal

pub returns-clause-gives : goal.returns-clause-gives
returns-clause-gives c = λ b skips.
    let v = c.args.self.now in
    let i = c.self.inside in
    let joined_output = c.join_skipped.ensures in
    let same = c.self.view_is ∙ c.advance.ensures.same in
    let w : StreamValue = record {
      number = i.number;
      distance = i.distance;
      window = i.window;
      lead = i.lead;
      in_step = false;
      run = i.run + 1;
      joining = i.joining;
    } in
    let distance : i.distance ≡ v.distance =
    ap (λ (s : StreamValue). s.distance) same ∙ ap (λ (s : StreamValue). s.distance) joined_output
    in
    let number : i.number ≡ v.number =
    ap (λ (s : StreamValue). s.number) same ∙ ap (λ (s : StreamValue). s.number) joined_output in
    let run : i.run ≡ v.run =
    ap (λ (s : StreamValue). s.run) same ∙ ap (λ (s : StreamValue). s.run) joined_output in
    let joining : i.joining ≡ after_skipped v.distance v.run v.joining =
    ap (λ (s : StreamValue). s.joining) same ∙ ap (λ (s : StreamValue). s.joining) joined_output in
    let near : 188 ≤ v.distance = omega (arith, c.self.invariant.near, distance) in
    skipping_advances_stream v w b near c.requires.there c.requires.not_ended c.requires.idle
    distance number
    (ap (λ (n : ℕ). n + 1) run) refl joining
    (ap (λ (s : StreamValue). bytes_ahead s b) c.self.view_is
    ∙ c.advance.ensures.ahead b
    ∙ ap (λ (s : StreamValue). drop 1 (bytes_ahead s b)) joined_output) skips
