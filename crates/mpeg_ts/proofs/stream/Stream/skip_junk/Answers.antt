-- Skipping bytes that contain no packet does not change the output still to be returned.
use Rattle.std.proofs.Common.{◌≡◌, ◌≤◌, ◌+◌, ◌<◌, ◌++◌, ℕ, List, [], length, take, refl, ap, sym}
use Rattle.std.proofs.Common.{◌∙◌, arith, false, rules, subst}
use Rattle.mpeg_ts.specs.GoodPackets.{loss_size}
use Rattle.mpeg_ts.specs.Joining.{has_ended}
use Rattle.mpeg_ts.specs.Stream.{StreamValue, stream_output}
use Rattle.mpeg_ts.specs.contracts.stream.Stream.{the_view}
use Rattle.mpeg_ts.proofs.StreamLemmas.{junk_changes_no_output}
use Rattle.mpeg_ts.proofs.stream.Stream.skip_junk.Goals as goal

pub returns-clause-gives : goal.returns-clause-gives
returns-clause-gives c = λ bytes.
    let i = c.self.inside in
    let v : StreamValue = the_view i in
    let count = c.junk_size-count.result in
    let w : StreamValue = record v {
      window = c.advance-self-inside.new.self;
      lead = c.advance-self-inside.result;
      run = v.run + count;
    } in
    let within : count ≤ length v.window.buffered =
    omega (
      arith,
      c.junk_size-count.ensures.within,
      ap (λ (l : List ℕ). length l) c.buffered.ensures.buffered,
    ) in
    let step : i.in_step ≡ false =
    ap (λ (s : StreamValue). s.in_step) c.self.view_is ∙ c.requires.out in
    let not_ended : has_ended i.joining.part ≡ false =
    ap (λ (s : StreamValue). has_ended s.joining.part) c.self.view_is ∙ c.requires.not_ended in
    let idle : i.joining.pending ≡ [] =
    ap (λ (s : StreamValue). s.joining.pending) c.self.view_is ∙ c.requires.idle in
    let room : i.run < loss_size i.distance → i.run + count < loss_size i.distance =
    subst (λ (s : StreamValue). s.run < loss_size s.distance → s.run + count < loss_size s.distance)
    (sym c.self.view_is) (c.may_complete_loss.ensures (search rules)) in
    rw (← c.self.view_is)
    (junk_changes_no_output v w count bytes within step (c.self.invariant.no_lead_out_of_step
    step)
    refl refl refl refl refl c.advance-self-inside.ensures.rest
    c.advance-self-inside.ensures.buffered c.advance-self-inside.ensures.left
    (λ rest. c.junk_size-count.ensures.gives i.distance i.number i.run i.joining rest
    c.self.invariant.near room not_ended idle
    ∙ ap (λ (l : List ℕ). stream_output i.distance i.number i.run false i.joining
    (take count l ++ rest)) c.buffered.ensures.buffered))
