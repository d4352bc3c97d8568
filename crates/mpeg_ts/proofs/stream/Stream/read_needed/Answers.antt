-- When the next item is known, at least as many bytes as a transport packet has are buffered, and
-- no byte beyond those that determine the item was read.
use Rattle.std.proofs.Common.{◌≡◌, ◌≤◌, ◌+◌, ◌∙◌, [], ap, arith, is_ok, sym}
use Rattle.mpeg_ts.specs.PacketsInStep.{bytes_needed}
use Rattle.mpeg_ts.specs.Stream.{StreamValue}
use Rattle.mpeg_ts.specs.contracts.stream.Stream.{the_view}
use Rattle.mpeg_ts.proofs.StreamLemmas.{cut_window_outputs_nothing, window_consumes_prefix}
use Rattle.mpeg_ts.proofs.StreamLemmas.{needed_bytes_are_requested, needed_bytes_hold_packet}
use Rattle.mpeg_ts.proofs.stream.Stream.read_needed.Goals as goal

pub returns-clause-packet : goal.returns-clause-packet
returns-clause-packet g c = λ ok.
    let v = c.args.self.now in
    let near : 188 ≤ v.distance =
    omega (arith, c.self.invariant.near, ap (λ (s : StreamValue). s.distance) c.self.view_is) in
    omega (
      arith,
      c.fill_window_to.ensures.there ok,
      c.count_needed_bytes.ensures,
      needed_bytes_hold_packet v.distance v.in_step near,
    )

pub returns-clause-takes : goal.returns-clause-takes
returns-clause-takes g c =
    rw (← c.self.view_is)
    (window_consumes_prefix (g.S.Source.remaining c.args.source.now)
    (g.S.Source.remaining c.fill_window_to.new.source) (the_view c.self.inside)
    c.fill_window_to.new.self
    c.fill_window_to.ensures.takes)

pub returns-clause-cut : goal.returns-clause-cut
returns-clause-cut g c = λ failed.
    let i = c.self.inside in
    let idle : i.joining.pending ≡ [] =
    ap (λ (s : StreamValue). s.joining.pending) c.self.view_is ∙ c.requires.idle in
    let count : c.count_needed_bytes.result ≡ bytes_needed i.distance i.in_step =
    c.count_needed_bytes.ensures ∙ ap (λ (s : StreamValue). bytes_needed s.distance s.in_step)
    (sym c.self.view_is) in
    cut_window_outputs_nothing (record (the_view i) { window = c.fill_window_to.new.self })
    c.self.invariant.near idle
    (omega (arith, c.fill_window_to.ensures.cut failed, count))

pub returns-clause-requests : goal.returns-clause-requests
returns-clause-requests g c =
    let i = c.self.inside in
    let count : i.lead + c.count_needed_bytes.result ≡ i.lead + bytes_needed i.distance i.in_step =
    ap (λ n. i.lead + n) (c.count_needed_bytes.ensures
    ∙ ap (λ (s : StreamValue). bytes_needed s.distance s.in_step) (sym c.self.view_is)) in
    let idle : i.joining.pending ≡ [] =
    ap (λ (s : StreamValue). s.joining.pending) c.self.view_is ∙ c.requires.idle in
    rw (← c.self.view_is)
    (needed_bytes_are_requested g.S.Source.is_pull g.S.Source.borrowed g.S.Source.remaining
    (the_view i)
    c.fill_window_to.new.self c.args.source.now c.fill_window_to.new.source
    (is_ok c.fill_window_to.result)
    (i.lead + c.count_needed_bytes.result) c.fill_window_to.ensures.requests count
    c.self.invariant.near idle)
