-- Processing packets in the source's buffer does not change the output still to be returned.
use Rattle.std.proofs.Common.{◌≡◌, ◌+◌, ◌-◌, ◌≤◌, [], length, true, false}
use Rattle.std.proofs.Common.{ap, sym, ◌∙◌, arith, length-take-le, refl, rules}
use Rattle.std.proofs.lemmas.List.{nil_from_length}
use Rattle.mpeg_ts.specs.Joining.{JoiningValue, has_ended}
use Rattle.mpeg_ts.specs.Stream.{StreamValue}
use Rattle.mpeg_ts.specs.Window.{WindowValue}
use Rattle.mpeg_ts.specs.contracts.stream.Stream.{the_view}
use Rattle.mpeg_ts.proofs.StreamLemmas.{skipping_borrowed_is_valid, borrowed_count_is_available}
use Rattle.mpeg_ts.proofs.StreamLemmas.{other_units_change_no_output}
use Rattle.mpeg_ts.proofs.StreamLemmas.{borrowed_packet_is_output}
use Rattle.mpeg_ts.proofs.StreamLemmas.{packet_of_pid_is_noted}
use Rattle.mpeg_ts.proofs.stream.Stream.take_borrowed.Goals as goal

pub returns-then-not-is_unit_of_pid-clause-kept : goal.returns-then-not-is_unit_of_pid-clause-kept
returns-then-not-is_unit_of_pid-clause-kept g c =
    let i = c.self.inside in
    let v : StreamValue = the_view i in
    let w : StreamValue = record v {
      window = c.count_skipped_bytes.new.self;
      lead = 0;
    }
    in
    let borrowed = c.buffered-borrowed.result.now in
    let place = c.place_after_other_pids-place.result in
    let fits = c.place_after_other_pids-place.ensures.within in
    let step : i.in_step ≡ true = search rules in
    let skipped : c.skip_bytes.result ≡ true = search rules in
    let within : length borrowed ≤ i.window.left = omega arith in
    let none : i.window.buffered ≡ [] = nil_from_length i.window.buffered (omega arith) in
    let not_ended : has_ended i.joining.part ≡ false =
    ap (λ (s : StreamValue). has_ended s.joining.part) c.self.view_is ∙ c.requires.not_ended in
    let idle : i.joining.pending ≡ [] =
    ap (λ (s : StreamValue). s.joining.pending) c.self.view_is ∙ c.requires.idle in
    rw (← c.self.view_is)
    (skipping_borrowed_is_valid g.S.Source.is_pull g.S.Source.borrowed g.S.Source.remaining v w
    c.args.source.now c.skip_bytes.new.self borrowed place c.buffered-borrowed.ensures.bytes
    c.buffered-borrowed.ensures.borrowed fits (c.skip_bytes.ensures.call skipped)
    (c.skip_bytes.ensures.bytes skipped)
    (λ bytes. other_units_change_no_output v w _ bytes place (length-take-le place borrowed fits)
    none
    (omega (arith, fits, within)) step (c.self.invariant.no_run_in_step step)
    (λ rest. c.place_after_other_pids-place.ensures.gives rest i.joining not_ended idle)
    (ap (λ (u : WindowValue). record v { window = u; lead = 0 })
    c.count_skipped_bytes.ensures)))

pub returns-clause-kept : goal.returns-clause-kept
returns-clause-kept g c =
    let i = c.self.inside in
    let v : StreamValue = the_view i in
    let packet = c.packet_at_offset.result.now in
    let borrowed = c.buffered-borrowed.result.now in
    let place = c.place_after_other_pids-place.result in
    let count = place + i.distance in
    let step : i.in_step ≡ true = search rules in
    let unit : c.is_unit_of_pid.result ≡ true = search rules in
    let fits : count ≤ length borrowed = c.is_unit_of_pid.ensures.fits unit in
    let mine = c.is_unit_of_pid.ensures.packet unit in
    let within : length borrowed ≤ i.window.left = omega arith in
    let skipped : c.skip_bytes-2.result ≡ true = c.skip_bytes-2.ensures.whole
    (borrowed_count_is_available borrowed (g.S.Source.borrowed c.args.source.now) count
    c.buffered-borrowed.ensures.borrowed fits) in
    let none : i.window.buffered ≡ [] = nil_from_length i.window.buffered (omega arith) in
    let not_ended : has_ended i.joining.part ≡ false =
    ap (λ (s : StreamValue). has_ended s.joining.part) c.self.view_is ∙ c.requires.not_ended in
    let idle : i.joining.pending ≡ [] =
    ap (λ (s : StreamValue). s.joining.pending) c.self.view_is ∙ c.requires.idle in
    let w : StreamValue = record v {
      window = c.count_skipped_bytes-2.new.self;
      lead = 0;
      joining = c.take_packet.new.self;
    } in
    let joined_output =
    ap (λ (u : WindowValue). record v {
      window = u;
      lead = 0;
      joining = c.take_packet.new.self;
    }) c.count_skipped_bytes-2.ensures
    ∙ ap (λ (j : JoiningValue). record v {
      window = record v.window { left = v.window.left - count };
      lead = 0;
      joining = j;
    }) (c.take_packet.ensures
    ∙ sym (packet_of_pid_is_noted i.number packet i.joining
    (rw c.packet_at_offset.ensures mine.1)))
    in
    rw (← c.self.view_is)
    (skipping_borrowed_is_valid g.S.Source.is_pull g.S.Source.borrowed g.S.Source.remaining v w
    c.args.source.now c.skip_bytes-2.new.self borrowed count c.buffered-borrowed.ensures.bytes
    c.buffered-borrowed.ensures.borrowed fits (c.skip_bytes-2.ensures.call skipped)
    (c.skip_bytes-2.ensures.bytes skipped)
    (λ bytes. borrowed_packet_is_output v w borrowed packet bytes place count refl fits none
    (omega (arith, fits, within)) step (c.self.invariant.no_run_in_step step) c.self.invariant.near
    c.packet_at_offset.ensures (rw c.packet_at_offset.ensures mine.0) not_ended idle
    (λ rest. c.place_after_other_pids-place.ensures.gives rest i.joining not_ended idle)
    joined_output))
