-- Skipping bytes of a buffered source drops bytes from the front of its buffer.
use Rattle.std.proofs.Common.{◌+◌, ◌≤◌, length, slice_range, refl, arith}
use Rattle.sub_io.proofs.BufferLemmas.{buffered_range_length, skipping_drops_buffered_prefix}
use Rattle.sub_io.proofs.BufferLemmas.{later_range_drops_prefix}
use Rattle.sub_io.proofs.BufferLemmas.{reading_buffered_keeps_device}
use Rattle.sub_io.proofs.buffered_source.BufferedSourceSource.skip_bytes.Goals as goal

pub returns-then-self-count-clause-buffered : goal.returns-then-self-count-clause-buffered
returns-then-self-count-clause-buffered g c =
    let here = c.self.inside in
    let long = buffered_range_length here.room.now here.start here.end c.self.invariant.0
    c.self.invariant.1
    in
    rw (← c.self.view_is)
    (λ e. absurd cc, λ le. absurd (omega (arith, c.if-self-count.true, long, le)))

pub returns-clause-buffered : goal.returns-clause-buffered
returns-clause-buffered g c =
    let here = c.self.inside in
    let long = buffered_range_length here.room.now here.start here.end c.self.invariant.0
    c.self.invariant.1
    in
    let le : c.args.count ≤ length (slice_range here.room.now here.start here.end) =
    omega (arith, c.if-self-count.false, long) in
    rw (← c.self.view_is) (λ _. le, λ _. refl)

pub returns-clause-skipped : goal.returns-clause-skipped
returns-clause-skipped g c =
    let here = c.self.inside in
    let within : here.start + c.args.count ≤ here.end =
    omega (arith, c.if-self-count.false, c.self.invariant.0) in
    rw (← c.self.view_is)
    (λ _. (
      later_range_drops_prefix here.room.now here.start here.end c.args.count within,
      refl,
      refl,
    ))

pub returns-clause-call : goal.returns-clause-call
returns-clause-call g c =
    let here = c.self.inside in
    let long = buffered_range_length here.room.now here.start here.end c.self.invariant.0
    c.self.invariant.1
    in
    let le : c.args.count ≤ length (slice_range here.room.now here.start here.end) =
    omega (arith, c.if-self-count.false, long) in
    rw (← c.self.view_is)
    (λ _. reading_buffered_keeps_device g.S.Source.is_pull _ _ c.args.count c.requires.some le refl)

pub returns-clause-bytes : goal.returns-clause-bytes
returns-clause-bytes g c =
    let here = c.self.inside in
    let long = buffered_range_length here.room.now here.start here.end c.self.invariant.0
    c.self.invariant.1
    in
    let le : c.args.count ≤ length (slice_range here.room.now here.start here.end) =
    omega (arith, c.if-self-count.false, long) in
    let within : here.start + c.args.count ≤ here.end =
    omega (arith, c.if-self-count.false, c.self.invariant.0) in
    rw (← c.self.view_is)
    (λ _. skipping_drops_buffered_prefix (g.S.Source.remaining here.inner) _ _ c.args.count le
    (later_range_drops_prefix here.room.now here.start here.end c.args.count within))
