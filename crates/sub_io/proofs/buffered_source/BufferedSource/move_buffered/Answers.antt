-- `move_buffered` copies the first buffered bytes to the caller's slice; the other bytes stay
-- buffered.
use Rattle.std.proofs.Common.{◌≡◌, ◌+◌, length, take, slice_range, ap, ◌∙◌, arith, length-take}
use Rattle.sub_io.proofs.BufferLemmas.{buffered-split}
use Rattle.sub_io.proofs.buffered_source.BufferedSource.move_buffered.Goals as goal

pub returns-clause-bytes : goal.returns-clause-bytes
returns-clause-bytes g c =
    let here = c.self.inside in
    let n = c.min-n.result in
    let copy = c.copy_range in
    let long : length (take n c.args.to.now) ≡ n = omega (arith, length-take n c.args.to.now) in
    rw (← c.self.view_is)
    (buffered-split here.room.now copy.new.room copy.new.to _ here.start here.end n
    copy.ensures.same (omega arith) (copy.ensures.len ∙ long)
    (copy.ensures.bytes ∙ ap (λ k. slice_range here.room.now here.start (here.start + k)) long))
