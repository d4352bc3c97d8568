-- If the first subtitle whose TCO is after the frame has started by the frame, the last cue is the
-- TCI of that subtitle. Otherwise the last cue is the TCO of the last subtitle that has ended, if
-- there is one.
use Rattle.std.proofs.Common.{arith, rules}
use Rattle.stl_rows.proofs.DuePageLemmas.{last_edge-gap, last_edge-tci, later_subtitles_start_after}
use Rattle.stl_rows.proofs.programme.last_cue_until.Goals as goal

pub returns-then-at-len : goal.returns-then-at-len
returns-then-at-len c =
    last_edge-gap c.args.drawing.now c.args.subtitles.now c.args.frame
    c.first_ending_after-at.result
    c.requires _ (omega arith) (search rules) (λ k d low high. absurd (omega arith))
    c.tco_before.ensures

pub returns-then-tci-frame : goal.returns-then-tci-frame
returns-then-tci-frame c =
    rw (c.frame-tci.ensures.value, c.tci.ensures.value)
    (last_edge-tci c.args.drawing.now c.args.subtitles.now c.args.frame
    c.first_ending_after-at.result
    c.requires c.at-subtitle.result (search rules) (omega arith) c.at-subtitle.ensures.is
    (omega arith))

pub returns : goal.returns
returns c =
    last_edge-gap c.args.drawing.now c.args.subtitles.now c.args.frame
    c.first_ending_after-at.result
    c.requires _ (omega arith) (search rules)
    (later_subtitles_start_after c.args.drawing.now c.args.subtitles.now c.args.frame
    c.first_ending_after-at.result
    c.requires c.at-subtitle.result (search rules) (omega arith) c.at-subtitle.ensures.is
    (omega arith))
    c.tco_before-2.ensures
