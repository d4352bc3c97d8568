-- The next cue is the TCI of the first subtitle whose TCO is after the frame, or the TCO of that
-- subtitle if it has started. If no TCO is after the frame, there is no next cue.
use Rattle.std.proofs.Common.{arith, rules}
use Rattle.stl_rows.proofs.DuePageLemmas.{next_edge-tci, next_edge-tco}
use Rattle.stl_rows.proofs.programme.next_cue_after.Goals as goal

pub returns-then-frame-tci : goal.returns-then-frame-tci
returns-then-frame-tci c =
    rw (c.frame-tci.ensures.value, c.tci.ensures.value)
    (next_edge-tci c.args.drawing.now c.args.subtitles.now c.args.frame
    c.first_ending_after-at.result
    c.at-subtitle.result c.requires
    (search rules) (omega arith) c.at-subtitle.ensures.is (omega arith))

pub returns : goal.returns
returns c =
    rw (c.frame-tco.ensures.value, c.tco.ensures.value)
    (next_edge-tco c.args.drawing.now c.args.subtitles.now c.args.frame
    c.first_ending_after-at.result
    c.at-subtitle.result c.requires
    (search rules) (omega arith) c.at-subtitle.ensures.is (omega arith))
