-- If the ticks since the PTS of frame 0 are not a multiple of 3600, or their frame is not in the
-- day, then no frame of the day has this PTS.
use Rattle.std.proofs.Common.{arith}
use Rattle.sub_plan.proofs.ClockLemmas.{pts_without_frame_reads_none, pts_of_frame_reads_frame}
use Rattle.sub_plan.proofs.options.exact_frame.Goals as goal

pub returns-then-pts-ge-PTS_END : goal.returns-then-pts-ge-PTS_END
returns-then-pts-ge-PTS_END c =
    pts_without_frame_reads_none c.args.origin c.args.pts (λ frame in_day. omega arith)

pub returns-then-ticks-ne0 : goal.returns-then-ticks-ne0
returns-then-ticks-ne0 c =
    pts_without_frame_reads_none c.args.origin c.args.pts (λ frame in_day. omega arith)

pub returns-then-frame-ge-FRAMES_PER_DAY : goal.returns-then-frame-ge-FRAMES_PER_DAY
returns-then-frame-ge-FRAMES_PER_DAY c =
    pts_without_frame_reads_none c.args.origin c.args.pts (λ frame in_day. omega arith)

pub returns : goal.returns
returns c = pts_of_frame_reads_frame c.args.origin c.args.pts _ (omega arith) (omega arith)
