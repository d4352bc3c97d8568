-- The frame that includes a PTS is the number of ticks since the first tick of frame 0, divided by
-- 3600. If the quotient is not a frame of the day, no frame includes the PTS.
use Rattle.std.proofs.Common.{arith}
use Rattle.std.proofs.lemmas.Bool.Decides.{nat_tests}
use Rattle.sub_plan.specs.FrameTime.{frame_with_tolerance}
use Rattle.sub_plan.proofs.options.frame_including_pts.Goals as goal

pub returns-then-pts-ge-PTS_END : goal.returns-then-pts-ge-PTS_END
unfolding frame_with_tolerance
returns-then-pts-ge-PTS_END c = grind (arith, nat_tests)

pub returns-then-frame-ge-FRAMES_PER_DAY : goal.returns-then-frame-ge-FRAMES_PER_DAY
unfolding frame_with_tolerance
returns-then-frame-ge-FRAMES_PER_DAY c = grind (arith, nat_tests)

pub returns : goal.returns
unfolding frame_with_tolerance
returns c = grind (arith, nat_tests)
