-- If `is_first_ending_after` returns true, all subtitles before the index have ended by the frame,
-- and the subtitle at the index and all later ones have not.
use Rattle.std.proofs.Common.{arith}
use Rattle.std.proofs.lemmas.Bool.Decides.{nat_tests}
use Rattle.stl_rows.proofs.DuePageLemmas.{ended-until, left-from}
use Rattle.stl_rows.proofs.programme.is_first_ending_after.Goals as goal

pub returns-in-Some-clause-before : goal.returns-in-Some-clause-before
returns-in-Some-clause-before c is_first k d b =
    ended-until c.args.drawing.now c.args.subtitles.now c.args.frame c.args.at c.requires
    (omega arith) (λ e. let tco = c.in-Some.is in grind (arith, nat_tests)) k d b

pub returns-in-Some-clause-after : goal.returns-in-Some-clause-after
returns-in-Some-clause-after c is_first =
    left-from c.args.drawing.now c.args.subtitles.now c.args.frame c.args.at
    c.at-subtitle.result c.requires (omega arith) c.at-subtitle.ensures.is (omega arith)

pub returns-in-None-clause-after : goal.returns-in-None-clause-after
returns-in-None-clause-after c is_first =
    left-from c.args.drawing.now c.args.subtitles.now c.args.frame c.args.at
    c.at-subtitle.result c.requires (omega arith) c.at-subtitle.ensures.is (omega arith)
