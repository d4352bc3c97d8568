-- If a subtitle ends at a frame, it is the first subtitle whose TCO is after the previous frame.
use Rattle.std.proofs.Common.{arith, rules, ◌-◌, ◌∙◌, ap, Some}
use Rattle.stl_rows.proofs.DuePageLemmas.{ends-next, no_tco_means_none_ending}
use Rattle.stl_rows.proofs.DuePageLemmas.{no_tco_means_none_ending-next}
use Rattle.stl_rows.proofs.programme.tci_of_ending_subtitle.Goals as goal

pub returns-then-frame-eq0 : goal.returns-then-frame-eq0
returns-then-frame-eq0 c = no_tco_means_none_ending c.args.subtitles.now c.args.frame (λ k d b.
    let times = (c.requires.each k d b).times in
    omega (arith, times))

pub returns-then-at-len : goal.returns-then-at-len
returns-then-at-len c = no_tco_means_none_ending c.args.subtitles.now c.args.frame (λ k d b.
    let before = c.first_ending_after-at.ensures.before k d (omega (arith, b)) in
    omega (arith, before))

pub returns-then-tco-frame : goal.returns-then-tco-frame
returns-then-tco-frame c =
    no_tco_means_none_ending-next c.args.drawing.now c.args.subtitles.now (c.args.frame - 1)
    c.first_ending_after-at.result c.at-subtitle.result c.requires (search rules) (omega arith)
    c.at-subtitle.ensures.is c.args.frame (omega arith) (search rules)

pub returns : goal.returns
returns c =
    ap Some (c.frame.ensures.value ∙ c.tci.ensures.value)
    ∙ ends-next c.args.drawing.now c.args.subtitles.now (c.args.frame - 1)
    c.first_ending_after-at.result c.at-subtitle.result c.requires (search rules) (omega arith)
    c.at-subtitle.ensures.is c.args.frame (omega arith) (search rules)
