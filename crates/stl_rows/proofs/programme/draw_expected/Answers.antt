-- `draw_expected`: after all subtitles, or in a gap, no subtitle is expected. At any other frame
-- the first subtitle whose TCO is after the frame is expected.
use Rattle.std.proofs.Common.{arith, rules, ◌∙◌, ap, sym}
use Rattle.std.proofs.lemmas.Bool.Decides.{nat_tests}
use Rattle.std.specs.Result.{result_unwrap_or}
use Rattle.ttx_page.specs.Page.{blank}
use Rattle.stl_rows.proofs.DuePageLemmas.{due_subtitle_is_drawn, ends_after, next_edge-tci}
use Rattle.stl_rows.proofs.DuePageLemmas.{next_edge-tco}
use Rattle.stl_rows.proofs.DuePageLemmas.{none-between, page_without_subtitle_is_blank}
use Rattle.stl_rows.proofs.programme.draw_expected.Goals as goal

pub returns-then-at-len-clause-page : goal.returns-then-at-len-clause-page
returns-then-at-len-clause-page c = grind (arith, nat_tests, page_without_subtitle_is_blank)

pub returns-then-frame-tci-clause-page : goal.returns-then-frame-tci-clause-page
returns-then-frame-tci-clause-page c =
    c.blank-then-frame-tci.ensures
    ∙ sym (page_without_subtitle_is_blank c.args.drawing.now c.args.subtitles.now c.args.frame
    (none-between _ _ _ c.find_first_ending_after-at.result _ c.requires (search rules)
    (omega arith)
    c.at-subtitle.ensures.is (omega arith)))

pub returns-then-frame-tci-clause-edge : goal.returns-then-frame-tci-clause-edge
returns-then-frame-tci-clause-edge c =
    rw (c.frame-tci.ensures.value, c.tci.ensures.value)
    (next_edge-tci c.args.drawing.now c.args.subtitles.now c.args.frame
    c.find_first_ending_after-at.result c.at-subtitle.result c.requires
    (search rules) (omega arith) c.at-subtitle.ensures.is (omega arith))

pub returns-clause-page : goal.returns-clause-page
returns-clause-page c =
    let is = c.at-subtitle.ensures.is in
    ap (λ r. result_unwrap_or r blank) (sym c.draw_subtitle_on.ensures)
    ∙ sym (due_subtitle_is_drawn c.args.drawing.now c.args.subtitles.now c.args.frame
    c.at-subtitle.result c.requires.in_order
    (c.find_first_ending_after-at.result, omega arith, sym is) (omega arith)
    (ends_after c.args.drawing.now _ _ c.find_first_ending_after-at.result _ c.requires
    (search rules)
    (omega arith) is))

pub returns-clause-edge : goal.returns-clause-edge
returns-clause-edge c =
    rw (c.frame-tco.ensures.value, c.tco.ensures.value)
    (next_edge-tco c.args.drawing.now c.args.subtitles.now c.args.frame
    c.find_first_ending_after-at.result c.at-subtitle.result c.requires
    (search rules) (omega arith) c.at-subtitle.ensures.is (omega arith))
