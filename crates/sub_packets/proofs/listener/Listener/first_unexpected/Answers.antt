use Rattle.std.proofs.Common.{MatchOption, ◌≡◌, sym, ◌∙◌, ap, arith, subst}
use Rattle.ttx_page.specs.Differing.{differing_cell_count}
use Rattle.ttx_page.specs.Page.{DiffersFirst, Rows, blank}
use Rattle.sub_packets.specs.UnexpectedCodes.{LacksDueCodes}
use Rattle.sub_plan.specs.Schedule.{due_page_in}
use Rattle.sub_packets.proofs.UnexpectedLemmas.{unexpected_eq}
use Rattle.sub_packets.proofs.UnexpectedLemmas.{blank_page_has_no_unexpected_cell}
use Rattle.sub_packets.proofs.listener.Listener.first_unexpected.Goals as goal

pub returns : goal.returns
returns c =
    unexpected_eq c.args.self.now (due_page_in c.args.programme.now) c.args.first c.args.frame
    c.args.within c.page_without_due_codes-left.result c.first_difference.result
    (subst (λ page. LacksDueCodes (due_page_in c.args.programme.now) c.args.first c.args.frame
    c.args.within
    page c.page_without_due_codes-left.result) c.shown-shown.ensures
    c.page_without_due_codes-left.ensures)
    (subst (λ (page : Rows). MatchOption c.first_difference.result
    (c.page_without_due_codes-left.result ≡ page)
    (λ place. DiffersFirst c.page_without_due_codes-left.result page place.0 place.1))
    c.blank.ensures
    c.first_difference.ensures)

pub returns-then-count_nonblank_cells-eq0 : goal.returns-then-count_nonblank_cells-eq0
returns-then-count_nonblank_cells-eq0 c =
    sym
    (blank_page_has_no_unexpected_cell c.args.self.now (due_page_in c.args.programme.now)
    c.args.first c.args.frame
    c.args.within
    (ap (differing_cell_count blank) (sym c.shown-shown.ensures)
    ∙ sym c.count_nonblank_cells.ensures.value
    ∙ omega arith))
