-- The result is correct in each case: no subtitle was rejected, or the expected page is unknown
-- now, was unknown before, or was always known.
use Rattle.std.proofs.Common.{◌∙◌, sym, arith}
use Rattle.sub_checker.proofs.UndecidedLemmas.{due_known_up_to_last, unknown_page_is_never_known}
use Rattle.sub_checker.proofs.UndecidedLemmas.{due_known_without_refusals, due_unknown_after_day}
use Rattle.sub_checker.proofs.undecided.first_known_from.Goals as goal

pub returns-then-not-any_unreliable : goal.returns-then-not-any_unreliable
returns-then-not-any_unreliable c edge reports =
    due_known_without_refusals c.args.judging.now c.args.first c.args.within c.args.frame edge
    reports
    (sym c.requires ∙ c.if-not-any_unreliable.true)

pub returns-then-is_undecided : goal.returns-then-is_undecided
returns-then-is_undecided c edge reports =
    due_unknown_after_day c.args.judging.now c.args.first c.args.within c.args.frame edge reports
    (sym c.requires ∙ c.if-not-any_unreliable.false) 18446744073709551615 (omega arith)
    (sym c.is_undecided.ensures ∙ c.if-is_undecided.true)

pub returns-in-Some : goal.returns-in-Some
returns-in-Some c edge reports =
    let last = c.in-Some.ensures in
    rw (c.from.ensures, c.from-in-Some.ensures)
    (due_known_up_to_last c.args.judging.now c.args.first c.args.within c.args.frame edge reports
    (sym c.requires ∙ c.if-not-any_unreliable.false) c.in-Some.last
    (omega (arith, c.earliest-least.ensures.first, last.0)) last.1 last.2 last.3)

pub returns-in-None : goal.returns-in-None
returns-in-None c edge reports =
    unknown_page_is_never_known c.args.judging.now c.args.first c.args.within c.args.frame edge
    reports
    (sym c.requires ∙ c.if-not-any_unreliable.false) c.earliest-least.result
    c.earliest-least.ensures.least (sym c.is_undecided.ensures ∙ c.if-is_undecided.false)
    c.in-None.ensures
