-- If no cell differs from the expected page, no cell is unexpected.
use Rattle.std.proofs.Common.{◌≡◌, subst}
use Rattle.sub_plan.specs.Schedule.{due_page_in}
use Rattle.sub_checker.specs.Checker.{CheckerValue}
use Rattle.sub_checker.proofs.CompletePacketLemmas.{no_unexpected_cell_is_found}
use Rattle.sub_checker.proofs.checker.Checker.first_unexpected.Goals as goal

pub returns-then-is_none : goal.returns-then-is_none
returns-then-is_none c = λ is.
    no_unexpected_cell_is_found c.args.self.now c.args.differing c.is_none.result
    (subst (λ (v : CheckerValue). v.listener.comparison.due ≡ due_page_in v.programme v.frame)
    c.self.view_is c.self.invariant.0.due_eq) c.is_none.ensures c.if-is_none.true is
