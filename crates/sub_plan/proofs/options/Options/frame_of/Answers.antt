-- `frame_of` uses the exact clock if `within` is 0, and the clock with a tolerance otherwise.
use Rattle.std.proofs.Common.{arith, ◌∙◌}
use Rattle.sub_plan.proofs.ClockLemmas.{clock_without_tolerance_is_exact}
use Rattle.sub_plan.proofs.ClockLemmas.{clock_reads_with_tolerance, exact_by}
use Rattle.sub_plan.proofs.options.Options.frame_of.Goals as goal

pub returns-then-self-eq0-clause-value : goal.returns-then-self-eq0-clause-value
returns-then-self-eq0-clause-value c =
    c.exact_frame.ensures ∙ rw (← c.self.view_is)
    (clock_without_tolerance_is_exact _ _ _ (omega arith))

pub returns-then-self-eq0-clause-exact : goal.returns-then-self-eq0-clause-exact
returns-then-self-eq0-clause-exact c = λ none frame.
    rw (← c.self.view_is) (exact_by _ _ _ c.exact_frame.ensures frame)

pub returns-else-self-eq0-clause-value : goal.returns-else-self-eq0-clause-value
returns-else-self-eq0-clause-value c =
    c.frame_including_pts.ensures
    ∙ rw (← c.self.view_is) (clock_reads_with_tolerance _ _ _ (omega arith))
