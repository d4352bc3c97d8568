use Rattle.sub_plan.proofs.ClockLemmas.{law_of_exact_clock}
use Rattle.sub_plan.proofs.laws.law_of_exact_clock.Goals as goal

pub returns : goal.returns
returns c = law_of_exact_clock
