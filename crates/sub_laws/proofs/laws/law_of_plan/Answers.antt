use Rattle.sub_laws.proofs.PlanLemmas.{law_of_plan}
use Rattle.sub_laws.proofs.laws.law_of_plan.Goals as goal

pub returns : goal.returns
returns c = law_of_plan
