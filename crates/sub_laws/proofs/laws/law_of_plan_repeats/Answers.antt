use Rattle.sub_laws.proofs.GoodWithRepeatsLemmas.{law_of_plan_repeats}
use Rattle.sub_laws.proofs.laws.law_of_plan_repeats.Goals as goal

pub returns : goal.returns
returns c = law_of_plan_repeats
