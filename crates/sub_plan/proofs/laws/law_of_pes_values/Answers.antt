use Rattle.sub_plan.proofs.SendingSize.{law_of_pes_values}
use Rattle.sub_plan.proofs.laws.law_of_pes_values.Goals as goal

pub returns : goal.returns
returns c = law_of_pes_values
