use Rattle.sub_plan.proofs.ScheduleMembers.{law_of_sendings}
use Rattle.sub_plan.proofs.laws.law_of_sendings.Goals as goal

pub returns : goal.returns
returns c = law_of_sendings
