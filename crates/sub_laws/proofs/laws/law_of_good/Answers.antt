use Rattle.sub_laws.proofs.RobustLemmas.{law_of_good}
use Rattle.sub_laws.proofs.laws.law_of_good.Goals as goal

pub returns : goal.returns
returns c = law_of_good
