use Rattle.sub_laws.proofs.RepeatLemmas.{law_of_may_keep}
use Rattle.sub_laws.proofs.laws.law_of_may_keep.Goals as goal

pub returns : goal.returns
returns c = law_of_may_keep
