use Rattle.sub_laws.proofs.StretchLemmas.{law_of_full_recovery}
use Rattle.sub_laws.proofs.laws.law_of_full_recovery.Goals as goal

pub returns : goal.returns
returns c = law_of_full_recovery
