use Rattle.sub_laws.proofs.DelayLemmas.{law_of_repeated_stretch}
use Rattle.sub_laws.proofs.laws.law_of_repeated_stretch.Goals as goal

pub returns : goal.returns
returns c = law_of_repeated_stretch
