use Rattle.sub_laws.proofs.ErasingHeaderLemmas.{law_of_unreported_stretch}
use Rattle.sub_laws.proofs.laws.law_of_unreported_stretch.Goals as goal

pub returns : goal.returns
returns c = law_of_unreported_stretch
