use Rattle.sub_laws.proofs.EmptyReportLemmas.{law_of_broken_places}
use Rattle.sub_laws.proofs.laws.law_of_broken_places.Goals as goal

pub returns : goal.returns
returns c = law_of_broken_places
