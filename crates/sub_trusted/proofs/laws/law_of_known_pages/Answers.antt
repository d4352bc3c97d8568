use Rattle.sub_trusted.proofs.TrustedOnAirLemmas.{law_of_known_pages}
use Rattle.sub_trusted.proofs.laws.law_of_known_pages.Goals as goal

pub returns : goal.returns
returns c = law_of_known_pages
