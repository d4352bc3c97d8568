use Rattle.sub_laws.proofs.SufficientDelayLemmas.{law_of_unreported_repeats}
use Rattle.sub_laws.proofs.laws.law_of_unreported_repeats.Goals as goal

pub returns : goal.returns
returns c = law_of_unreported_repeats
