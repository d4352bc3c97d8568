use Rattle.sub_laws.proofs.GoodWithRepeatsLemmas.{law_of_good_with_repeats}
use Rattle.sub_laws.proofs.laws.law_of_good_with_repeats.Goals as goal

pub returns : goal.returns
returns c = law_of_good_with_repeats
