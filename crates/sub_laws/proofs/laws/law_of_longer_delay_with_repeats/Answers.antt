use Rattle.sub_laws.proofs.RepeatLemmas.{law_of_longer_delay_with_repeats}
use Rattle.sub_laws.proofs.laws.law_of_longer_delay_with_repeats.Goals as goal

pub returns : goal.returns
returns c = law_of_longer_delay_with_repeats
