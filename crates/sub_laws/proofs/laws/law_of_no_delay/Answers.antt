use Rattle.sub_laws.proofs.GoodWithRepeatsLemmas.{law_of_no_delay}
use Rattle.sub_laws.proofs.laws.law_of_no_delay.Goals as goal

pub returns : goal.returns
returns c = law_of_no_delay
