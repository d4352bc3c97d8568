use Rattle.sub_headline.proofs.HeadlineLemmas as lemmas
use Rattle.sub_headline.proofs.laws.law_of_headline.Goals as goal

pub returns : goal.returns
returns g c = lemmas.law_of_headline _ _ _
