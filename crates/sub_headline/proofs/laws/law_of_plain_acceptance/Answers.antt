use Rattle.sub_headline.proofs.AcceptanceLemmas as lemmas
use Rattle.sub_headline.proofs.laws.law_of_plain_acceptance.Goals as goal

pub returns : goal.returns
returns c = lemmas.law_of_plain_acceptance
