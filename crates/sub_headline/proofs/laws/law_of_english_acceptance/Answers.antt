use Rattle.sub_headline.proofs.EnglishAcceptanceLemmas as lemmas
use Rattle.sub_headline.proofs.laws.law_of_english_acceptance.Goals as goal

pub returns : goal.returns
returns c = lemmas.law_of_english_acceptance
