use Rattle.sub_headline.proofs.PlainWordLemmas as lemmas
use Rattle.sub_headline.proofs.laws.law_of_plain_arguments.Goals as goal

pub returns : goal.returns
returns c = lemmas.law_of_plain_arguments
