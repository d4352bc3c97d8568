use Rattle.sub_check.proofs.AcceptedWithinLemmas as lemmas
use Rattle.sub_check.proofs.laws.law_of_accepted_within_more.Goals as goal

pub returns : goal.returns
returns c = lemmas.law_of_accepted_within_more
