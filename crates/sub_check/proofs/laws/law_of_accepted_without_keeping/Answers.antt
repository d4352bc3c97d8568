use Rattle.sub_check.proofs.AcceptedKeepingLemmas as lemmas
use Rattle.sub_check.proofs.laws.law_of_accepted_without_keeping.Goals as goal

pub returns : goal.returns
returns c = lemmas.law_of_accepted_without_keeping
