use Rattle.sub_trusted.proofs.EqualProgrammeLemmas.{law_of_equal_trust}
use Rattle.sub_trusted.proofs.laws.law_of_equal_trust.Goals as goal

pub returns : goal.returns
returns c = law_of_equal_trust
