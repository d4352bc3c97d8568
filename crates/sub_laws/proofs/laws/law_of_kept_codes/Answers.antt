use Rattle.sub_laws.proofs.RepeatLemmas.{law_of_kept_codes}
use Rattle.sub_laws.proofs.laws.law_of_kept_codes.Goals as goal

pub returns : goal.returns
returns c = law_of_kept_codes
