use Rattle.sub_laws.proofs.OldTextLemmas.{law_of_old_text}
use Rattle.sub_laws.proofs.laws.law_of_old_text.Goals as goal

pub returns : goal.returns
returns c = law_of_old_text
