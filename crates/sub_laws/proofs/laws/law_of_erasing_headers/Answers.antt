use Rattle.sub_laws.proofs.RepeatLemmas.{law_of_erasing_headers}
use Rattle.sub_laws.proofs.laws.law_of_erasing_headers.Goals as goal

pub returns : goal.returns
returns c = law_of_erasing_headers
