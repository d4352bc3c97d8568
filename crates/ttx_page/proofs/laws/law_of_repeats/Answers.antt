use Rattle.ttx_page.proofs.RepeatLaws.{law_of_repeats}
use Rattle.ttx_page.proofs.laws.law_of_repeats.Goals as goal

pub returns : goal.returns
returns c = law_of_repeats
