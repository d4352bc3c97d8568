use Rattle.ttx_page.proofs.DropLaws.{law_of_dropping}
use Rattle.ttx_page.proofs.laws.law_of_dropping.Goals as goal

pub returns : goal.returns
returns c = law_of_dropping
