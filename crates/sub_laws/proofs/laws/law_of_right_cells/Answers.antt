use Rattle.sub_laws.proofs.DelayLemmas.{law_of_right_cells}
use Rattle.sub_laws.proofs.laws.law_of_right_cells.Goals as goal

pub returns : goal.returns
returns c = law_of_right_cells
