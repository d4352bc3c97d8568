use Rattle.ttx_pes.proofs.LinePairLemmas.{line_order_is_pairwise}
use Rattle.ttx_pes.proofs.laws.law_of_line_order.Goals as goal

pub returns : goal.returns
returns c = line_order_is_pairwise
