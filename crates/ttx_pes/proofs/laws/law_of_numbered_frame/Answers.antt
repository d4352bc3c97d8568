use Rattle.ttx_pes.proofs.LineOrderLemmas.{numbered_frame_is_valid}
use Rattle.ttx_pes.proofs.laws.law_of_numbered_frame.Goals as goal

pub returns : goal.returns
returns c = numbered_frame_is_valid
