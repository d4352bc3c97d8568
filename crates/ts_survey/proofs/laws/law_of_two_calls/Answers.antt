-- Two calls process the packets in their bytes like one call with all bytes.
use Rattle.ts_survey.proofs.InStepLemmas.{law_of_two_calls}
use Rattle.ts_survey.proofs.laws.law_of_two_calls.Goals as goal

pub returns : goal.returns
returns g c = law_of_two_calls g.M.TakesPackets.is_taken
