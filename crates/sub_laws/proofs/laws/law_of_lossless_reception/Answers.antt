use Rattle.sub_laws.proofs.StretchLemmas.{law_of_lossless_reception}
use Rattle.sub_laws.proofs.laws.law_of_lossless_reception.Goals as goal

pub returns : goal.returns
returns c = law_of_lossless_reception
