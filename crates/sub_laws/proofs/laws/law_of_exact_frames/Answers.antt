use Rattle.sub_laws.proofs.PesFileLemmas.{law_of_exact_frames}
use Rattle.sub_laws.proofs.laws.law_of_exact_frames.Goals as goal

pub returns : goal.returns
returns c = law_of_exact_frames
