use Rattle.sub_trusted.proofs.TrustedOnAirLemmas.{law_of_trusted_frames}
use Rattle.sub_trusted.proofs.laws.law_of_trusted_frames.Goals as goal

pub returns : goal.returns
returns c = law_of_trusted_frames
