use Rattle.sub_laws.proofs.FollowedStretchLemmas.{law_of_followed_stretch}
use Rattle.sub_laws.proofs.laws.law_of_followed_stretch.Goals as goal

pub returns : goal.returns
returns c = law_of_followed_stretch
