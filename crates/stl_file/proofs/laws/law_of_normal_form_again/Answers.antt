use Rattle.stl_file.proofs.NormalFormLemmas.{normal_form_is_idempotent}
use Rattle.stl_file.proofs.laws.law_of_normal_form_again.Goals as goal

pub returns : goal.returns
returns c = normal_form_is_idempotent
