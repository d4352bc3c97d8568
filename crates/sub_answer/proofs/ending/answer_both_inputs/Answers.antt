use Rattle.std.proofs.Common.{refl}
use Rattle.sub_answer.proofs.EndingLemmas.{ends_weaker}
use Rattle.sub_answer.proofs.ending.answer_both_inputs.Goals as goal

pub returns-clause-ends : goal.returns-clause-ends
returns-clause-ends g c =
    ends_weaker _ _ _ _ _ _ _ _ _ _ _ _ c.answer_and_flush.ensures.ends
    (λ call is. is) (λ call is. is) (λ is. is)
    (λ first call is. rw is.call_eq (rw (c.new-file.ensures, c.new.ensures) refl))
