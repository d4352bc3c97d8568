use Rattle.std.proofs.Common.{◌∙◌, Some, ap}
use Rattle.sub_answer.proofs.EndingLemmas.{ends_weaker, first_input_is_empty}
use Rattle.sub_answer.proofs.EndingLemmas.{empty_buffer_leaves_no_bytes}
use Rattle.sub_answer.proofs.ending.answer_without_input.Goals as goal

pub returns : goal.returns
returns g c =
    let none =
    empty_buffer_leaves_no_bytes _ _ c.new-pes.ensures.none
    (c.new-pes.ensures.now ∙ c.new-nothing.ensures) in
    ends_weaker _ _ _ _ _ _ _ _ _ _ _ _ c.answer_both_inputs.ensures.ends
    (λ call is. first_input_is_empty _ _ _ call is (ap Some c.new-first.ensures) none)
    (λ call is. rw is none) (λ is. tt) (λ first call is. is)
