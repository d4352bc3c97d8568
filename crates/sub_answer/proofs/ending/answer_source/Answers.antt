use Rattle.std.proofs.Common.{◌∙◌}
use Rattle.sub_answer.proofs.EndingLemmas.{ends_weaker, first_input_is_source}
use Rattle.sub_answer.proofs.EndingLemmas.{empty_buffer_leaves_no_bytes}
use Rattle.sub_answer.proofs.ending.answer_source.Goals as goal

pub returns-clause-ends : goal.returns-clause-ends
returns-clause-ends g c =
    let none =
    empty_buffer_leaves_no_bytes _ _ c.new-pes.ensures.none
    (c.new-pes.ensures.now ∙ c.new-nothing.ensures) in
    ends_weaker _ _ _ _ _ _ _ _ _ _ _ _ c.answer_and_flush.ensures.ends
    (λ call is. is ∙ first_input_is_source _ _ _ c.requires.reads)
    (λ call is. rw is none) (λ is. tt) (λ first call is. is)
