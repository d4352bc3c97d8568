use Rattle.std.proofs.Common.{◌∙◌}
use Rattle.sub_answer.proofs.EndingLemmas.{ends_alone, first_input_is_pes_packets}
use Rattle.sub_answer.proofs.ending.answer_pes_packets.Goals as goal

pub returns-clause-ends : goal.returns-clause-ends
returns-clause-ends g c =
    ends_alone _ _ _ _ _ _ _ _ _ c.requires.reads c.answer_and_flush.ensures.ends
    (λ call is. is ∙ first_input_is_pes_packets _ _ _ c.requires.reads)
