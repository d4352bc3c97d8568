use Rattle.std.proofs.Common.{None, refl}
use Rattle.sub_answer.proofs.EndingLemmas.{ends_weaker}
use Rattle.sub_answer.proofs.file_answers.answer_opened.Goals as goal

pub returns-in-Nothing : goal.returns-in-Nothing
returns-in-Nothing g c =
    rw c.in-Nothing.is (record {
      left = record { first = None; second = None; file = None };
      are_released = refl;
      ends =
          ends_weaker _ _ _ _ _ _ _ _ _ _ _ _ c.answer_without_files.ensures
          (λ call is. is) (λ call is. is) (λ is. refl) (λ first call is. is);
    })
