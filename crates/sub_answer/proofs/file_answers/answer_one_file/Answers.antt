use Rattle.std.proofs.Common.{None, Some, refl}
use Rattle.sub_answer.proofs.EndingLemmas.{ends_weaker}
use Rattle.sub_answer.proofs.file_answers.answer_one_file.Goals as goal

pub returns : goal.returns
returns g c = record {
  left = record { first = Some c.into_inner.result; second = None; file = None };
  are_released = (c.release_input.new.self, c.release_input.ensures, refl);
  ends =
      ends_weaker _ _ _ _ _ _ _ _ _ _ _ _ c.answer_part-status.ensures.ends
      (λ input is. record {
        room = _;
        new = _;
        left_eq = c.into_inner.ensures;
        is_part = rw c.new-whole.ensures at is;
      })
      (λ input is. is) (λ is. refl)
      (λ first call is. rw is.call_eq (rw (c.new-none.ensures, c.new.ensures) refl));
}
