use Rattle.std.proofs.Common.{None, Some, refl}
use Rattle.sub_answer.proofs.EndingLemmas.{ends_weaker}
use Rattle.sub_answer.proofs.file_answers.answer_and_extract.Goals as goal

pub returns : goal.returns
returns g c = record {
  left = record {
    first = Some c.into_inner.result;
    second = None;
    file = Some c.into_inner-2.result;
  };
  are_released = (
    c.release_input.new.self,
    c.release_input.ensures,
    (c.release_output.new.self, c.release_output.ensures, refl),
  );
  ends =
      ends_weaker _ _ _ _ _ _ _ _ _ _ _ _ c.answer_part-status.ensures.ends
      (λ input is. record {
        room = _;
        new = _;
        left_eq = c.into_inner.ensures;
        is_part = rw (c.part_requested-part.ensures, c.new-first.ensures, c.into_file.ensures) at
            is;
      })
      (λ input is. is) (λ is. refl)
      (λ first call is. record {
        room = _;
        new = _;
        left_eq = c.into_inner-2.ensures;
        closed = rw (c.new-file.ensures, c.into_file-2.ensures) at is;
        whole = λ done.
            rw (c.new-file.ensures, c.into_file-2.ensures) at
            (c.answer_part-status.ensures.done done);
        stored = c.answer_part-status.ensures.stored;
      });
}
