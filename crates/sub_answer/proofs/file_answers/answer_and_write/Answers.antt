use Rattle.std.proofs.Common.{None, Some, refl}
use Rattle.std.specs.Io.KnownBytes.{prepend_known}
use Rattle.sub_answer.proofs.EndingLemmas.{ends_weaker, entire_source_is_entire_part}
use Rattle.sub_answer.proofs.file_answers.answer_and_write.Goals as goal

pub returns : goal.returns
returns g c = record {
  left = record {
    first = Some c.into_inner.result;
    second = None;
    file = Some c.into_inner-2.result;
  };
  are_released = (
    c.release_input.new.self,
    c.release_input.ensures,
    (c.release_output.new.self, c.release_output.ensures, refl),
  );
  ends =
      ends_weaker _ _ _ _ _ _ _ _ _ _ _ _ c.answer_source-status.ensures.ends
      (λ input is. record {
        room = _;
        new = _;
        left_eq = c.into_inner.ensures;
        is_part =
            rw (c.new-first.ensures, c.into_file.ensures) at
            (entire_source_is_entire_part
            (λ s. prepend_known s.buffered (g.D.Input.Source.remaining s.device))
            (λ s. g.D.Input.Source.failure_count s.device) c.new-first.result
            c.answer_source-status.new.first input is);
      })
      (λ input is. is) (λ is. refl)
      (λ first call is. record {
        room = _;
        new = _;
        left_eq = c.into_inner-2.ensures;
        closed = rw (c.new-file.ensures, c.into_file-2.ensures) at is;
        whole = λ done.
            rw (c.new-file.ensures, c.into_file-2.ensures)
            at (c.answer_source-status.ensures.done done).0;
        stored = c.answer_source-status.ensures.stored;
      });
}
