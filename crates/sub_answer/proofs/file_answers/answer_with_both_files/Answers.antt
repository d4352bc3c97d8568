use Rattle.std.proofs.Common.{None, Some, ap, refl}
use Rattle.std.specs.Io.KnownBytes.{prepend_known}
use Rattle.sub_answer.proofs.EndingLemmas.{ends_weaker, entire_source_is_entire_part}
use Rattle.sub_answer.proofs.file_answers.answer_with_both_files.Goals as goal

pub returns : goal.returns
returns g c = record {
  left = record {
    first = Some c.into_inner.result;
    second = Some c.into_inner-2.result;
    file = None;
  };
  are_released = (
    c.release_input.new.self,
    c.release_input.ensures,
    (c.release_input-2.new.self, c.release_input-2.ensures, refl),
  );
  ends =
      ends_weaker _ _ _ _ _ _ _ _ _ _ _ _ c.answer_second_part-status.ensures
      (λ input is. record {
        room = _;
        new = _;
        left_eq = c.into_inner.ensures;
        is_part =
            rw (c.new-first.ensures, c.into_file.ensures) at
            (entire_source_is_entire_part
            (λ s. prepend_known s.buffered (g.D.Input.Source.remaining s.device))
            (λ s. g.D.Input.Source.failure_count s.device) c.new-first.result
            c.answer_second_part-status.new.first input is);
      })
      (λ input is. record {
        room = _;
        new = _;
        left_eq = c.into_inner-2.ensures;
        is_part = rw (c.part_requested.ensures, c.new-second.ensures, c.into_file-2.ensures) at is;
      })
      (λ is.
      ap Some (rw (c.into_inner-2.ensures, is, c.new-second.ensures, c.into_file-2.ensures) refl))
      (λ first call is. is);
}
