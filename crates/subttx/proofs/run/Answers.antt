use Rattle.std.proofs.Common.{inl, inr, refl}
use Rattle.subttx.proofs.run.Goals as goal

pub returns-in-Some : goal.returns-in-Some
returns-in-Some g c = record {
  room = c.new-out.result.room;
  new = c.answer_or_print_fault-status.new.out;
  left_eq = c.into_inner.ensures;
  status = c.answer_or_print_fault-status.result;
  code_eq = c.code.ensures;
  ends = inl (rw c.new-out.ensures at c.answer_or_print_fault-status.ensures);
}

pub returns-in-None : goal.returns-in-None
returns-in-None g c = record {
  room = c.new-out-in-None.result.room;
  new = c.print_and_flush_usage_fault-status.new.out;
  left_eq = c.into_inner-in-None.ensures;
  status = c.print_and_flush_usage_fault-status.result;
  code_eq = c.code-in-None.ensures;
  ends = inr (
    refl,
    rw c.new-out-in-None.ensures at
        c.print_and_flush_usage_fault-status.ensures.says,
  );
}
