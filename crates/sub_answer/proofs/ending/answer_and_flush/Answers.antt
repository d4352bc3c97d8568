use Rattle.std.proofs.Common.{refl}
use Rattle.sub_answer.specs.Ending.{state_of_sink}
use Rattle.sub_answer.proofs.EndingLemmas.{followed_before, written_before}
use Rattle.sub_answer.proofs.ending.answer_and_flush.Goals as goal

pub returns-clause-ends : goal.returns-clause-ends
returns-clause-ends g c = record {
  first = _;
  first_is = refl;
  second = _;
  second_is = refl;
  file = _;
  file_is = record {
    left = c.answer_from_inputs-status.new.file;
    call_eq = refl;
    closed = c.close.ensures.call.device;
    buffered_eq = c.close.ensures.call.buffered;
    written =
        written_before c.args.request.now _ c.args.file.now.buffered
        c.answer_from_inputs-status.new.file.buffered
        c.requires.file.1 c.answer_from_inputs-status.ensures.answers.written;
  };
  status = c.answer_from_inputs-status.result;
  printed = state_of_sink g.O.Sink.contents g.O.FlushPending.buffer_state g.O.Sink.failure_count
      c.answer_from_inputs-status.new.out;
  answers = c.answer_from_inputs-status.ensures.answers.answers;
  followed =
      followed_before g.O.Sink.contents g.O.FlushPending.buffer_state g.O.Flush.buffered
      g.O.Sink.failure_count
      g.O.Sink.is_push c.args.out.now c.answer_from_inputs-status.new.out
      g.met.O.FlushPending.buffered_eq
      c.args.request.now _ _ c.answer_from_inputs-status.ensures.answers.followed;
  flushed = c.flush_pending.ensures.lines;
}
