-- Loop invariant of `send_all`, at each base: the page transmissions before the base are written,
-- and the expected page at the base is drawn.
use Rattle.std.proofs.Common.{◌≡◌, ◌-◌, ◌<◌, ◌≤◌}
use Rattle.sub_plan.specs.Laws.{IsBase}
use Rattle.sub_plan.specs.Schedule.{due_page_in, sending_at, sendings, sendings_from}
use Rattle.sub_plan.proofs.PartLemmas.{IsPartWritten}
use Rattle.sub_plan.proofs.scheduling.send_all.Given as goal

abbrev pub invariant-loop-frame : goal.invariant-loop-frame
invariant-loop-frame g l = record {
  low : l.first ≤ l.frame;
  high : l.frame ≤ l.last;
  option : l.national ≡ l.programme.drawing.national;
  page : l.page ≡ due_page_in l.programme l.frame;
  starts : l.frame < l.last → IsBase (due_page_in l.programme) l.first l.frame;
  few : l.count ≤ l.frame - l.first;
  failures : g.K.Sink.failure_count l.sink ≡ g.K.Sink.failure_count l.initial.sink;
  part :
      IsPartWritten (g.K.Sink.contents l.initial.sink) (g.K.Sink.contents l.sink)
      (sending_at (due_page_in l.programme) l.options l.programme.drawing.national l.serial)
      l.count (sendings_from (due_page_in l.programme) l.options.every l.first l.last l.frame)
      (sendings (due_page_in l.programme) l.options.every l.first l.last);
}

abbrev pub decreases-loop-frame : goal.decreases-loop-frame
decreases-loop-frame g l = l.last - l.frame
