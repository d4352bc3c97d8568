-- The laws in `laws.rt` are proved with this ruleset.
use Rattle.sub_plan.proofs.ClockLemmas.{law_of_clock, law_of_near_clock}
use Rattle.sub_plan.proofs.ExampleHeaders.{example_of_closing_headers, example_of_watched_headers}
use Rattle.sub_plan.proofs.ProgrammeLemmas.{law_of_day}
use Rattle.sub_plan.proofs.ScheduleBases.{law_of_equal_pages, law_of_last_sending}
use Rattle.sub_plan.proofs.ScheduleMembers.{law_of_gaps}
use Rattle.sub_plan.proofs.SendingLemmas.{law_of_cut_sendings, law_of_sending}
use Rattle.sub_plan.proofs.SendingSize.{law_of_due_size, law_of_size}

pub ruleset laws = (
  example_of_closing_headers,
  example_of_watched_headers,
  law_of_clock,
  law_of_cut_sendings,
  law_of_day,
  law_of_due_size,
  law_of_equal_pages,
  law_of_gaps,
  law_of_last_sending,
  law_of_near_clock,
  law_of_sending,
  law_of_size,
)
