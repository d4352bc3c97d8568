use Rattle.std.proofs.Common.{refl, rules}
use Rattle.sub_answer.proofs.AllAnswerLemmas.{answers_at, answers_cut, answers_end, counts}
use Rattle.sub_answer.proofs.FailedReadLemmas.{failed_printer_stops_reading, failure_line_is_last}
use Rattle.sub_listing.proofs.LastLineLemmas.{raised_count_means_failure}
use Rattle.sub_answer.proofs.answering.check_all.print_every_fault.Goals as goal

pub returns-then-failed-clause-all : goal.returns-then-failed-clause-all
returns-then-failed-clause-all g c =
    answers_at _ _ _ _ _ _ _ _ _ _ _ _ _
    (answers_cut _ _ _ _ _ _ _ _ _ c.report_every_fault-answer.ensures.reported c.if-failed.true)
    (search rules) (search rules)

pub returns-clause-all : goal.returns-clause-all
returns-clause-all g c =
    answers_at _ _ _ _ _ _ _ _ _ _ _ _ _
    (answers_end _ _ _ _ _ _ _ _ _ _ _ _ c.law_of_loading.ensures
    c.report_every_fault-answer.ensures.reported c.if-failed.false refl c.print_end.ensures.printed)
    (search rules) (search rules)

pub returns-clause-stl_failure_count : goal.returns-clause-stl_failure_count
returns-clause-stl_failure_count g c =
    (counts _ _ _ _ _ _ _ _
    (answers_end _ _ _ _ _ _ _ _ _ _ _ _ c.law_of_loading.ensures
    c.report_every_fault-answer.ensures.reported c.if-failed.false refl
    c.print_end.ensures.printed)).0

pub returns-clause-pes_failure_count : goal.returns-clause-pes_failure_count
returns-clause-pes_failure_count g c =
    (counts _ _ _ _ _ _ _ _
    (answers_end _ _ _ _ _ _ _ _ _ _ _ _ c.law_of_loading.ensures
    c.report_every_fault-answer.ensures.reported c.if-failed.false refl
    c.print_end.ensures.printed)).1

pub returns-then-failed-clause-followed : goal.returns-then-failed-clause-followed
returns-then-failed-clause-followed g c = λ none risen.
    absurd (failed_printer_stops_reading c.report_every_fault-answer.ensures.reported
    c.if-failed.true risen)

pub returns-clause-followed : goal.returns-clause-followed
returns-clause-followed g c = λ none risen.
    let reported = c.report_every_fault-answer.ensures in
    let fails = raised_count_means_failure _ _ _ risen reported.count in
    failure_line_is_last g.K.Sink.contents g.K.Flush.buffered g.K.Sink.is_push _ _ _ _
    c.report_every_fault-answer.result fails (reported.flushed_at_failure none fails)
    c.print_end.ensures.line
    (search rules)
