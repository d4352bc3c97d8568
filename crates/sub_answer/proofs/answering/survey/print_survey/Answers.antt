-- If the survey fails, the line of the fault follows the lines printed before.
use Rattle.std.proofs.Common.{ap, arith}
use Rattle.sub_listing.specs.DeviceCall.{sink_call}
use Rattle.sub_listing.specs.FaultLine.{status_of}
use Rattle.sub_listing.specs.declared.fault_line.FaultLine.{FaultLine}
use Rattle.sub_answer.proofs.SurveyListingLemmas.{printed-reported}
use Rattle.sub_answer.proofs.answering.survey.print_survey.Goals as goal

pub returns-in-Err-Read-clause-printed : goal.returns-in-Err-Read-clause-printed
returns-in-Err-Read-clause-printed g c =
    let counted = rw c.in-Err-Read.field-0-is at c.in-Err-Read.ensures.out_count in
    let reported = c.print_fault_line.ensures in
    let is_fault = ap (λ (line : FaultLine). status_of line.kind)
    c.fault_line_of_failed_read.ensures in
    printed-reported c.args.options (g.S.Source.remaining c.args.source.now)
    (sink_call g.K.Sink.contents g.K.Sink.failure_count c.args.out.now c.print_fault_line.new.out)
    (g.K.Sink.contents c.survey.new.out) (g.K.Sink.failure_count c.survey.new.out) _ _
    c.survey.ensures.grows (omega (arith, counted)) reported.printed is_fault reported.is_not_done
    (reported.fault is_fault)

pub returns-in-Err-Memory-clause-printed : goal.returns-in-Err-Memory-clause-printed
returns-in-Err-Memory-clause-printed g c =
    let counted = rw c.in-Err-Memory.field-0-is at c.in-Err-Memory.ensures.out_count in
    let reported = c.print_fault_line-in-Err-Memory.ensures in
    let is_fault = ap (λ (line : FaultLine). status_of line.kind) c.usage_fault_line.ensures in
    printed-reported c.args.options (g.S.Source.remaining c.args.source.now)
    (sink_call g.K.Sink.contents g.K.Sink.failure_count c.args.out.now
    c.print_fault_line-in-Err-Memory.new.out)
    (g.K.Sink.contents c.survey.new.out) (g.K.Sink.failure_count c.survey.new.out) _ _
    c.survey.ensures.grows (omega (arith, counted)) reported.printed is_fault reported.is_not_done
    (reported.fault is_fault)
