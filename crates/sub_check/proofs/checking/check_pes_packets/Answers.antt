-- The check returns the fault that the report sink stored, or the failure of the source. Without
-- either, it accepts the PES packets.
use Rattle.std.proofs.Common.{◌≡◌, Err, Option, Result, ap}
use Rattle.ttx_pes.specs.declared.fault.PesFault.TheVariants.{Read}
use Rattle.sub_check.proofs.FirstFaultLemmas.{failure_is_at_reported_packet, kept_fault_is_answer}
use Rattle.sub_check.proofs.FirstFaultLemmas.{no_kept_fault_is_accepted}
use Rattle.sub_check.proofs.FirstFaultLemmas.{failed_read_is_answer}
use Rattle.sub_checker.specs.declared.accepted.Accepted.{Accepted}
use Rattle.sub_rules.specs.declared.fault.CheckFault.{CheckFault}
use Rattle.sub_rules.specs.declared.fault.CheckFault.TheVariants as fault
use Rattle.sub_check.proofs.checking.check_pes_packets.Goals as goal

pub returns-in-Ok-Some-clause-checked : goal.returns-in-Ok-Some-clause-checked
returns-in-Ok-Some-clause-checked g c = λ none at_once bytes reported.
    let answer =
    no_kept_fault_is_accepted c.args.programme.now c.args.options.now bytes
    c.in-Ok-Some.ensures.options
    c.in-Ok-Some.ensures.programme
    c.new-first.result c.report_all_faults.new.report_sink c.in-Ok-Some.counts c.new-first.ensures
    (rw c.in-Ok-Some.field-0-is at c.in-Ok-Some.ensures.stopped)
    (λ pes_packets unread reads.
    rw c.in-Ok-Some.field-0-is at (c.in-Ok-Some.ensures.exact bytes reported pes_packets unread
    reads)) in
    answer.at_once none at_once

pub returns-in-Ok-Some-clause-answer_is_checked_within :
    goal.returns-in-Ok-Some-clause-answer_is_checked_within
returns-in-Ok-Some-clause-answer_is_checked_within g c = λ bytes reported.
    let answer =
    no_kept_fault_is_accepted c.args.programme.now c.args.options.now bytes
    c.in-Ok-Some.ensures.options
    c.in-Ok-Some.ensures.programme
    c.new-first.result c.report_all_faults.new.report_sink c.in-Ok-Some.counts c.new-first.ensures
    (rw c.in-Ok-Some.field-0-is at c.in-Ok-Some.ensures.stopped)
    (λ pes_packets unread reads.
    rw c.in-Ok-Some.field-0-is at (c.in-Ok-Some.ensures.exact bytes reported pes_packets unread
    reads)) in
    answer.by

pub returns-in-Ok-None-clause-checked : goal.returns-in-Ok-None-clause-checked
returns-in-Ok-None-clause-checked g c = λ none at_once bytes reported.
    let answer =
    kept_fault_is_answer c.args.programme.now c.args.options.now bytes c.in-Ok-None.ensures.options
    c.in-Ok-None.ensures.programme
    c.new-first.result c.report_all_faults.new.report_sink c.into_fault.result c.new-first.ensures
    c.into_fault.ensures.kept
    (λ pes_packets unread reads.
    rw c.in-Ok-None.field-0-is at (c.in-Ok-None.ensures.exact bytes reported pes_packets unread
    reads)) in
    answer.at_once none at_once

pub returns-in-Ok-None-clause-answer_is_checked_within :
    goal.returns-in-Ok-None-clause-answer_is_checked_within
returns-in-Ok-None-clause-answer_is_checked_within g c = λ bytes reported.
    let answer =
    kept_fault_is_answer c.args.programme.now c.args.options.now bytes c.in-Ok-None.ensures.options
    c.in-Ok-None.ensures.programme
    c.new-first.result c.report_all_faults.new.report_sink c.into_fault.result c.new-first.ensures
    c.into_fault.ensures.kept
    (λ pes_packets unread reads.
    rw c.in-Ok-None.field-0-is at (c.in-Ok-None.ensures.exact bytes reported pes_packets unread
    reads)) in
    answer.by

pub returns-in-Err-clause-checked : goal.returns-in-Err-clause-checked
returns-in-Err-clause-checked g c = λ none at_once bytes reported.
    let answer =
    failed_read_is_answer c.args.programme.now c.args.options.now bytes c.in-Err.ensures.options
    c.in-Err.ensures.programme
    c.new-first.result c.report_all_faults.new.report_sink c.in-Err.fault c.new-first.ensures
    c.in-Err.ensures.continues
    (c.in-Err.ensures.exact bytes reported) c.in-Err.ensures.only in
    answer.at_once none at_once

pub returns-in-Err-clause-answer_is_checked_within :
    goal.returns-in-Err-clause-answer_is_checked_within
returns-in-Err-clause-answer_is_checked_within g c = λ bytes reported.
    let answer =
    failed_read_is_answer c.args.programme.now c.args.options.now bytes c.in-Err.ensures.options
    c.in-Err.ensures.programme
    c.new-first.result c.report_all_faults.new.report_sink c.in-Err.fault c.new-first.ensures
    c.in-Err.ensures.continues
    (c.in-Err.ensures.exact bytes reported) c.in-Err.ensures.only in
    answer.by

pub returns-in-Err-clause-read : goal.returns-in-Err-clause-read
returns-in-Err-clause-read g c = λ pes is.
    let same : c.in-Err.fault ≡ fault.Pes pes Read = cc in
    let failed = ap (λ f. let r : Result (Option Accepted) CheckFault = Err f in r) same in
    failure_is_at_reported_packet c.args.programme.now c.args.options.now
    c.new-first.result c.report_all_faults.new.report_sink c.in-Err.fault pes
    _ _ c.new-first.ensures
    c.in-Err.ensures.continues same (c.in-Err.ensures.read pes failed) c.in-Err.ensures.exact
