use Rattle.std.proofs.Common.{rules}
use Rattle.sub_rules.specs.Fault.{is_pes_read_failure, is_stl_read_failure}
use Rattle.sub_answer.proofs.AnsweringLemmas.{answer_of_check_files, reported_failure_counts_once}
use Rattle.sub_answer.proofs.BothFilesLemmas.{pes-fails, stl-fails}
use Rattle.sub_answer.proofs.answering.check.print_verdict.Goals as goal

pub returns-clause-check : goal.returns-clause-check
returns-clause-check g c =
    let made = c.check_files-answer.ensures in
    answer_of_check_files _ _ _ _ _ _ _ _ _ c.check_files-answer.result.result
    c.law_of_loading.ensures
    c.print_answer.ensures.printed made.starts (search rules) made.checked

pub returns-clause-stl_failure_count : goal.returns-clause-stl_failure_count
returns-clause-stl_failure_count g c =
    reported_failure_counts_once is_stl_read_failure stl-fails _ _ _ _ _
    c.check_files-answer.result.result
    c.print_answer.ensures.printed c.check_files-answer.ensures.stl_failure_count

pub returns-clause-pes_failure_count : goal.returns-clause-pes_failure_count
returns-clause-pes_failure_count g c =
    reported_failure_counts_once is_pes_read_failure pes-fails _ _ _ _ _
    c.check_files-answer.result.result
    c.print_answer.ensures.printed c.check_files-answer.ensures.pes_failure_count
