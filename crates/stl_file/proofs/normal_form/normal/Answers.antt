-- At each return of `normal`, the sink received nothing, a prefix of the normal form, or all of it.
use Rattle.std.proofs.Common.{ap, refl, Some}
use Rattle.std.proofs.lemmas.Result.{err_from_is_err_and}
use Rattle.stl_file.proofs.NormalCountsLemmas.{same_count_means_no_failure}
use Rattle.stl_file.proofs.NormalFormLemmas.{refused_opening_writes_nothing}
use Rattle.stl_file.proofs.NormalFormLemmas.{refused_body_writes_nothing, failed_writes_make_prefix}
use Rattle.stl_file.proofs.NormalFormLemmas.{complete_writes_make_normal_form}
use Rattle.stl_file.proofs.normal_form.normal.Goals as goal

pub returns-in-Err-clause-answer : goal.returns-in-Err-clause-answer
returns-in-Err-clause-answer g c =
    refused_opening_writes_nothing c.args.file.now c.in-Err.fault _
    (c.in-Err.ensures.exact c.args.file.now (ap Some c.new-source.ensures)
    (same_count_means_no_failure _ c.in-Err.ensures.count))

pub returns-in_err-counts-clause-answer : goal.returns-in_err-counts-clause-answer
returns-in_err-counts-clause-answer g c =
    let p = err_from_is_err_and c.from_residual.result c.from_residual.ensures.1 in
    rw (p.1, p.2)
    (refused_body_writes_nothing c.args.file.now c.in-Ok.reader _ _
    (c.in-Ok.ensures.exact c.args.file.now (ap Some c.new-source.ensures) refl)
    c.in_err-counts.ensures.kind
    (rw c.split_at.ensures.back at c.in_err-counts.ensures.exact))

pub returns-in_err-write_normal_form-clause-answer :
    goal.returns-in_err-write_normal_form-clause-answer
returns-in_err-write_normal_form-clause-answer g c =
    let p = err_from_is_err_and c.from_residual-in_err-write_normal_form.result
    c.from_residual-in_err-write_normal_form.ensures.1 in
    rw (p.1, p.2)
    (failed_writes_make_prefix c.args.file.now c.in-Ok.reader c.in_ok-counts.counts
    c.set_counts.new.self
    (c.in-Ok.ensures.exact c.args.file.now (ap Some c.new-source.ensures) refl)
    (rw c.split_at.ensures.back at c.in_ok-counts.ensures.exact)
    (rw c.gsi-gsi.ensures at c.set_counts.ensures) _ _
    (rw c.split_at.ensures.back at c.in_err-write_normal_form.ensures.bytes))

pub returns-clause-answer : goal.returns-clause-answer
returns-clause-answer g c =
    complete_writes_make_normal_form c.args.file.now c.in-Ok.reader c.in_ok-counts.counts
    c.set_counts.new.self
    (c.in-Ok.ensures.exact c.args.file.now (ap Some c.new-source.ensures) refl)
    (rw c.split_at.ensures.back at c.in_ok-counts.ensures.exact)
    (rw c.gsi-gsi.ensures at c.set_counts.ensures) _ _
    (rw c.split_at.ensures.back at c.in_ok-write_normal_form.ensures.bytes)
