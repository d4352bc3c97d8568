-- `load_with_allocator`: the first reported fault is the result; without a fault the programme has
-- all subtitles; if the source failed or memory could not be allocated, no fault was found before.
use Rattle.std.proofs.Common.{arith, ◌∙◌, rules, sym}
use Rattle.std.proofs.lemmas.Bool.Decides.{nat_tests}
use Rattle.stl_rows.proofs.EveryFaultLemmas.{first-file_fault_excludes_read_failure}
use Rattle.stl_rows.proofs.EveryFaultLemmas.{first-fault_is_in_file, keeps-none}
use Rattle.stl_rows.proofs.EveryFaultLemmas.{loads-all, none-reported, reports-failed}
use Rattle.stl_rows.proofs.EveryFaultLemmas.{reports-first}
use Rattle.stl_rows.proofs.loading.load_with_allocator.Goals as goal

pub returns-in-Ok-Some-clause-exact : goal.returns-in-Ok-Some-clause-exact
returns-in-Ok-Some-clause-exact g c = λ bytes e.
    let ok = c.in-Ok-Some.ensures in
    let continues =
    keeps-none c.load_all_with_allocator.new.report_sink
    (λ stopped. let is = ok.stopped stopped in let own = c.in-Ok-Some.field-0-is in cc) in
    let exact = rw c.in-Ok-Some.field-0-is at (ok.exact bytes e) in
    rw c.into_subtitles.ensures
    (loads-all c.args.drawing bytes _ exact.0 (rw (c.new-first.ensures, continues) at exact.1))

pub returns-in-Err-clause-fault : goal.returns-in-Err-clause-fault
returns-in-Err-clause-fault g c = λ bytes e.
    let failed = c.in-Err.ensures in
    let continues =
    keeps-none c.load_all_with_allocator.new.report_sink (λ stopped. let is = failed.stopped stopped
    in cc) in
    reports-failed c.args.drawing bytes c.in-Err.fault.block c.in-Err.fault.kind failed.kinds
    (λ is. rw (c.new-first.ensures, continues) at (failed.exact bytes e is))

pub unreachable-requires : goal.unreachable-requires
unreachable-requires g c = grind (arith, nat_tests, first-fault_is_in_file)

pub returns-in-Some : goal.returns-in-Some
returns-in-Some g c =
    let first = sym c.into_first.ensures ∙ c.in-Some.is in
    let fault_is_in_file = rw c.in-Ok-None.field-0-is at c.in-Ok-None.ensures.reported in
    let own = first-file_fault_excludes_read_failure _ _ c.in-Some.fault c.new-first.ensures first
    fault_is_in_file in
    record {
      exact = search rules;
      fault = λ bytes e.
          let exact = rw c.in-Ok-None.field-0-is at (c.in-Ok-None.ensures.exact bytes e) in
          reports-first c.args.drawing bytes c.in-Some.fault _
          (rw (c.new-first.ensures, first) at exact.0)
          (rw (c.new-first.ensures, first) at fault_is_in_file);
      never = own.0;
      programme = search rules;
      read = λ is. absurd cc;
      count = rw own.1 c.in-Ok-None.ensures.count;
    }

pub returns-in-Err-clause-read : goal.returns-in-Err-clause-read
returns-in-Err-clause-read g c = grind (arith, nat_tests, none-reported)
