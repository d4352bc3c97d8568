-- In each iteration and at each return of `load_all_with_allocator`, exactly the faults found so
-- far are reported, unless the receiver stops the reports.
use Rattle.std.proofs.Common.{◌∙◌, ◌++◌, ◌<◌, refl, rules, sym, [], ◌∷◌, map, arith}
use Rattle.std.proofs.Common.{drop, inl, inr}
use Rattle.std.proofs.lemmas.Bool.Decides.{nat_tests}
use Rattle.std.proofs.lemmas.Bool.{cases_Bool, lt-ltb}
use Rattle.std.specs.Prelude.{◌≢◌}
use Rattle.sub_io.proofs.ReportingLemmas.{Reports-none, Reports-trans}
use Rattle.stl_file.specs.declared.fault.StlFault.TheVariants.{Ended}
use Rattle.stl_rows.specs.declared.fault.LoadFaultKind.TheVariants.{File}
use Rattle.stl_rows.specs.EveryFault.{load_fault}
use Rattle.stl_rows.specs.Keeping.{is_checkable}
use Rattle.stl_rows.specs.Programme.{faults_of_next_subtitle}
use Rattle.std.proofs.lemmas.List.Elements.{All-nil}
use Rattle.stl_file.proofs.FileLemmas.{findings_within_scope-begun, findings_within_scope-refused}
use Rattle.stl_file.proofs.ReaderLemmas.{left-then}
use Rattle.stl_rows.proofs.FailedReadLemmas.{fails-next, has_taken-next, reads-nothing}
use Rattle.stl_rows.proofs.KeepingLemmas.{kept-next, kept-none, kept-refused, none-requested}
use Rattle.stl_rows.proofs.KeepingLemmas.{programme-kept}
use Rattle.stl_rows.proofs.LoadingLemmas.{found-from, continues-next, continues-start}
use Rattle.stl_rows.proofs.LoadingLemmas.{can_judge-broken, can_judge-enough, can_judge-not}
use Rattle.stl_rows.proofs.LoadingLemmas.{fault_is_in_file-end, fault_is_in_file-stopped}
use Rattle.stl_rows.proofs.LoadingLemmas.{IsReportedUpToBlock, some-few, reports-end, reported-all}
use Rattle.stl_rows.proofs.LoadingLemmas.{first_block_fault_is_content, continues-refused}
use Rattle.stl_rows.proofs.LoadingLemmas.{wants-memory}
use Rattle.stl_rows.proofs.LoadingLemmas.{reports-none, reports-refused, reports-stop}
use Rattle.stl_rows.proofs.LoadingLemmas.{reported-next}
use Rattle.stl_rows.proofs.LoadingLemmas.{reported-fault_is_in_file, reported-refused}
use Rattle.stl_rows.proofs.every_fault.load_all_with_allocator.Goals as goal

pub subtitles-init : goal.subtitles-init
subtitles-init g c = rw c.new-kept.ensures (record {
  early = [];
  reported = Reports-none _;
  early_reported = All-nil (IsReportedUpToBlock c.in-Ok.reader.block);
  records_match_faults = kept-none c.args.drawing;
  audience_listens = c.requires.audience_listens;
  reading = rw c.in-Ok.ensures.start refl;
  scope = rw c.in-Ok.ensures.start refl;
  count = search rules;
  taken = rw c.in-Ok.ensures.start (record {
    bytes = c.in-Ok.ensures.taken.0;
    consumed = c.in-Ok.ensures.taken.2;
    long = c.in-Ok.ensures.taken.1.size;
  });
  continues = λ bytes e. (
    drop 1024 bytes,
    c.in-Ok.ensures.left bytes e,
    rw c.in-Ok.ensures.start
        (rw (findings_within_scope-begun c.args.drawing.scope bytes _ (c.in-Ok.ensures.exact bytes e
        refl))
        at (continues-start c.args.drawing bytes)),
  );
})

pub subtitles-preserved-in-Ok-Refused : goal.subtitles-preserved-in-Ok-Refused
subtitles-preserved-in-Ok-Refused g c =
    let i = c.subtitles.invariant in
    let block = c.next_into.new.self.block in
    let fault = c.in-Ok-Refused.fault in
    let l = rw (c.in-Ok-Refused.field-0-is, i.scope) at (c.in-Ok-Refused.ensures.leads refl) in
    let first = rw c.in-Ok-Refused.field-0-is at c.in-Ok-Refused.ensures.first in
    let reported = rw c.block-in-Ok-Refused.ensures.value at c.in-Ok-report_fault.ensures.reported
    in
    rw c.note_rejected.ensures (record {
      early = i.early ++ load_fault block (File fault) ∷ [];
      reported = Reports-trans _ _ _ i.early _ i.reported reported;
      early_reported = reported-refused fault c.subtitles.reader.block block
          i.early
          (let b = l.block in omega arith) first i.early_reported;
      records_match_faults = kept-refused (load_fault block (File fault))
          i.records_match_faults;
      audience_listens = search rules;
      reading = rw c.in-Ok-Refused.field-0-is at c.in-Ok-Refused.ensures.progress;
      scope = c.in-Ok-Refused.ensures.scope ∙ i.scope;
      count = search rules;
      taken = has_taken-next l refl i.taken;
      continues = λ bytes e.
          let was = i.continues bytes e in
          let now = left-then _ _ was.0 l was.1 in
          (now.0, now.1, continues-refused fault block (rw now.2 at was.2));
    })

pub returns-in-Ok-report_end-clause-exact : goal.returns-in-Ok-report_end-clause-exact
returns-in-Ok-report_end-clause-exact g c = λ bytes e.
    let refused = c.in-Err.ensures.exact bytes e c.in-Ok-report_end.ensures.file in
    let end = findings_within_scope-refused c.args.drawing.scope bytes _ refused in
    let start = continues-start c.args.drawing bytes in (
      reports-end start (Reports-none _) end c.in-Ok-report_end.ensures.reported,
      inr (can_judge-broken start end),
    )

pub returns-in-Err-report_end-clause-read : goal.returns-in-Err-report_end-clause-read
returns-in-Err-report_end-clause-read g c = grind (arith, nat_tests, lt-ltb, reads-nothing)

pub returns-in-Ok-report_end-2-clause-exact : goal.returns-in-Ok-report_end-2-clause-exact
returns-in-Ok-report_end-2-clause-exact g c = λ bytes e.
    let i = c.subtitles.invariant in
    let was = i.continues bytes e in
    let l = rw i.scope at (c.in-Err-next_into.ensures.leads c.in-Ok-report_end-2.ensures.file) in
    let end = left-then _ _ was.0 l was.1 in (
      reports-end was.2 i.reported end.2
          (rw c.block.ensures.value at c.in-Ok-report_end-2.ensures.reported),
      inr (can_judge-broken was.2 end.2),
    )

pub returns-in-Ok-report_end-2-clause-reported : goal.returns-in-Ok-report_end-2-clause-reported
returns-in-Ok-report_end-2-clause-reported g c =
    let i = c.subtitles.invariant in
    let ended : c.in-Err-next_into.fault ≢ Ended = grind (arith, nat_tests) in
    fault_is_in_file-end i.early c.in-Err-next_into.fault i.early_reported
    c.in-Ok-report_end-2.ensures.file
    ended
    i.reported c.in-Ok-report_end-2.ensures.reported

pub returns-in-Err-report_end-2-clause-read : goal.returns-in-Err-report_end-2-clause-read
returns-in-Err-report_end-2-clause-read g c = λ is.
    let i = c.subtitles.invariant in
    let failed = c.in-Err-report_end-2.ensures.read in
    rw (failed.1, failed.2, c.block.ensures.value)
    (fails-next c.subtitles.reader i.taken i.early_reported i.reported i.continues
    (rw i.scope at (c.in-Err-next_into.ensures.failed (rw failed.0 refl))))

pub returns-in_default-clause-exact : goal.returns-in_default-clause-exact
returns-in_default-clause-exact g c = λ bytes e.
    let i = c.subtitles.invariant in
    let was = i.continues bytes e in
    let l = rw (c.in-Ok-Refused.field-0-is, i.scope) at (c.in-Ok-Refused.ensures.leads refl) in
    let now = left-then _ _ was.0 l was.1 in (
      reports-refused was.2 i.reported _ now.2 c.in_default.ensures.stopped
          (rw c.block-in-Ok-Refused.ensures.value at c.in_default.ensures.reported),
      inl c.in_default.ensures.stopped,
    )

pub returns-in_default-clause-reported : goal.returns-in_default-clause-reported
returns-in_default-clause-reported g c =
    let i = c.subtitles.invariant in
    let first = rw c.in-Ok-Refused.field-0-is at c.in-Ok-Refused.ensures.first in
    let kind = first_block_fault_is_content c.in-Ok-Refused.fault first in
    fault_is_in_file-end i.early c.in-Ok-Refused.fault i.early_reported kind.0 kind.1 i.reported
    c.in_default.ensures.reported

pub returns-in_default-report_faults-clause-exact :
    goal.returns-in_default-report_faults-clause-exact
returns-in_default-report_faults-clause-exact g c = λ bytes e.
    let i = c.subtitles.invariant in
    let was = i.continues bytes e in
    let l = rw (c.in-Ok-Subtitle.field-0-is, i.scope) at (c.in-Ok-Subtitle.ensures.leads refl) in
    let now = left-then _ _ was.0 l was.1 in (
      reports-stop was.2 i.reported _ now.2
          c.in_default-report_faults.ensures.stopped
          (rw c.block-block.ensures.value at c.in_default-report_faults.ensures.stops),
      inl c.in_default-report_faults.ensures.stopped,
    )

pub returns-in_default-report_faults-clause-reported :
    goal.returns-in_default-report_faults-clause-reported
returns-in_default-report_faults-clause-reported g c =
    let i = c.subtitles.invariant in
    let l = rw (c.in-Ok-Subtitle.field-0-is, i.scope) at (c.in-Ok-Subtitle.ensures.leads refl) in
    fault_is_in_file-stopped i.early _
    (reported-next c.args.drawing c.subtitles.before c.next_into.new.subtitle
    c.subtitles.reader.block c.next_into.new.self.block i.early (let b = l.block in omega arith)
    i.early_reported) i.reported
    (rw c.block-block.ensures.value at c.in_default-report_faults.ensures.stops)

pub returns-in-Ok-End-clause-exact : goal.returns-in-Ok-End-clause-exact
returns-in-Ok-End-clause-exact g c = λ bytes e.
    let i = c.subtitles.invariant in
    let was = i.continues bytes e in
    let l = rw (c.in-Ok-End.field-0-is, i.scope) at (c.in-Ok-End.ensures.leads refl) in
    let end = left-then _ _ was.0 l was.1 in
    elim (cases_Bool (is_checkable c.subtitles.kept)) [
      | inl enough ↦
          rw (c.into_checkable.ensures, enough) (
            can_judge-enough was.2 end.2 i.records_match_faults enough,
            rw (reported-all was.2 end.2) i.reported,
          )
      | inr few ↦
          rw (c.into_checkable.ensures, few) (
            reports-none was.2 i.reported end.2 (some-few i.records_match_faults
                few),
            inr (can_judge-not was.2 end.2 few),
          )
    ]

pub returns-in-Ok-End-clause-programme : goal.returns-in-Ok-End-clause-programme
returns-in-Ok-End-clause-programme g c =
    elim (cases_Bool (is_checkable c.subtitles.kept)) [
      | inl enough ↦
          rw (c.into_checkable.ensures, enough)
          (programme-kept c.subtitles.invariant.records_match_faults enough)
      | inr few ↦ rw (c.into_checkable.ensures, few) tt
    ]

pub returns-in-Ok-End-clause-reported : goal.returns-in-Ok-End-clause-reported
returns-in-Ok-End-clause-reported g c =
    let i = c.subtitles.invariant in
    let fault_is_in_file = reported-fault_is_in_file c.subtitles.reader.block i.early
    i.early_reported in
    elim (cases_Bool (is_checkable c.subtitles.kept)) [
      | inl enough ↦
          rw (c.into_checkable.ensures, enough)
          (record { faults = i.early; fault_is_in_file = fault_is_in_file; reported = i.reported })
      | inr few ↦ rw (c.into_checkable.ensures, few) (record {
        faults = i.early;
        some = some-few i.records_match_faults few;
        fault_is_in_file = fault_is_in_file;
        reported = i.reported;
      })
    ]

pub subtitles-preserved : goal.subtitles-preserved
subtitles-preserved g c =
    let i = c.subtitles.invariant in
    let t = c.next_into.new.subtitle in
    let block = c.next_into.new.self.block in
    let l = rw (c.in-Ok-Subtitle.field-0-is, i.scope) at (c.in-Ok-Subtitle.ensures.leads refl) in
    let is_clean = c.in-Ok-report_faults.ensures.clean in
    let is_order =
    none-requested _ _
    (rw (c.order_fault_after.ensures, c.of-times.ensures.value) at c.is_none-in_order.ensures) in
    let reported = rw c.block-block.ensures.value at c.in-Ok-report_faults.ensures.reported in
    rw (c.in_default-put.ensures.kept, c.of-times.ensures.value) (record {
      early = i.early ++ map (load_fault block)
          (faults_of_next_subtitle c.args.drawing c.subtitles.before t);
      reported = Reports-trans _ _ _ i.early _ i.reported reported;
      early_reported = reported-next c.args.drawing c.subtitles.before t c.subtitles.reader.block
          block
          i.early (let b = l.block in omega arith) i.early_reported;
      records_match_faults = kept-next t block i.records_match_faults
          c.is_none-in_order.result
          c.in-Ok-report_faults.clean is_clean c.of-times.ensures.subtitle;
      audience_listens = search rules;
      reading = rw c.in-Ok-Subtitle.field-0-is at c.in-Ok-Subtitle.ensures.progress;
      scope = c.in-Ok-Subtitle.ensures.scope ∙ i.scope;
      count = search rules;
      taken = has_taken-next l refl i.taken;
      continues = λ bytes e.
          let was = i.continues bytes e in
          let now = left-then _ _ was.0 l was.1 in (
            now.0,
            now.1,
            continues-next t block c.is_none-in_order.result
                c.in-Ok-report_faults.clean i.records_match_faults
                is_order is_clean (rw now.2 at was.2),
          );
    })

pub returns-in-Err-put-clause-exact : goal.returns-in-Err-put-clause-exact
returns-in-Err-put-clause-exact g c = λ bytes e is.
    let i = c.subtitles.invariant in
    let t = c.next_into.new.subtitle in
    let block = c.next_into.new.self.block in
    let was = i.continues bytes e in
    let l = rw (c.in-Ok-Subtitle.field-0-is, i.scope) at (c.in-Ok-Subtitle.ensures.leads refl) in
    let now = left-then _ _ was.0 l was.1 in
    let reading = rw c.in-Ok-Subtitle.field-0-is at c.in-Ok-Subtitle.ensures.progress in
    let place = rw reading at c.in-Ok-Subtitle.ensures.place in
    let named = found-from c.args.drawing.scope block c.next_into.new.self.refused
    now.0 place in
    let later : c.subtitles.reader.block < block =
    let whole = l.whole refl in
    let some = l.some refl in
    omega (arith, whole, some) in
    let reported = rw c.block-block.ensures.value at c.in-Ok-report_faults.ensures.reported in
    rw c.block-block.ensures.value
    (wants-memory c.subtitles.reader.block block t _ later i.early_reported named
    (sym c.in-Ok-report_faults.ensures.clean ∙ c.in-Err-put.ensures.memory.1) (rw now.2 at was.2)
    (Reports-trans _ _ _ i.early _ i.reported reported))
