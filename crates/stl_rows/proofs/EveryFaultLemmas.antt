-- If a subtitle file has faults, `load` returns the first of them.
use Rattle.std.proofs.Common.{◌≡◌, ℕ, List, ◌∷◌, Option, Some, None, []}
use Rattle.std.proofs.Common.{Ok, map, inl, inr}
use Rattle.std.proofs.Common.{Err, refl, sym, ◌<◌, ◌≤◌, ◌⊎◌, Bool, true, false, arith, take}
use Rattle.std.proofs.lemmas.Bool.Decides.{nat_tests}
use Rattle.std.specs.Prelude.{◌↔◌, ◌≢◌, is_some}
use Rattle.std.specs.List.{filter}
use Rattle.sub_io.specs.Reporting.{KeepsFirst, Reports}
use Rattle.sub_io.proofs.ReportingLemmas.{only_first_item_is_reported}
use Rattle.stl_file.specs.declared.fault.StlFault.TheVariants.{Ended, Read, Unfinished}
use Rattle.stl_rows.specs.declared.fault.LoadFault.{LoadFault}
use Rattle.stl_rows.specs.declared.fault.LoadFaultKind.{LoadFaultKind}
use Rattle.stl_rows.specs.declared.layout.Drawing.{Drawing}
use Rattle.stl_rows.specs.declared.fault.LoadFaultKind.TheVariants.{File, Memory}
use Rattle.stl_rows.specs.EveryFault.{FailsReporting, ReportsFaults, ReportsSomeFileFaults, faults}
use Rattle.stl_rows.specs.EveryFault.{is_file_fault}
use Rattle.stl_rows.specs.EveryFault.{EndsSubtitleAfter, RunsOutOfMemory, is_reported_before}
use Rattle.stl_rows.specs.EveryFault.{load_fault}
use Rattle.stl_rows.specs.Judged.{JudgedValue, JudgesFile}
use Rattle.stl_rows.specs.Loading.{EndsFaultlessAfter, EndsFaultlessSubtitle, FailsLoading}
use Rattle.stl_rows.specs.Loading.{IsErrorOfLoad, loaded_programme}
use Rattle.stl_rows.specs.Loading.{programme_unless_faulty}
use Rattle.stl_rows.specs.Fault.{is_load_read_failure, is_read_failure_kind}
use Rattle.stl_rows.specs.Programme.{ProgrammeValue, faults_of_next_subtitle, times_of}
use Rattle.stl_rows.specs.declared.times.Times.{Times}
use Rattle.stl_file.specs.Reader.{findings_within_scope}
use Rattle.stl_file.specs.Reading.{Findings, breaks, finds, no_more, refuses}
use Rattle.stl_rows.proofs.FaultlessLemmas.{empty_append_has_empty_parts, empty_map_has_empty_list}
use Rattle.stl_rows.specs.TextCode.{first_of}

loading_reports_first_fault : (fs : List LoadFault) (p : ProgrammeValue) (fault : LoadFault)
    → (programme_unless_faulty fs p ≡ Err fault) ↔ (first_of fs ≡ Some fault)
loading_reports_first_fault [] p fault = ((λ e. absurd cc), (λ e. absurd cc))
loading_reports_first_fault (f ∷ fs) p fault = ((λ e. cc), (λ e. cc))

first_fault : (drawing : Drawing) (file : List ℕ) (fault : LoadFault)
    → (loaded_programme drawing file ≡ Err fault) ↔ (first_of (faults drawing file) ≡ Some fault)
unfolding loaded_programme
first_fault drawing file fault = loading_reports_first_fault (faults drawing file) _ fault

single_taken_fault_is_first : (n : ℕ) (all : List LoadFault) (fault : LoadFault)
    → 0 < n
    → fault ∷ [] ≡ take n all
    → first_of all ≡ Some fault
single_taken_fault_is_first n all fault some h = grind (arith, nat_tests)

reports-kind : (drawing : Drawing) (file : List ℕ) (block : ℕ) (kind : LoadFaultKind)
    → is_file_fault kind ≡ true
    → loaded_programme drawing file ≡ Err (load_fault block kind)
    → IsErrorOfLoad drawing file block kind
reports-kind drawing file block kind fault_is_in_file h = grind (arith, nat_tests)

pub first-fault_is_in_file : (first : Option LoadFault)
    → ReportsSomeFileFaults KeepsFirst None first
    → (fault : LoadFault) × (first ≡ Some fault) × (is_file_fault fault.kind ≡ true)
first-fault_is_in_file first fault_is_in_file = grind
    (arith, nat_tests, only_first_item_is_reported)

file_fault_excludes_read_failure : (kind : LoadFaultKind)
    → is_file_fault kind ≡ true
    → (kind ≢ File Ended) × (is_read_failure_kind kind ≡ false)
file_fault_excludes_read_failure kind fault_is_in_file = grind (arith, nat_tests)

pub first-file_fault_excludes_read_failure : (new first : Option LoadFault) (fault : LoadFault)
    → new ≡ None
    → first ≡ Some fault
    → ReportsSomeFileFaults KeepsFirst new first
    → (fault.kind ≢ File Ended) × (is_load_read_failure fault ≡ false)
first-file_fault_excludes_read_failure new first fault is_new is_first fault_is_in_file =
    grind (
      arith,
      nat_tests,
      first-fault_is_in_file first (rw is_new at fault_is_in_file),
      file_fault_excludes_read_failure fault.kind,
    )

pub reports-first : (drawing : Drawing) (file : List ℕ) (fault : LoadFault) (stopped : Bool)
    → ReportsFaults KeepsFirst None (Some fault) stopped (faults drawing file)
    → ReportsSomeFileFaults KeepsFirst None (Some fault)
    → IsErrorOfLoad drawing file fault.block fault.kind
reports-first drawing file fault stopped reported fault_is_in_file =
    let p = reported.prefix in
    let taken = only_first_item_is_reported (Some fault) (take p.0 (faults drawing file)) p.3 in
    let first = single_taken_fault_is_first p.0 (faults drawing file) fault p.1 taken in
    let own = first-fault_is_in_file (Some fault) fault_is_in_file in
    let kind : is_file_fault fault.kind ≡ true = let same = own.1 in let is = own.2 in cc in
    reports-kind drawing file fault.block fault.kind kind
    ((first_fault drawing file fault).1 first)

first_fault_is_not_earlier : (block : ℕ) (all : List LoadFault) (fault : LoadFault)
    → first_of all ≡ Some fault
    → filter (is_reported_before block) all ≡ []
    → is_reported_before block fault ≡ false
first_fault_is_not_earlier block all fault first none = grind (arith, nat_tests)

later_fault_is_at_block : (block at : ℕ) (kind : LoadFaultKind)
    → is_reported_before block (load_fault at kind) ≡ false
    → (kind ≡ File Unfinished) ⊎ (block ≤ at)
later_fault_is_at_block block at kind h = grind (arith, nat_tests)

-- If the source failed at a block and no fault was reported, no fault of the file is found before
-- that block.
pub none-reported : (drawing : Drawing) (old new : Option (List ℕ)) (block : ℕ)
    (reported : Option LoadFault)
    → (is_some reported ≡ true → ⊥)
    → FailsReporting drawing old new KeepsFirst None reported block
    → FailsLoading drawing old new block
none-reported drawing old new block (Some fault) none failed = absurd (none refl)
none-reported drawing old new block None none failed = record {
  bytes = failed.bytes;
  consumed = failed.consumed;
  block_eq = failed.block_eq;
  none = λ all is fault e.
      later_fault_is_at_block block fault.block fault.kind
      (first_fault_is_not_earlier block (faults drawing all) fault
      ((first_fault drawing all fault).0 e)
      (sym (only_first_item_is_reported None _ (failed.reported all is))));
}

pub loads-all : (drawing : Drawing) (file : List ℕ) (j : JudgedValue)
    → JudgesFile drawing file j
    → Reports KeepsFirst None None (faults drawing file)
    → loaded_programme drawing file ≡ Ok j.programme
loads-all drawing file j judged reported =
    (judged.whole (sym (only_first_item_is_reported None (faults drawing file) reported))).0

ending_subtitle_ends_after_times : (drawing : Drawing) (before : Option Times) (at : ℕ)
    (left : Findings)
    → EndsSubtitleAfter drawing before [] at left
    → EndsFaultlessAfter drawing before at left
ending_subtitle_ends_after_times drawing before at no_more e = e
ending_subtitle_ends_after_times drawing before at (breaks f block) e = e
ending_subtitle_ends_after_times drawing before at (refuses f block left) e = absurd
    (let none = e.1 in cc)
ending_subtitle_ends_after_times drawing before at (finds t block left)
    (inl here) = (here.2, inl here.0)
ending_subtitle_ends_after_times drawing before at (finds t block left) (inr later) =
    let parts =
    empty_append_has_empty_parts (map (load_fault block) (faults_of_next_subtitle drawing before t))
    later.0 (sym later.1) in
    let own = empty_map_has_empty_list (load_fault block) (faults_of_next_subtitle drawing before t)
    parts.0 in (
      own,
      inr (ending_subtitle_ends_after_times drawing (Some (times_of t)) at left
          (rw parts.1 at later.2)),
    )

pub ends-record : (drawing : Drawing) (file : List ℕ) (block : ℕ)
    → RunsOutOfMemory drawing file KeepsFirst None None block
    → EndsFaultlessSubtitle drawing file block
ends-record drawing file block wants =
    let none = only_first_item_is_reported None _ wants.reported in
    ending_subtitle_ends_after_times drawing None block (findings_within_scope drawing.scope file)
    (rw (sym none) at wants.ends)

-- If the source failed, or memory could not be allocated before any fault was reported, `load` may
-- return that error.
pub reports-failed : (drawing : Drawing) (file : List ℕ) (block : ℕ) (kind : LoadFaultKind)
    → (kind ≡ Memory) ⊎ (kind ≡ File Read)
    → (kind ≡ Memory → RunsOutOfMemory drawing file KeepsFirst None None block)
    → IsErrorOfLoad drawing file block kind
reports-failed drawing file block kind (inl is) wants =
    rw is (ends-record drawing file block (wants is))
reports-failed drawing file block kind (inr is) wants = rw is tt

pub keeps-none : (first : Option LoadFault) → (is_some first ≡ true → ⊥) → first ≡ None
keeps-none None continues = refl
keeps-none (Some fault) continues = absurd (continues refl)
