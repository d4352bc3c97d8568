-- If the bytes of both files are known, and neither a device failed nor memory ran out, the status
-- of a check is 0 exactly if these bytes are accepted.
use Rattle.std.proofs.Common.{◌≡◌, ◌≢◌, ◌↔◌, ◌∙◌, ap, arith, refl, sym, ℕ, List, Bool, true}
use Rattle.std.proofs.Common.{false, Result, Ok, Err}
use Rattle.std.specs.Prelude.{IsFalse, IsOk}
use Rattle.std.proofs.lemmas.Bool.{true≢false}
use Rattle.std.proofs.lemmas.Bool.Decides.{nat_tests}
use Rattle.std.specs.Io.KnownBytes.{Appends}
use Rattle.sub_io.specs.Device.{failed}
use Rattle.sub_io.specs.Reading.{IfKnown}
use Rattle.ttx_pes.specs.declared.fault.PesFault.TheVariants as pes_fault
use Rattle.stl_file.specs.declared.fault.StlFault.TheVariants as stl
use Rattle.stl_rows.specs.Fault.{is_read_failure_kind}
use Rattle.stl_rows.specs.EveryFault.{load_fault}
use Rattle.stl_rows.specs.Loading.{LawOfLoading, loaded_programme}
use Rattle.stl_rows.specs.Programme.{ProgrammeValue}
use Rattle.stl_rows.specs.declared.fault.LoadFaultKind.{LoadFaultKind}
use Rattle.stl_rows.specs.declared.fault.LoadFaultKind.TheVariants as load
use Rattle.stl_rows.specs.declared.layout.Drawing.{Drawing}
use Rattle.sub_plan.specs.Options.{OptionsValue}
use Rattle.sub_rules.specs.Fault.{is_failure, is_failure_kind, is_pes_read_failure}
use Rattle.sub_rules.specs.Fault.{is_stl_read_failure}
use Rattle.sub_rules.specs.Fault.{is_subtitle_fault}
use Rattle.sub_rules.specs.declared.fault.CheckFault.{CheckFault}
use Rattle.sub_rules.specs.declared.fault.CheckFault.TheVariants as fault
use Rattle.sub_checker.specs.declared.accepted.Accepted.{Accepted}
use Rattle.sub_check.specs.CheckedFiles.{IsAccepted, IsAcceptedBy, IsChecked, IsCheckedBy}
use Rattle.sub_check.proofs.FilesLemmas.{accepted-described_files_load, accepted-loads_by}
use Rattle.sub_check.proofs.FilesLemmas.{good_transmission_is_accepted}
use Rattle.sub_check.proofs.FilesLemmas.{good_transmission_accepted_within}
use Rattle.sub_check.proofs.FilesLemmas.{accepted_transmission_is_good, accepted_within_is_good}
use Rattle.sub_listing.specs.DeviceCall.{SinkCall, SourceCall}
use Rattle.sub_listing.specs.Faults.{kind_of_failure}
use Rattle.sub_listing.specs.Listing.{Listing, PrintsOrFails}
use Rattle.sub_listing.specs.FaultLine.{status_of}
use Rattle.sub_listing.specs.declared.status.Status.{Status}
use Rattle.sub_listing.specs.declared.status.Status.TheVariants.{Done, Fault}
use Rattle.sub_listing.proofs.PrintingLemmas.{unchanged_count_means_success, printed-status}
use Rattle.sub_listing.proofs.PrintingLemmas.{printed-whole}
use Rattle.sub_answer.specs.BothFiles.{ReportsSources, IsStatusOfFiles}

pub reported-is_not_done : (b : Bool) → status_of (kind_of_failure b) ≢ Done
reported-is_not_done true e = cc
reported-is_not_done false e = cc

pub reported-fails : (b : Bool) → status_of (kind_of_failure b) ≡ Fault → b ≡ true
reported-fails true e = refl
reported-fails false e = cc

pub reported-runs : (b : Bool) → status_of (kind_of_failure b) ≢ Fault → b ≡ false
reported-runs true other = absurd (other refl)
reported-runs false other = refl

pub stl-fails : (f : CheckFault) → is_stl_read_failure f ≡ true → is_failure f ≡ true
stl-fails f is = grind (arith, nat_tests)

pub pes-fails : (f : CheckFault) → is_pes_read_failure f ≡ true → is_failure f ≡ true
pes-fails f is = grind (arith, nat_tests)

memory-kind : (kind : LoadFaultKind)
    → is_failure_kind kind ≡ true
    → is_read_failure_kind kind ≡ false
    → kind ≡ load.Memory
memory-kind load.Memory fails read = refl
memory-kind (load.File stl.Read) fails read = cc
memory-kind kind fails read = cc

memory-fault : {Counts : Type 0} (answer : Result Counts CheckFault)
    → failed is_failure answer ≡ true
    → failed is_stl_read_failure answer ≡ false
    → failed is_pes_read_failure answer ≡ false
    → (block : ℕ) × (answer ≡ Err (fault.Subtitles (load_fault block load.Memory)))
memory-fault (Ok a) fails read fine = absurd (true≢false (sym fails))
memory-fault (Err (fault.Subtitles f)) fails read fine =
    let kind = memory-kind f.kind fails read in
    (f.block, ap (λ k. Err (fault.Subtitles (load_fault f.block k))) kind)
memory-fault (Err (fault.Pes pes pes_fault.Read)) fails read fine = cc
memory-fault (Err f) fails read fine = cc

-- If no source failed, memory did not run out and the subtitle file contains a programme, the
-- answer is `Ok` exactly if the files are accepted. An accepted subtitle file contains a programme.
pub record AcceptsExactly
    (drawing : Drawing) (file : List ℕ) (answer : Result Accepted CheckFault) (Means : Type 0)
    : Type 0 where
  pub exactly :
      (programme : ProgrammeValue)
      → loaded_programme drawing file ≡ Ok programme
      → failed is_subtitle_fault answer ≡ false
      → failed is_pes_read_failure answer ≡ false
      → IsOk answer ↔ Means
  pub described_files_load : Means → (programme : ProgrammeValue) × (loaded_programme drawing file ≡
      Ok programme)

pub exactly-accepted :
    (drawing : Drawing) (options : OptionsValue) (file bytes : List ℕ)
    (answer : Result Accepted CheckFault)
    → LawOfLoading
    → ((programme : ProgrammeValue)
    → loaded_programme drawing file ≡ Ok programme
    → IsChecked programme options bytes answer)
    → AcceptsExactly drawing file answer (IsAccepted drawing options file bytes)
exactly-accepted drawing options file bytes answer loading checked = record {
  exactly = λ p described_files_load looked fine.
      let exact = (checked p described_files_load).accepted looked fine in (
        λ ok. good_transmission_is_accepted drawing options file bytes loading p
            described_files_load (exact.0 ok),
        λ is. exact.1 (accepted_transmission_is_good drawing options file bytes loading p
            described_files_load is),
      );
  described_files_load = accepted-described_files_load drawing options file bytes loading;
}

pub exactly-is_accepted_within :
    (drawing : Drawing) (options : OptionsValue) (file bytes : List ℕ)
    (answer : Result Accepted CheckFault)
    → LawOfLoading
    → ((programme : ProgrammeValue)
    → loaded_programme drawing file ≡ Ok programme
    → IsCheckedBy programme options bytes answer)
    → AcceptsExactly drawing file answer (IsAcceptedBy drawing options file bytes)
exactly-is_accepted_within drawing options file bytes answer loading checked = record {
  exactly = λ p described_files_load looked fine.
      let exact = (checked p described_files_load).accepted looked fine in (
        λ ok. good_transmission_accepted_within drawing options file bytes loading p
            described_files_load (exact.0 ok),
        λ is. exact.1 (accepted_within_is_good drawing options file bytes loading p
            described_files_load is),
      );
  described_files_load = accepted-loads_by drawing options file bytes loading;
}

pub status-reported :
    {Counts : Type 0} {AtBlock AtPes : ℕ → Type 0} {Untouched : Type 0} {concerns_subtitle_file :
    Bool}
    (drawing : Drawing) (options : OptionsValue) (stl pes : SourceCall) (out : SinkCall)
    (listing : Listing) (status : Status) (answer : Result Counts CheckFault)
    (PrintsMemory : Type 0)
    → PrintsOrFails out listing status
    → ReportsSources AtBlock AtPes Untouched concerns_subtitle_file stl pes answer
    → (IsFalse options.keeps
    → options.within ≡ 0
    → listing.status ≢ Fault
    → IfKnown stl.known (λ file.
    IfKnown pes.known (λ bytes.
    (listing.status ≡ Done) ↔ IsAccepted drawing options file bytes)))
    → (listing.status ≢ Fault
    → IfKnown stl.known (λ file.
    IfKnown pes.known (λ bytes.
    (listing.status ≡ Done) ↔ IsAcceptedBy drawing options file bytes)))
    → (listing.status ≡ Fault → failed is_failure answer ≡ true)
    → ((block : ℕ)
    → answer ≡ Err (fault.Subtitles (load_fault block load.Memory))
    → Appends out.old out.new listing.text
    → PrintsMemory)
    → IsStatusOfFiles drawing options stl pes out PrintsMemory status
status-reported drawing options stl pes out listing status answer PrintsMemory printed sources done
    done_by fails memory =
    record {
      done = λ none at_once file reported bytes heard other.
          let is = printed-status out listing status printed other in
          rw is (done none at_once (λ failing. other (is ∙ failing)) file reported bytes heard);
      done_by = λ file reported bytes heard other.
          let is = printed-status out listing status printed other in
          rw is (done_by (λ failing. other (is ∙ failing)) file reported bytes heard);
      fault = λ is stl_same pes_same out_same.
          let whole = printed-whole out listing status printed out_same in
          let expected =
          memory-fault answer (fails (sym whole.1 ∙ is))
          (unchanged_count_means_success (failed is_stl_read_failure answer) _ _
          sources.stl_failure_count
          stl_same)
          (unchanged_count_means_success (failed is_pes_read_failure answer) _ _
          sources.pes_failure_count
          pes_same) in
          memory expected.0 expected.1 whole.0;
    }

pub sources-untouched :
    {Counts : Type 0} (AtBlock AtPes : ℕ → Type 0) (Untouched Other : Type 0) (is : Bool)
    (stl pes : SourceCall) (answer : Result Counts CheckFault)
    → (Untouched → Other)
    → ReportsSources AtBlock AtPes Untouched is stl pes answer
    → ReportsSources AtBlock AtPes Other is stl pes answer
sources-untouched AtBlock AtPes Untouched Other is stl pes answer other reports =
    grind (arith, nat_tests)
