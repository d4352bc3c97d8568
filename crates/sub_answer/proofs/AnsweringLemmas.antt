-- The result of `check_files` determines the status of a check: it is 0 exactly if the files are
-- accepted, unless a device failed or memory ran out.
use Rattle.std.proofs.lemmas.Bool.Decides.{nat_tests}
use Rattle.std.proofs.Common.{◌≡◌, ◌≢◌, ◌↔◌, ℕ, List, Some, Result, Ok, Err, true, false}
use Rattle.std.proofs.Common.{ap, arith, refl, sym, subst, Bool}
use Rattle.std.proofs.lemmas.Bool.{true≢false}
use Rattle.std.specs.Io.KnownBytes.{Appends}
use Rattle.sub_io.specs.Device.{CountRisesIf, failed}
use Rattle.sub_io.specs.Reading.{IfKnown}
use Rattle.ttx_pes.specs.Reader.{FailsAfterValidPackets}
use Rattle.stl_file.specs.declared.fault.StlFault.TheVariants as stl
use Rattle.stl_rows.specs.declared.fault.LoadFault.{LoadFault}
use Rattle.stl_rows.specs.declared.fault.LoadFaultKind.{LoadFaultKind}
use Rattle.stl_rows.specs.declared.fault.LoadFaultKind.TheVariants as load
use Rattle.stl_rows.specs.declared.layout.Drawing.{Drawing}
use Rattle.stl_rows.specs.Loading.{FailsLoading, LawOfLoading, IsErrorOfLoad, loaded_programme}
use Rattle.stl_rows.specs.Programme.{ProgrammeValue}
use Rattle.sub_plan.specs.Options.{OptionsValue}
use Rattle.sub_check.specs.CheckedFiles.{AreChecked, IsCheckedBy}
use Rattle.sub_check.specs.CheckedFiles.{ReportsSubtitles}
use Rattle.ttx_pes.specs.declared.fault.PesFault.TheVariants as pes_fault
use Rattle.sub_answer.proofs.FailedReadLemmas.{no_packets_have_no_events}
use Rattle.sub_rules.specs.Fault.{is_failure, is_failure_kind, is_pes_read_failure}
use Rattle.sub_rules.specs.Fault.{is_subtitle_fault}
use Rattle.sub_checker.specs.declared.accepted.Accepted.{Accepted}
use Rattle.sub_rules.specs.declared.fault.CheckFault.{CheckFault}
use Rattle.sub_rules.specs.declared.fault.CheckFault.TheVariants as fault
use Rattle.sub_answer.specs.Answering.{AnswersCheck, verdict}
use Rattle.sub_answer.specs.BothFiles.{ReportsSources}
use Rattle.sub_listing.specs.DeviceCall.{Counts, SinkCall, SourceCall}
use Rattle.sub_listing.specs.Faults.{kind_of_failure}
use Rattle.sub_listing.specs.FaultLine.{status_of}
use Rattle.sub_listing.proofs.PrintingLemmas.{printed-status}
use Rattle.sub_answer.proofs.AllAnswerLemmas.{count_rises_only_with_fault}
use Rattle.sub_listing.specs.FirstPacket.{FirstNumber, StartsAt}
use Rattle.sub_listing.specs.Listing.{PrintsOrFails}
use Rattle.sub_listing.specs.declared.status.Status.{Status}
use Rattle.sub_listing.specs.declared.status.Status.TheVariants.{Done, Fault}
use Rattle.sub_answer.proofs.BothFilesLemmas.{AcceptsExactly, exactly-accepted}
use Rattle.sub_answer.proofs.BothFilesLemmas.{exactly-is_accepted_within}
use Rattle.sub_answer.proofs.BothFilesLemmas.{status-reported}
use Rattle.sub_answer.proofs.BothFilesLemmas.{reported-fails, reported-is_not_done, reported-runs}

has_programme :
    (drawing : Drawing) (file : List ℕ) (answer : Result Accepted CheckFault)
    → (((programme : ProgrammeValue) → loaded_programme drawing file ≢ Ok programme)
    → failed is_subtitle_fault answer ≡ true)
    → failed is_subtitle_fault answer ≡ false
    → (programme : ProgrammeValue) × (loaded_programme drawing file ≡ Ok programme)
has_programme drawing file answer refused looked = go (loaded_programme drawing file) refl
  where
    go :
        (r : Result ProgrammeValue LoadFault)
        → loaded_programme drawing file ≡ r
        → (programme : ProgrammeValue) × (loaded_programme drawing file ≡ Ok programme)
    go (Ok programme) is = (programme, is)
    go (Err f) is =
        let is_refused = refused (λ programme same. cc) in cc

failure-of_programme :
    (drawing : Drawing) (file : List ℕ) (programme : ProgrammeValue) (block : ℕ)
    (kind : LoadFaultKind)
    → loaded_programme drawing file ≡ Ok programme
    → IsErrorOfLoad drawing file block kind
    → is_failure_kind kind ≡ true
failure-of_programme drawing file programme block (load.File stl.Read) is reported = refl
failure-of_programme drawing file programme block load.Memory is reported = refl
failure-of_programme drawing file programme block kind is reported = cc

looked-at :
    (drawing : Drawing) (file : List ℕ) (programme : ProgrammeValue) (f : CheckFault)
    → loaded_programme drawing file ≡ Ok programme
    → ReportsSubtitles drawing file (Err f)
    → is_failure f ≡ false
    → (is_subtitle_fault f ≡ false) × (is_pes_read_failure f ≡ false)
looked-at drawing file programme f is reported runs = grind (arith, nat_tests, failure-of_programme)

done-exactly :
    (drawing : Drawing) (options : OptionsValue) (file bytes : List ℕ)
    (first : ℕ) (answer : Result Accepted CheckFault) (Means : Type 0)
    → AreChecked drawing options file (Some bytes) answer
    → AcceptsExactly drawing file answer Means
    → (verdict first answer).status ≢ Fault
    → ((verdict first answer).status ≡ Done) ↔ Means
done-exactly drawing options file bytes first (Ok a) Means are exact other =
    let given = has_programme drawing file (Ok a) are.refused refl in
    (λ done. (exact.exactly given.0 given.1 refl refl).0 refl, λ is. refl)
done-exactly drawing options file bytes first (Err f) Means are exact other = (
  λ done. absurd (reported-is_not_done (is_failure f) done),
  λ is.
      let given = exact.described_files_load is in
      let looked =
      looked-at drawing file given.0 f given.1 are.subtitles (reported-runs (is_failure f) other) in
      let ok = (exact.exactly given.0 given.1 looked.0 looked.1).1 is in
      cc,
)

answer-fails : (first : ℕ) (answer : Result Accepted CheckFault)
    → (verdict first answer).status ≡ Fault
    → failed is_failure answer ≡ true
answer-fails first (Ok a) is = cc
answer-fails first (Err f) is = reported-fails (is_failure f) is

pub answer_of_check_files :
    (drawing : Drawing) (options : OptionsValue) (stl pes : SourceCall) (first : FirstNumber)
    (Untouched : Type 0) (out : SinkCall) (status : Status) (number : ℕ)
    (answer : Result Accepted CheckFault)
    → LawOfLoading
    → PrintsOrFails out (verdict number answer) status
    → (failed is_subtitle_fault answer ≡ false → StartsAt first pes number)
    → ReportsSources (FailsLoading drawing stl.known stl.left)
    (λ index. FailsAfterValidPackets index pes.known pes.left)
    Untouched (failed is_subtitle_fault answer) stl pes answer
    → IfKnown stl.known (λ file. AreChecked drawing options file pes.known answer)
    → AnswersCheck drawing options stl pes first Untouched out status
answer_of_check_files
    drawing options stl pes first Untouched out status number answer loading printed starts
    sources checked = record {
      answer = answer;
      number = number;
      starts = starts;
      printed = printed;
      sources = sources;
      checked = checked;
      ends = status-reported drawing options stl pes out (verdict number answer) status answer _
          printed sources
          (λ none at_once other file reported bytes heard.
          let are = rw heard at (checked file reported) in
          done-exactly drawing options file bytes number answer _ are
          (exactly-accepted drawing options file bytes answer loading
          (λ p loads. are.checked p loads none at_once bytes refl))
          other)
          (λ other file reported bytes heard.
          let are = rw heard at (checked file reported) in
          done-exactly drawing options file bytes number answer _ are
          (exactly-is_accepted_within drawing options file bytes answer loading
          (λ p files_load. are.answer_is_checked_within p files_load bytes refl))
          other)
          (answer-fails number answer)
          (λ block memory line. (
            block,
            subst (λ (r : Result Accepted CheckFault). Appends out.old out.new
                (verdict number r).text) memory line,
            λ file reported.
                subst (ReportsSubtitles drawing file) memory (checked file reported).subtitles,
          ));
    }

pub failed_first_read_fits_any_bytes : (programme : ProgrammeValue) (options : OptionsValue)
    (bytes : List ℕ)
    → IsCheckedBy programme options bytes (Err (fault.Pes 0 pes_fault.Read))
failed_first_read_fits_any_bytes programme options bytes = grind
    (arith, nat_tests, no_packets_have_no_events)

verdict-fault : (is_one : CheckFault → Bool)
    → ((f : CheckFault) → is_one f ≡ true → is_failure f ≡ true)
    → (first : ℕ) (answer : Result Accepted CheckFault)
    → failed is_one answer ≡ true
    → (verdict first answer).status ≡ Fault
verdict-fault is_one fails first (Ok a) is = absurd (true≢false (sym is))
verdict-fault is_one fails first (Err f) is = ap (λ b. status_of (kind_of_failure b)) (fails f is)

pub reported_failure_counts_once : (is_one : CheckFault → Bool)
    → ((f : CheckFault) → is_one f ≡ true → is_failure f ≡ true)
    → (out : SinkCall) (status : Status) (first old new : ℕ) (answer : Result Accepted CheckFault)
    → PrintsOrFails out (verdict first answer) status
    → CountRisesIf old (failed is_one answer) new
    → Counts old status new
reported_failure_counts_once is_one fails out status first old new answer printed counted =
    grind (arith, nat_tests, count_rises_only_with_fault, printed-status, verdict-fault)
