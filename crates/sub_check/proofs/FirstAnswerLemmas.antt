-- The events for the whole PES file determine the results of `check` and `check_all`.
use Rattle.std.proofs.Common.{◌≡◌, ℕ, List, Option, Some, None}
use Rattle.std.proofs.Common.{Result, Ok, Err, IfOk, false, refl}
use Rattle.std.proofs.Common.{subst}
use Rattle.std.specs.Prelude.{IfSome, IsFalse}
use Rattle.sub_io.specs.Device.{failed}
use Rattle.stl_rows.specs.Judged.{JudgedValue, known}
use Rattle.stl_rows.specs.Programme.{IsProgramme, ProgrammeValue}
use Rattle.sub_plan.specs.FrameTime.{clock_of}
use Rattle.sub_plan.specs.Options.{OptionsValue, IsOptions}
use Rattle.sub_rules.specs.Events.{first_reported_fault}
use Rattle.sub_rules.specs.Fault.{is_pes_read_failure}
use Rattle.sub_rules.specs.FrameRules.{criteria_of, criteria_of_judged}
use Rattle.sub_rules.specs.PesPackets.{pes_packet_file_of}
use Rattle.sub_rules.specs.declared.event.Event.{Event}
use Rattle.sub_rules.specs.declared.fault.CheckFault.{CheckFault}
use Rattle.sub_checker.specs.PesFileEvents.{ReportsFile}
use Rattle.sub_checker.specs.declared.accepted.Accepted.{Accepted}
use Rattle.sub_check.specs.CheckedFiles.{IsChecked, IsCheckedBy, ReportsEvents, all_events_of}
use Rattle.sub_check.specs.CheckedFiles.{answer_unless_fault, first_answer}
use Rattle.sub_check.specs.FirstReported.{IsPesFileFault}
use Rattle.sub_check.proofs.FirstReportedLemmas.{failed_read_breaks_no_rule, rule_fault_is_proved}
use Rattle.sub_check.proofs.RuleReportedLemmas.{first_reported_breaks_rule}
use Rattle.sub_check.proofs.VerdictLemmas.{Decides, IsReadCompletely, ReadsUntilAnswer}
use Rattle.sub_check.proofs.VerdictLemmas.{answer_is_checked}
use Rattle.sub_check.proofs.VerdictLemmas.{answer_is_checked_within}

-- The result of `check` agrees with the bytes of the file under the options and, if no repeat keeps
-- the page and no delay is allowed, under the rules without these options.
pub record IsAnswerForFirstFault
    (programme : ProgrammeValue) (options : OptionsValue) (bytes : List ℕ)
    (answer : Result Accepted CheckFault)
    : Type 0 where
  pub by : IsCheckedBy programme options bytes answer
  pub at_once :
      IsFalse options.keeps → options.within ≡ 0 → IsChecked programme options bytes answer

module _ (programme : ProgrammeValue) (options : OptionsValue) (fine : IsOptions options)
    (p : IsProgramme programme.drawing programme.records) (bytes : List ℕ) where
  pub answered :
      (result : Result Accepted CheckFault)
      → (failed is_pes_read_failure result ≡ false → Decides programme options bytes result)
      → ReadsUntilAnswer programme options bytes result
      → IsAnswerForFirstFault programme options bytes result
  answered result decides so_far = record {
    by = answer_is_checked_within programme options fine p bytes result decides so_far;
    at_once = answer_is_checked programme options fine p bytes result decides so_far;
  }

  pub accepted_none :
      (a : Accepted)
      → IsReadCompletely programme options bytes a
      → first_reported_fault (all_events_of programme options bytes) ≡ None
      → IsAnswerForFirstFault programme options bytes (Ok a)
  accepted_none a read none = answered (Ok a) (λ own. (read, none)) (λ pes is. cc)

  pub refused_first :
      (f : CheckFault)
      → first_reported_fault (all_events_of programme options bytes) ≡ Some f
      → IsAnswerForFirstFault programme options bytes (Err f)
  refused_first f first =
      let own : IsPesFileFault f = rule_fault_is_proved f (first_reported_breaks_rule programme
      options bytes f first) in
      answered (Err f) (λ fine. first) (λ pes is. absurd (failed_read_breaks_no_rule f pes own is))

  pub answered_first :
      (a : Accepted)
      → IsReadCompletely programme options bytes a
      → IsAnswerForFirstFault programme options bytes
      (first_answer (all_events_of programme options bytes) a)
  answered_first a read = go (first_reported_fault (all_events_of programme options bytes)) refl
    where
      go : (o : Option CheckFault) → first_reported_fault (all_events_of programme options bytes) ≡
          o
          → IsAnswerForFirstFault programme options bytes (answer_unless_fault o a)
      go None none = accepted_none a read none
      go (Some f) first = refused_first f first

pub checked_first :
    (programme : ProgrammeValue) (options : OptionsValue) (bytes : List ℕ)
    {D : Type 0} (IsReported : D → Event → D → Type 0) (old new : D)
    (r : Result (Option Accepted) CheckFault)
    → IsOptions options
    → IsProgramme programme.drawing programme.records
    → ReportsFile (criteria_of programme options) (clock_of options) bytes IsReported old new r
    → IfOk r (λ counts. IfSome counts (λ a. IsAnswerForFirstFault programme options bytes
    (first_answer (all_events_of programme options bytes) a)))
checked_first programme options bytes IsReported old new (Ok (Some a)) fine p reported =
    let file = pes_packet_file_of (clock_of options) bytes in
    answered_first programme options fine p bytes a (reported file.pes_packets file.unread refl).1
checked_first programme options bytes IsReported old new (Ok None) fine p reported = tt
checked_first programme options bytes IsReported old new (Err f) fine p reported = tt

pub first_fault_decides_answer : (programme : ProgrammeValue) (options : OptionsValue)
    (bytes : List ℕ)
    (r : Result (Option Accepted) CheckFault)
    → IfOk r (λ counts. IfSome counts (λ a. IsAnswerForFirstFault programme options bytes
    (first_answer (all_events_of programme options bytes) a)))
    → IfOk r (λ counts. IfSome counts (λ a. IsCheckedBy programme options bytes
    (first_answer (all_events_of programme options bytes) a)))
first_fault_decides_answer programme options bytes (Ok (Some a)) all = all.by
first_fault_decides_answer programme options bytes (Ok None) all = tt
first_fault_decides_answer programme options bytes (Err f) all = tt

pub first_fault_decides_at_once : (programme : ProgrammeValue) (options : OptionsValue)
    (bytes : List ℕ)
    (r : Result (Option Accepted) CheckFault)
    → IsFalse options.keeps
    → options.within ≡ 0
    → IfOk r (λ counts. IfSome counts (λ a. IsAnswerForFirstFault programme options bytes
    (first_answer (all_events_of programme options bytes) a)))
    → IfOk r (λ counts. IfSome counts (λ a. IsChecked programme options bytes
    (first_answer (all_events_of programme options bytes) a)))
first_fault_decides_at_once programme options bytes (Ok (Some a)) none at_once all = all.at_once
    none at_once
first_fault_decides_at_once programme options bytes (Ok None) none at_once all = tt
first_fault_decides_at_once programme options bytes (Err f) none at_once all = tt

pub reports_events :
    (judged : JudgedValue) (options : OptionsValue) (bytes : List ℕ)
    {D : Type 0} (IsReported : D → Event → D → Type 0) (old new : D)
    (r : Result (Option Accepted) CheckFault)
    → ReportsFile (criteria_of_judged judged options) (clock_of options) bytes IsReported old new r
    → ReportsEvents judged options bytes IsReported old new r
reports_events judged options bytes IsReported old new (Ok (Some a)) reported =
    let file = pes_packet_file_of (clock_of options) bytes in
    let whole = reported file.pes_packets file.unread refl in (whole.0, whole.1.counts)
reports_events judged options bytes IsReported old new (Ok None) reported =
    let file = pes_packet_file_of (clock_of options) bytes in reported file.pes_packets file.unread
    refl
reports_events judged options bytes IsReported old new (Err f) reported =
    let file = pes_packet_file_of (clock_of options) bytes in reported file.pes_packets file.unread
    refl

pub reports_known :
    (judged : JudgedValue) (programme : ProgrammeValue) (options : OptionsValue)
    (bytes : List ℕ) {D : Type 0} (IsReported : D → Event → D → Type 0) (old new : D)
    (r : Result (Option Accepted) CheckFault)
    → judged ≡ known programme
    → ReportsFile (criteria_of_judged judged options) (clock_of options) bytes IsReported old new r
    → ReportsFile (criteria_of programme options) (clock_of options) bytes IsReported old new r
reports_known judged programme options bytes IsReported old new r is reported =
    subst (λ (j : JudgedValue). ReportsFile (criteria_of_judged j options) (clock_of options) bytes
    IsReported old new r) is reported

pub known_programme_is_valid : (judged : JudgedValue) (programme : ProgrammeValue)
    → judged ≡ known programme
    → IsProgramme judged.programme.drawing judged.programme.records
    → IsProgramme programme.drawing programme.records
known_programme_is_valid judged programme is p =
    subst (λ (j : JudgedValue). IsProgramme j.programme.drawing j.programme.records) is p
