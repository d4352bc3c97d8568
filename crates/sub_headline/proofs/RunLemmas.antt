-- A run that does not end with exit code 2 answered its request.
use Rattle.std.proofs.lemmas.Bool.Decides.{nat_tests}
use Rattle.std.proofs.Common.{◌≡◌, ◌≢◌, ◌⊎◌, ◌∙◌, ℕ, List, [], Option, Result, ap, arith, inl, inr}
use Rattle.clap.specs.Words.{Text}
use Rattle.sub_files.specs.FileCalls.{FileCall}
use Rattle.sub_request.specs.declared.request.UsageFault.{UsageFault}
use Rattle.sub_request.specs.declared.request.UsageFault.TheVariants as usage
use Rattle.sub_listing.specs.Listing.{exit_code}
use Rattle.sub_listing.specs.declared.status.Status.{Status}
use Rattle.sub_listing.specs.declared.status.Status.TheVariants.{Done, Fault}
use Rattle.sub_answer.specs.Ending.{BufferHoldsOneLineOnly, BufferedSinkState, FileObservations}
use Rattle.sub_answer.specs.Ending.{PrintsFault}
use Rattle.sub_headline.specs.Run.{RunAnswers, RunEnds, RunsProgram}

printed_usage_fault_is_fault : (fault : UsageFault) (old new : BufferedSinkState) (result : Status)
    → PrintsFault fault old new result
    → result ≡ Fault
printed_usage_fault_is_fault fault old new result says = grind (arith, nat_tests)

-- The run answered its request, and the exit code is the number of the answer's status.
pub record HasAnswered
    {I O : Type 0} (AreMade : List (FileCall I O) → Type 0) (reported : FileObservations I O)
    (IsClose : O → O → Type 0) (given : Result (List Text) UsageFault)
    (IsAlone : BufferedSinkState → Type 0) (code : ℕ)
    : Type 0 where
  pub old : BufferedSinkState
  pub new : BufferedSinkState
  pub status : Status
  pub code_eq : code ≡ exit_code status
  pub answered : RunAnswers AreMade reported IsClose given IsAlone old new status

exit_code_explained :
    {I O : Type 0} (AreMade : List (FileCall I O) → Type 0) (reported : FileObservations I O)
    (IsClose : O → O → Type 0) (given : Result (List Text) UsageFault)
    (IsAlone : BufferedSinkState → Type 0) (code : ℕ) (status : Status)
    (old new : BufferedSinkState)
    → code ≡ exit_code status
    → code ≢ 2
    → RunEnds AreMade reported IsClose given IsAlone old new status
    ⊎ (AreMade [] × PrintsFault usage.Memory old new status)
    → HasAnswered AreMade reported IsClose given IsAlone code
exit_code_explained AreMade reported IsClose given IsAlone code status old new code_eq not_two
    (inl (inl is)) =
    record { old = old; new = new; status = status; code_eq = code_eq; answered = is }
exit_code_explained AreMade reported IsClose given IsAlone code status old new code_eq not_two
    (inl (inr un)) =
    absurd (not_two (code_eq ∙ ap exit_code (printed_usage_fault_is_fault un.fault old new status
    un.says)))
exit_code_explained AreMade reported IsClose given IsAlone code status old new code_eq not_two
    (inr memory) =
    absurd (not_two (code_eq ∙ ap exit_code (printed_usage_fault_is_fault usage.Memory old new
    status memory.1)))

pub answered :
    {I O K : Type 0} (AreMade : List (FileCall I O) → Type 0) (reported : FileObservations I O)
    (IsClose : O → O → Type 0) (given : Result (List Text) UsageFault)
    (contents : K → Option (List ℕ)) (failure_count : K → ℕ)
    (IsPush : K → List ℕ → Option ℕ → K → Type 0) (output left : K) (code : ℕ)
    → RunsProgram AreMade reported IsClose given contents failure_count IsPush output left code
    → code ≢ 2
    → HasAnswered AreMade reported IsClose given (BufferHoldsOneLineOnly contents failure_count
    IsPush)
    code
answered AreMade reported IsClose given contents failure_count IsPush output left code runs
    not_two =
    exit_code_explained AreMade reported IsClose given _ code runs.status _ _ runs.code_eq not_two
    runs.ends

pub zero_code_means_done : (status : Status) → exit_code status ≡ 0 → status ≡ Done
zero_code_means_done status e = grind (arith, nat_tests)

pub code_other_than_two_means_no_fault : (status : Status) → exit_code status ≢ 2 → status ≢ Fault
code_other_than_two_means_no_fault status e is = e (ap exit_code is)
