-- The end of a run of the program: with the answer to a request, or with a fault that prevents it.
use Rattle.std.specs.Prelude.{◌≡◌, ◌⊎◌, ℕ, List, [], Option, None, Result, Ok, Err, false}
use Rattle.clap.specs.Words.{Text}
use Rattle.sub_io.specs.Buffered.{BufferedSinkValue}
use Rattle.sub_files.specs.FileCalls.{FileCall}
use Rattle.sub_files.specs.Opening.{OpensWithCalls}
use Rattle.sub_request.specs.Files.{files_of_request}
use Rattle.sub_request.specs.declared.request.Request.{Request}
use Rattle.sub_request.specs.declared.request.UsageFault.{UsageFault}
use Rattle.sub_request.specs.declared.request.UsageFault.TheVariants as usage
use Rattle.sub_words.specs.Requests.{IsRequestOf, IsFaultOf}
use Rattle.sub_listing.specs.Listing.{exit_code}
use Rattle.sub_listing.specs.declared.status.Status.{Status}
use Rattle.sub_answer.specs.Ending.{BufferHoldsOneLineOnly, BufferedSinkState, Ends}
use Rattle.sub_answer.specs.Ending.{FileObservations}
use Rattle.sub_answer.specs.Ending.{PrintsFault}
use Rattle.sub_answer.specs.Ending.{state_of_buffer}

-- The arguments are a request, which was answered. Only the files of the request were opened and
-- released.
pub record RunAnswers
    {I O : Type 0} (AreMade : List (FileCall I O) → Type 0) (known : FileObservations I O)
    (IsClose : O → O → Type 0) (given : Result (List Text) UsageFault)
    (IsAlone : BufferedSinkState → Type 0) (old new : BufferedSinkState) (result : Status)
    : Type 0 where
  pub arguments : List Text
  pub arguments_were_given : given ≡ Ok arguments
  pub request : Request
  pub requested : IsRequestOf arguments request
  pub ends : Ends AreMade known IsClose request IsAlone old new result

-- The fault that prevents an answer: a file could not be opened or created, the output might empty
-- the input file or is known to empty the file that receives standard output, memory ran out, or
-- the arguments are invalid. In the last two cases no file was opened.
abbrev pub IsRefusalReason :
    {I O : Type 0} → (List (FileCall I O) → Type 0) → List Text → UsageFault → Type 0
IsRefusalReason AreMade arguments usage.Memory = AreMade []
IsRefusalReason AreMade arguments usage.Open =
    (request : Request) × IsRequestOf arguments request × OpensWithCalls AreMade
    (files_of_request request) None
IsRefusalReason AreMade arguments fault = IsFaultOf arguments fault × AreMade []

-- The fault that prevents an answer, including that the system returned no arguments.
abbrev pub IsUsageFaultReason :
    {I O : Type 0}
    → (List (FileCall I O) → Type 0) → Result (List Text) UsageFault → UsageFault → Type 0
IsUsageFaultReason AreMade (Ok arguments) fault = IsRefusalReason AreMade arguments fault
IsUsageFaultReason AreMade (Err why) fault = (fault ≡ why) × AreMade []

-- No request was answered, and the line of the fault was printed, unless standard output failed.
pub record RunReportsFault
    {I O : Type 0} (AreMade : List (FileCall I O) → Type 0) (given : Result (List Text) UsageFault)
    (old new : BufferedSinkState) (result : Status)
    : Type 0 where
  pub fault : UsageFault
  pub cause : IsUsageFaultReason AreMade given fault
  pub says : PrintsFault fault old new result

-- The end of a run: the calls that opened and released files, the contents of the files, the
-- printed lines, and the exit status. `IsAlone` means that everything except the line of a fault
-- was flushed.
abbrev pub RunEnds :
    {I O : Type 0}
    → (List (FileCall I O) → Type 0) → FileObservations I O → (O → O → Type 0)
    → Result (List Text) UsageFault → (BufferedSinkState → Type 0)
    → BufferedSinkState → BufferedSinkState → Status → Type 0
RunEnds AreMade known IsClose given IsAlone old new result =
    RunAnswers AreMade known IsClose given IsAlone old new result
    ⊎ RunReportsFault AreMade given old new result

-- A run of the program: the arguments, the files, standard output before and after, and the exit
-- code. Standard output is written through an initially empty buffer, and nothing else is printed.
pub record RunsProgram
    {I O K : Type 0} (AreMade : List (FileCall I O) → Type 0) (known : FileObservations I O)
    (IsClose : O → O → Type 0) (given : Result (List Text) UsageFault)
    (contents : K → Option (List ℕ)) (failure_count : K → ℕ)
    (IsPush : K → List ℕ → Option ℕ → K → Type 0) (output left : K) (code : ℕ)
    : Type 0 where
  pub room : ℕ
  pub new : BufferedSinkValue K
  pub left_eq : left ≡ new.device
  pub status : Status
  pub code_eq : code ≡ exit_code status
  -- The run ends as `RunEnds` specifies, unless memory runs out before the arguments are read.
  pub ends :
      (let old : BufferedSinkValue K =
      record { device = output; buffered = []; room = room; failed = false; refused = 0 } in
      let EndsSo = RunEnds AreMade known IsClose given
      (BufferHoldsOneLineOnly contents failure_count IsPush) (state_of_buffer contents failure_count
      old)
      (state_of_buffer contents failure_count new) status in
      let SaysMemory = PrintsFault usage.Memory (state_of_buffer contents failure_count old)
      (state_of_buffer contents failure_count new) status in
      EndsSo ⊎ (AreMade [] × SaysMemory))
