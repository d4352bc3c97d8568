-- The request that the arguments of the command line make, or their fault.
use Rattle.std.specs.Prelude.{◌≡◌, ◌≢◌, ◌⊎◌, ◌==◌, ⊤, ℕ, Bool, true, false, List, [], Option, Some}
use Rattle.std.specs.Prelude.{Ok, Err, MatchResult, Result, codes, ok_or, option_map}
use Rattle.std.specs.Prelude.{if◌then◌else◌}
use Rattle.std.specs.Result.{result_ok}
use Rattle.std.specs.Str.{bytes_eq}
use Rattle.clap.specs.Words.{Text, Row}
use Rattle.hex.specs.Hex.{decode_sized}
use Rattle.sub_io.specs.Reading.{◌>>=◌}
use Rattle.stl_file.specs.declared.scope.Scope.{Scope}
use Rattle.stl_rows.specs.declared.layout.Layout.{Layout}
use Rattle.stl_rows.specs.declared.national.National.{National}
use Rattle.sub_plan.specs.Options.{OptionsValue}
use Rattle.mpeg_ts.specs.declared.survey_options.SurveyOptions.{SurveyOptions}
use Rattle.sub_words.specs.Arguments.{PesSelectionValue, with_within_value, argument}
use Rattle.sub_words.specs.Arguments.{has_flag}
use Rattle.sub_words.specs.Arguments.{with_keeping_value}
use Rattle.sub_words.specs.Arguments.{parsed_list_of}
use Rattle.sub_words.specs.Arguments.{layout_of, national_of, options_of, options_with_pace}
use Rattle.sub_words.specs.Arguments.{packet_size_of, pes_selection_of, required_pid_of, scope_of}
use Rattle.sub_words.specs.Arguments.{survey_options_of, survey_pages_of}
use Rattle.sub_words.specs.Commands.{are_accepted_by_clap, command_in, clap_refusals}
use Rattle.sub_words.specs.Help.{requests_help}
use Rattle.sub_words.specs.Version.{requests_version}
use Rattle.sub_words.specs.Texts.{flip_of_text, frame_of_text, is_same_byte, number_of_text}
use Rattle.sub_words.specs.Texts.{receiver_of_text}
use Rattle.sub_request.specs.declared.listening.Flip.{Flip}
use Rattle.sub_request.specs.declared.listening.ReceiverKind.{ReceiverKind}
use Rattle.sub_request.specs.declared.pes_selection.PesSelection.{PesSelection}
use Rattle.sub_request.specs.declared.pes_selection.TransportStream.{TransportStream}
use Rattle.sub_request.specs.declared.request.Request.{Request}
use Rattle.sub_request.specs.declared.request.Request.TheVariants as ask
use Rattle.sub_request.specs.declared.request.UsageFault.{UsageFault}
use Rattle.sub_request.specs.declared.request.UsageFault.TheVariants as fault

-- A request to the program, independent of where its texts and lists are in memory.
pub data Requested : Type 0 where
  Help : Requested
  Version : Requested
  Packet : (bytes : List ℕ) → Requested
  Packets : (pes : PesSelectionValue) → Requested
  Show : (stl : Text) → Requested
  Normal : (input output : Text) → Requested
  Schedule : (stl pes : Text) → OptionsValue → (serial : Bool) → National → Layout → Scope →
      Requested
  Check : (stl : Text) → (pes : PesSelectionValue) → OptionsValue → National → Layout → Scope →
      (all : Bool)
      → Requested
  Listen : (pes : PesSelectionValue) → OptionsValue → (at skip : ℕ) → List Flip → (lost : List ℕ)
      → ReceiverKind → Requested
  Extract : (recording pes : Text) → TransportStream → Requested
  Survey : (recording : Text) → SurveyOptions → Requested

-- The PES packets to read, as a value without borrowed texts.
abbrev pub pes_selection_value : PesSelection → PesSelectionValue
pes_selection_value pes = record { name = pes.name.now; stream = pes.stream; range = pes.range }

-- The value of a request, without borrowed texts.
abbrev pub value_of_request : Request → Requested
value_of_request ask.Help = Help
value_of_request ask.Version = Version
value_of_request (ask.Packet bytes) = Packet bytes
value_of_request (ask.Packets pes) = Packets (pes_selection_value pes)
value_of_request (ask.Show stl) = Show stl.now
value_of_request (ask.Normal input output) = Normal input.now output.now
value_of_request (ask.Schedule stl pes options serial national layout scope) =
    Schedule stl.now pes.now options serial national layout scope
value_of_request (ask.Check stl pes options national layout scope all) =
    Check stl.now (pes_selection_value pes) options national layout scope all
value_of_request (ask.Listen pes l) =
    Listen (pes_selection_value pes) l.options l.at l.skip l.flips.items l.lost.items l.receiver
value_of_request (ask.Extract recording pes stream) = Extract recording.now pes.now stream
value_of_request (ask.Survey recording options) = Survey recording.now options

-- ---- the request of each command, or the first fault of its arguments, in this order

-- The request of `packet HEX`, or the fault `BadHex` unless HEX is 84 hexadecimal digits, upper or
-- lower case.
abbrev pub packet_request : List Row → Result Requested UsageFault
packet_request rows = do
  bytes ← ok_or (result_ok (decode_sized (argument (codes "hex") rows) 42)) fault.BadHex
  Ok (Packet bytes)

-- The request of `packets PES [--pid P] [--packet-size S] [--pes I-J]`, or the first fault of its
-- arguments.
abbrev pub packets_request : List Row → Result Requested UsageFault
packets_request rows = do
  pes ← pes_selection_of rows
  Ok (Packets pes)

-- The names of an input and an output; the fault `SameFile` if they are equal.
abbrev pub different_names : Text → Text → Result (Text × Text) UsageFault
different_names input output = if bytes_eq input output then Err fault.SameFile else Ok
    (input, output)

-- The request of `normal IN OUT`, or the first fault of its arguments.
abbrev pub normal_request : List Row → Result Requested UsageFault
normal_request rows = do
  names ← different_names (argument (codes "in") rows) (argument (codes "out") rows)
  Ok (Normal names.0 names.1)

-- The request of `schedule STL PES [--page P] [--every N] [--origin T] [--option O] [--serial]
-- [--layout TEXT] [--from TIME] [--to TIME] [--open]`, or the first fault of its arguments.
abbrev pub schedule_request : List Row → Result Requested UsageFault
schedule_request rows = do
  names ← different_names (argument (codes "stl") rows) (argument (codes "pes") rows)
  options ← options_of (number_of_text (argument (codes "every") rows)) rows
  national ← national_of rows
  layout ← layout_of rows
  scope ← scope_of rows
  Ok (Schedule names.0 names.1 options (has_flag (codes "serial") rows) national layout
      scope)

-- The request of `check STL PES [--page P] [--every N] [--origin T] [--option O] [--within N]
-- [--pid P] [--packet-size S] [--pes I-J] [--layout TEXT] [--pace K] [--from TIME] [--to TIME]
-- [--open] [--keeping] [--complete] [--all]`, or the first fault of its arguments.
abbrev pub check_request : List Row → Result Requested UsageFault
check_request rows = do
  plain ← options_of (number_of_text (argument (codes "every") rows)) rows
  national ← national_of rows
  allowing ← with_within_value plain rows
  pes ← pes_selection_of rows
  layout ← layout_of rows
  pacing ← options_with_pace allowing rows
  scope ← scope_of rows
  let options = with_keeping_value pacing rows in
      let all = has_flag (codes "all") rows in
      Ok (Check (argument (codes "stl") rows) pes options national layout scope all)

-- The request of `listen PES [--page P] [--origin T] [--within N] [--complete] [--pid P]
-- [--packet-size S] [--pes I-J] --at TIME [--skip N] [--flip F] [--lose L] [--receiver R]`, or the
-- first fault of its arguments. The repeat bound of the options is not used.
abbrev pub listen_request : List Row → Result Requested UsageFault
listen_request rows = do
  plain ← options_of (Some 1) rows
  options ← with_within_value plain rows
  pes ← pes_selection_of rows
  at ← ok_or (frame_of_text (argument (codes "at") rows)) fault.BadTime
  skip ← ok_or (number_of_text (argument (codes "skip") rows)) fault.BadSkip
  flips ← ok_or (parsed_list_of flip_of_text is_same_byte (codes "flip") rows) fault.BadFlip
  lost ← ok_or (parsed_list_of number_of_text (λ a b. a == b) (codes "lose") rows) fault.BadLose
  receiver ← ok_or (receiver_of_text (argument (codes "receiver") rows)) fault.BadReceiver
  Ok (Listen pes options at skip flips lost receiver)

-- The request of `extract TS PES --pid P [--packet-size S]`, or the first fault of its arguments.
abbrev pub extract_request : List Row → Result Requested UsageFault
extract_request rows = do
  names ← different_names (argument (codes "recording") rows) (argument (codes "pes") rows)
  pid ← required_pid_of rows
  packet_size ← packet_size_of rows
  Ok (Extract names.0 names.1 (record { pid = pid; packet_size = packet_size }))

-- The request of `survey RECORDING [--page P].. [--pid P] [--packet-size S]`, or the first fault of
-- its arguments.
abbrev pub survey_request : List Row → Result Requested UsageFault
survey_request rows = do
  pages ← ok_or (survey_pages_of rows) fault.BadPage
  options ← survey_options_of pages rows
  Ok (Survey (argument (codes "recording") rows) options)

-- The request of a command or the first fault of its arguments, given the command's name and the
-- values of its arguments. The last case is `survey`, since `clap` accepts no other name.
abbrev pub command_request : Text → List Row → Result Requested UsageFault
command_request name rows =
    if bytes_eq name (codes "packet") then packet_request rows
    else (if bytes_eq name (codes "packets") then packets_request rows
    else (if bytes_eq name (codes "show") then Ok (Show (argument (codes "stl") rows))
    else (if bytes_eq name (codes "normal") then normal_request rows
    else (if bytes_eq name (codes "schedule") then schedule_request rows
    else (if bytes_eq name (codes "check") then check_request rows
    else (if bytes_eq name (codes "listen") then listen_request rows
    else (if bytes_eq name (codes "extract") then extract_request rows
    else survey_request rows)))))))

-- ---- the result of parsing the arguments

-- The fault was found by the program's own checks of the arguments, not by `clap`, by allocating
-- memory or by opening a file.
abbrev pub is_found_after_clap : UsageFault → Bool
is_found_after_clap fault.Words = false
is_found_after_clap fault.Memory = false
is_found_after_clap fault.Open = false
is_found_after_clap _ = true

-- The result is the request of the arguments, or their fault. `Memory` is impossible.
abbrev pub IsReadExactly : Result Requested UsageFault → Result Request UsageFault → Type 0
IsReadExactly requested result =
    MatchResult result (λ r. requested ≡ Ok (value_of_request r))
    (λ fault. (requested ≡ Err fault) × (is_found_after_clap fault ≡ true))

-- The fault is the fault of the arguments, or `Memory`: memory ran out before the request or the
-- fault was known.
abbrev pub IsExpectedFault : Result Requested UsageFault → UsageFault → Type 0
IsExpectedFault requested fault.Memory = ⊤
IsExpectedFault requested fault = (requested ≡ Err fault) × (is_found_after_clap fault ≡ true)

-- The result is the request of the arguments, or their fault; or memory ran out before either was
-- known.
abbrev pub IsReadGivenMemory : Result Requested UsageFault → Result Request UsageFault → Type 0
IsReadGivenMemory requested result =
    MatchResult result (λ r. requested ≡ Ok (value_of_request r)) (IsExpectedFault requested)

-- ---- the arguments of a command

-- The request of the command that the arguments name, or the fault of the command's arguments.
abbrev pub request_by_command : List Text → Option (Result Requested UsageFault)
request_by_command arguments = option_map (λ command. command_request command.0 command.1)
    (command_in arguments)

-- `clap` accepts the arguments, and the request is the request of the command that they name.
pub record IsRequestOfCommand (arguments : List Text) (request : Request) : Type 0 where
  pub taken : clap_refusals arguments ≡ []
  pub requested : request_by_command arguments ≡ Some (Ok (value_of_request request))

-- `clap` accepts the arguments, and this is the first fault of the command that they name.
pub record HasUsageFault (arguments : List Text) (fault : UsageFault) : Type 0 where
  pub taken : clap_refusals arguments ≡ []
  pub broken : request_by_command arguments ≡ Some (Err fault)

-- The meaning of a fault of the command line. `Words`: `clap` refuses the arguments. `Memory`:
-- memory ran out, and there is at least one argument. `Open` is impossible, since parsing opens no
-- file. Any other fault: the arguments break a rule of the program.
abbrev pub IsFaultOfCommand : List Text → UsageFault → Type 0
IsFaultOfCommand arguments fault.Words = (clap_refusals arguments ≢ []) ×
    (are_accepted_by_clap arguments ≢ true)
IsFaultOfCommand arguments fault.Memory = arguments ≢ []
IsFaultOfCommand arguments fault.Open = ⊥
IsFaultOfCommand arguments own = HasUsageFault arguments own

-- The request of the command line: the version, help, or the request of a command.
abbrev pub IsRequestOf : List Text → Request → Type 0
IsRequestOf arguments request =
    ((requests_version arguments ≡ true) × (request ≡ ask.Version))
    ⊎ ((requests_version arguments ≡ false) × (requests_help arguments ≡ true) ×
    (request ≡ ask.Help))
    ⊎ ((requests_version arguments ≡ false) × (requests_help arguments ≡ false) × IsRequestOfCommand
    arguments request)

-- The fault of the command line, whose arguments request neither the version nor help.
pub record IsFaultOf (arguments : List Text) (fault : UsageFault) : Type 0 where
  pub requests_no_version : requests_version arguments ≡ false
  pub requests_no_help : requests_help arguments ≡ false
  pub is_command_fault : IsFaultOfCommand arguments fault
