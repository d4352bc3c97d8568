-- The answer to a request, for each command.
use Rattle.std.specs.Prelude.{◌≡◌, ◌≢◌, ◌+◌, ◌<◌, ⊤, ℕ, Bool, true, false, not, ◌&&◌, ◌||◌}
use Rattle.std.specs.Prelude.{List, Option, Some, Result, Ok, Err, codes, if◌then◌else◌}
use Rattle.sub_io.specs.Device.{failed}
use Rattle.sub_io.specs.Reading.{IfKnown}
use Rattle.ttx_pes.specs.Reader.{FailsAfterValidPackets}
use Rattle.stl_rows.specs.Loading.{FailsLoading}
use Rattle.stl_rows.specs.declared.layout.Drawing.{Drawing}
use Rattle.stl_rows.specs.Layout.{default_layout, drawing_by, drawing_within}
use Rattle.stl_rows.specs.declared.national.National.TheVariants.{English}
use Rattle.sub_plan.specs.FrameTime.{clock_of}
use Rattle.sub_plan.specs.Options.{OptionsValue}
use Rattle.sub_check.specs.CheckedFiles.{AreChecked}
use Rattle.sub_rules.specs.Fault.{is_subtitle_fault}
use Rattle.sub_rules.specs.FrameRules.{UnreadReason}
use Rattle.sub_listen.specs.Run.{FailsListening}
use Rattle.sub_rules.specs.PesReading.{ReadsAs}
use Rattle.sub_listen.specs.Reception.{code_left_by_receiver}
use Rattle.sub_rules.specs.Transmission.{Transmission}
use Rattle.sub_checker.specs.declared.accepted.Accepted.{Accepted}
use Rattle.sub_rules.specs.declared.fault.CheckFault.{CheckFault}
use Rattle.sub_request.specs.declared.listening.Listening.{Listening}
use Rattle.sub_listen.specs.declared.listening.ListenFault.{ListenFault}
use Rattle.sub_listing.specs.DeviceCall.{Counts, SinkCall, SourceCall, read_call, source_call}
use Rattle.sub_listing.specs.Extracting.{EndsExtract}
use Rattle.sub_listing.specs.FirstPacket.{FirstNumber, PrintsCountedFrom, StartsAt, first_number}
use Rattle.sub_answer.specs.BothFiles.{ReportsSources, IsStatusOfFiles}
use Rattle.sub_answer.specs.EveryFault.{AnswersCheckAll}
use Rattle.sub_answer.specs.FaultListing.{accepted_line}
use Rattle.sub_listing.specs.Faults.{check_line}
use Rattle.sub_listing.specs.Help.{help_text}
use Rattle.sub_listing.specs.Version.{version_text}
use Rattle.sub_answer.specs.ListenListing.{listen_line, Listens}
use Rattle.sub_listing.specs.Listing.{Listing, PrintsListing, PrintsOrFails, done, packet_listing}
use Rattle.sub_listing.specs.Listing.{fault_listing}
use Rattle.sub_listing.specs.PacketsListing.{ListsPackets}
use Rattle.sub_answer.specs.SurveyListing.{AnswersSurvey}
use Rattle.sub_listing.specs.FaultLine.{counted_from}
use Rattle.sub_listing.specs.ShowListing.{ListsSubtitles}
use Rattle.sub_listing.specs.Writing.{EndsWithFileResult, Normalizes, PrintsMemory, Schedules}
use Rattle.sub_request.specs.Files.{files_of_request, reads_input, reads_two_files, writes_file}
use Rattle.sub_request.specs.declared.request.Request.{Request}
use Rattle.sub_request.specs.declared.request.Request.TheVariants as ask
use Rattle.sub_listing.specs.declared.status.Status.{Status}
use Rattle.sub_listing.specs.declared.status.Status.TheVariants.{Done, Fault}

-- The answer to the request needs memory, for a programme, a complete file, or the state of a
-- survey.
abbrev pub needs_memory : Request → Bool
needs_memory (ask.Normal input output) = true
needs_memory (ask.Schedule stl pes options serial national layout scope) = true
needs_memory (ask.Check stl pes options national layout scope all) = true
needs_memory (ask.Survey recording options) = true
needs_memory _ = false

-- The national option, layout and scope for the texts of a subtitle file, from the request or by
-- default.
abbrev pub drawing_of : Request → Drawing
drawing_of (ask.Schedule stl pes options serial national layout scope) =
    drawing_within national layout scope
drawing_of (ask.Check stl pes options national layout scope all) =
    drawing_within national layout scope
drawing_of _ = drawing_by English default_layout

-- ---- the answer of each command

-- The line and the exit status for an answer of `check`. PES packets are counted from the number
-- `first`.
abbrev pub verdict : ℕ → Result Accepted CheckFault → Listing
verdict first (Ok a) = done (accepted_line a)
verdict first (Err f) = fault_listing (counted_from first (check_line f))

-- The command `check` has one answer and prints its line. Unless a device failed or memory ran out,
-- the answer depends only on the options and the bytes of both files. The argument `first` has the
-- number of the first PES packet to read. `Untouched` means that no byte of the PES file was read.
pub record AnswersCheck
    (drawing : Drawing) (options : OptionsValue) (stl pes : SourceCall) (first : FirstNumber)
    (Untouched : Type 0) (out : SinkCall) (status : Status)
    : Type 0 where
  pub answer : Result Accepted CheckFault
  -- Faults name PES packets by their numbers in the file.
  pub number : ℕ
  pub starts : failed is_subtitle_fault answer ≡ false → StartsAt first pes number
  -- The line of the answer was printed, or `out` failed and received a prefix of the line.
  pub printed : PrintsOrFails out (verdict number answer) status
  -- A source failed exactly if the fault reports it. The fault then names the block or PES packet
  -- at which it failed.
  pub sources :
      ReportsSources (FailsLoading drawing stl.known stl.left)
      (λ index. FailsAfterValidPackets index pes.known pes.left)
      Untouched (failed is_subtitle_fault answer) stl pes answer
  -- If the bytes of the files are known, they determine the answer, unless a device failed or
  -- memory ran out. An accepted transmission has the properties of `HasPromisesWithRepeats`; and
  -- those of `HasPromises` if `within` is 0 and each header of the page has to erase the page. A
  -- subtitle file without a programme is rejected.
  pub checked : IfKnown stl.known (λ file. AreChecked drawing options file pes.known answer)
  pub ends :
      IsStatusOfFiles drawing options stl pes out (PrintsMemory drawing stl.known out.old out.new)
      status

-- The output is the state of a receiver after the frames of the PES file up to TIME, or the fault;
-- if the sink failed, it is a prefix of this. In a cell whose byte has even parity, the receiver
-- stores the code that `leaves` returns for the cell's old code, unless it drops the row. PES
-- packets are counted from the number `first`.
pub record PrintsReceived
    (leaves : ℕ → ℕ) (listening : Listening) (first : ℕ) (pes : SourceCall) (out : SinkCall)
    (status : Status)
    : Type 0 where
  pub exact :
      (frames : Transmission) (unread : Option UnreadReason)
      → IfKnown pes.known (λ bytes.
      ReadsAs (clock_of listening.options) 0 bytes frames unread
      → pes.new_count ≡ pes.old_count
      → (listing : Listing)
      × Listens leaves listening first frames unread pes.known pes.left listing
      × PrintsOrFails out listing status)
  -- If the source of PES packets failed, the fault names the PES packet at which it failed.
  pub read :
      pes.new_count ≢ pes.old_count
      → (f : ListenFault)
      × FailsListening listening pes.known pes.left f
      × PrintsOrFails out (fault_listing (counted_from first (listen_line f))) status

-- The command `listen` prints the state of the receiver, or the fault. The argument `first` has the
-- number of the first PES packet to read.
pub record AnswersListen
    (leaves : ℕ → ℕ) (listening : Listening) (pes : SourceCall) (first : FirstNumber)
    (out : SinkCall) (status : Status)
    : Type 0 where
  -- Faults name PES packets by their numbers in the file.
  pub number : ℕ
  pub starts : StartsAt first pes number
  pub heard : PrintsReceived leaves listening number pes out status

-- The state of an input before and after a call, and the number of its first PES packet in the
-- file.
pub record InputCall : Type 0 where
  pub call : SourceCall
  pub number : FirstNumber

-- The states of an input before and after a call, given the functions for its remaining bytes, its
-- number of failed calls, the number of its first PES packet, and the number of skipped PES
-- packets.
abbrev pub input_call :
    {S : Type 0}
    → (S → Option (List ℕ)) → (S → ℕ) → (S → Option ℕ) → (S → ℕ) → S → S → InputCall
input_call remaining failure_count number skipped old new = record {
  call = source_call remaining failure_count old new;
  number = first_number number skipped old new;
}

-- A source of which no part is selected: its first PES packet has the number 0.
abbrev pub call_without_range : {S : Type 0} → (S → Option (List ℕ)) → (S → ℕ) → S → S → InputCall
call_without_range remaining failure_count old new =
    input_call remaining failure_count (λ s. Some 0) (λ s. 0) old new

-- The states of an input of PES packets before and after a call, given the functions for the bytes
-- of its remaining PES packets, the remaining bytes of its device, its number of failed calls, the
-- number of its first PES packet, and the number of skipped PES packets.
abbrev pub pes_packets_call :
    {P : Type 0}
    → (P → Option (List ℕ)) → (P → Option (List ℕ)) → (P → ℕ) → (P → Option ℕ) → (P → ℕ) → P → P
    → InputCall
pes_packets_call remaining left failure_count number skipped old new = record {
  call = read_call remaining left failure_count old new;
  number = first_number number skipped old new;
}

-- The device of the input failed during the call.
abbrev pub fails : InputCall → Type 0
fails input = input.call.old_count < input.call.new_count

-- The first input of the request contains PES packets, which are listed, received or written.
abbrev pub reads_pes_packets : Request → Bool
reads_pes_packets (ask.Packets pes) = true
reads_pes_packets (ask.Listen pes listening) = true
reads_pes_packets (ask.Extract recording pes stream) = true
reads_pes_packets _ = false

-- The first input of the request is read as plain bytes, not as PES packets.
abbrev pub reads_plain_source : Request → Bool
reads_plain_source request = reads_input (files_of_request request) && not
    (reads_pes_packets request)

-- The first input of the request contains PES packets that are listed, received or written, or the
-- request is a check, whose second input contains PES packets.
abbrev pub reads_any_pes_packets : Request → Bool
reads_any_pes_packets request = reads_pes_packets request || reads_two_files
    (files_of_request request)

-- The first input of the request: a source of bytes, or an input of PES packets.
abbrev pub first_input : Request → InputCall → InputCall → InputCall
first_input request source pes_packets = if reads_pes_packets request then pes_packets else source

-- The answer to a request: the output, the output file, and the exit status. `Untouched` means that
-- no byte of the second source was read.
abbrev pub Answers :
    Request → InputCall → InputCall → Type 0 → SinkCall → SinkCall → Status → Type 0
Answers ask.Help first second Untouched file out status = PrintsOrFails out (done help_text) status
Answers ask.Version first second Untouched file out status =
    PrintsOrFails out (done version_text) status
Answers (ask.Packet bytes) first second Untouched file out status =
    PrintsOrFails out (packet_listing bytes) status
Answers (ask.Packets pes) first second Untouched file out status =
    PrintsCountedFrom ListsPackets first.number first.call out status
Answers (ask.Show stl) first second Untouched file out status =
    PrintsListing ListsSubtitles first.call out status
Answers (ask.Normal input output) first second Untouched file out status =
    EndsWithFileResult first.call file out status (codes " subtitles\n") Normalizes
Answers
    (ask.Schedule stl pes options serial national layout scope) first second Untouched file out
    status =
    EndsWithFileResult first.call file out status (codes " transmissions\n")
    (Schedules (drawing_within national layout scope) options serial)
Answers
    (ask.Check stl pes options national layout scope true) first second Untouched file out status =
    AnswersCheckAll (drawing_within national layout scope) options first.call second.call
    second.number Untouched out status
Answers
    (ask.Check stl pes options national layout scope false) first second Untouched file out status =
    AnswersCheck (drawing_within national layout scope) options first.call second.call
    second.number Untouched out status
Answers (ask.Listen pes listening) first second Untouched file out status =
    AnswersListen (code_left_by_receiver listening.receiver) listening first.call first.number out
    status
Answers (ask.Extract recording pes stream) first second Untouched file out status =
    EndsExtract first.call file out status
Answers (ask.Survey recording options) first second Untouched file out status =
    AnswersSurvey options first.call out status

-- Each device fails at most once, and only if the status is `Fault`. A command that needs no memory
-- has the status `Fault` only if a device failed.
pub record CountsDeviceFailures
    (request : Request) (first second : SourceCall) (file out : SinkCall) (status : Status)
    : Type 0 where
  pub first_count : Counts first.old_count status first.new_count
  pub second_count : Counts second.old_count status second.new_count
  pub file_count : Counts file.old_count status file.new_count
  pub out_count : Counts out.old_count status out.new_count
  pub fault :
      needs_memory request ≡ false
      → status ≡ Fault
      → first.old_count + second.old_count + file.old_count + out.old_count
      < first.new_count + second.new_count + file.new_count + out.new_count

-- If the request writes a file and the status is `Done`, no bytes are left in the file's buffer.
abbrev pub FlushesOutputFile : Request → Status → ℕ → Type 0
FlushesOutputFile request status buffered =
    writes_file (files_of_request request) ≡ true → status ≡ Done → buffered ≡ 0

-- If the request writes a file and the status is `Done`, the system has stored the file.
abbrev pub StoresOutputFile : Request → Status → Bool → Type 0
StoresOutputFile request status is_stored =
    writes_file (files_of_request request) ≡ true → status ≡ Done → is_stored ≡ true

-- `IsAlone` is true if the source of PES packets or of a recording failed, for the commands whose
-- output can be followed: the source is the first input of `packets` and `survey`, and the second
-- input of `check --all`.
abbrev pub FlushesBeforeRead : Request → Type 0 → Type 0 → Type 0 → Type 0
FlushesBeforeRead (ask.Packets pes) FirstFails SecondFails IsAlone = FirstFails → IsAlone
FlushesBeforeRead (ask.Survey recording options) FirstFails SecondFails IsAlone = FirstFails →
    IsAlone
FlushesBeforeRead
    (ask.Check stl pes options national layout scope true) FirstFails SecondFails IsAlone =
    SecondFails → IsAlone
FlushesBeforeRead _ FirstFails SecondFails IsAlone = ⊤

-- `BuffersNothing` is true if the source failed, for `extract`, which writes each PES packet as
-- soon as it has arrived.
abbrev pub WritesBeforeRead : Request → Type 0 → Type 0 → Type 0
WritesBeforeRead (ask.Extract recording pes stream) FirstFails BuffersNothing = FirstFails →
    BuffersNothing
WritesBeforeRead _ FirstFails BuffersNothing = ⊤

-- A request was answered from a source and an input of PES packets. `Untouched` means that no byte
-- of the PES packets was read, `BuffersNothing` that the buffer of the output file is empty if it
-- was before, and `IsAlone` that everything before the line of a fault was flushed if the buffer of
-- the output was empty before.
pub record AnswersFromInputs
    (request : Request) (source pes_packets : InputCall) (Untouched : Type 0) (file out : SinkCall)
    (BuffersNothing IsAlone : Type 0) (status : Status)
    : Type 0 where
  -- The output and the output file, for each command.
  pub answers :
      Answers request (first_input request source pes_packets) pes_packets Untouched file out status
  -- If the device of the recording failed, and the buffer of the output file was empty before,
  -- `extract` has left no bytes in this buffer (`BuffersNothing`).
  pub written :
      WritesBeforeRead request (fails (first_input request source pes_packets)) BuffersNothing
  -- If the device of the PES file or recording failed, and the buffer of the output was empty
  -- before, `packets`, `survey` and `check --all` have flushed everything before the line about the
  -- failure (`IsAlone`).
  pub followed :
      FlushesBeforeRead request (fails (first_input request source pes_packets)) (fails pes_packets)
      IsAlone
