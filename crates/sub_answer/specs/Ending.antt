-- The end of a run that answered a request with its files: the answer, the flushed output, and the
-- exit status.
use Rattle.std.specs.Prelude.{◌≡◌, ◌⊎◌, ℕ, ◌+◌, ◌<◌, List, [], ◌∷◌, ◌++◌, length, Option, Some}
use Rattle.std.specs.Prelude.{Bool, None, false}
use Rattle.std.specs.Io.KnownBytes.{Keeps, append_known, prepend_known}
use Rattle.sub_io.specs.Buffered.{Flushes, BufferedSinkValue, BufferedSourceValue}
use Rattle.sub_io.specs.Buffered.{failures_with_refused_calls}
use Rattle.sub_io.specs.Calls.{PushesBuffered}
use Rattle.sub_request.specs.Files.{files_of_request}
use Rattle.sub_request.specs.declared.files.FileNames.{FileNames}
use Rattle.sub_request.specs.declared.files.FileNames.TheVariants as names
use Rattle.sub_request.specs.declared.request.Request.{Request}
use Rattle.sub_request.specs.declared.request.UsageFault.{UsageFault}
use Rattle.sub_files.specs.FileCalls.{FileCall}
use Rattle.sub_files.specs.FileCalls.FileCall.{ReleaseInput, ReleaseOutput}
use Rattle.sub_files.specs.Opening.{OpensWithCalls}
use Rattle.sub_files.specs.declared.opening.OpenedFiles.{OpenedFiles}
use Rattle.sub_files.specs.declared.opening.OpenedFiles.TheVariants.{Extract, Nothing, ReadBoth}
use Rattle.sub_files.specs.declared.opening.OpenedFiles.TheVariants.{ReadPes, ReadStl, Write}
use Rattle.sub_listing.specs.DeviceCall.{SinkCall, sink_call}
use Rattle.sub_listing.specs.Faults.{usage_line}
use Rattle.sub_listing.specs.LastLine.{BuffersLastLineOnly}
use Rattle.sub_listing.specs.Listing.{PrintsOrFails, fault_listing}
use Rattle.sub_listing.specs.declared.status.Status.{Status}
use Rattle.sub_listing.specs.declared.status.Status.TheVariants.{Done, Fault}
use Rattle.sub_answer.specs.Answering.{Answers, FlushesBeforeRead, InputCall, StoresOutputFile}
use Rattle.sub_answer.specs.Answering.{WritesBeforeRead, fails}
use Rattle.sub_answer.specs.Part.{IsPartOf, part_requested, entire_file}
use Rattle.sub_answer.specs.declared.part.Part.{Part}

-- The state of a buffered sink: the bytes written to it, including those in its buffer; the bytes
-- in its buffer; and its number of failed calls.
pub record BufferedSinkState : Type 0 where
  pub taken : Option (List ℕ)
  pub buffered : List ℕ
  pub count : ℕ

-- The state of a buffered sink, given the functions for the bytes written to it, the bytes in its
-- buffer, and its number of failed calls.
abbrev pub state_of_sink : {O : Type 0}
    → (O → Option (List ℕ)) → (O → List ℕ) → (O → ℕ) → O → BufferedSinkState
state_of_sink contents buffer_state failure_count o =
    record { taken = contents o; buffered = buffer_state o; count = failure_count o }

-- The function `buffered` returns the number of bytes in the buffer.
abbrev pub CountsBuffered : {O : Type 0} → (O → ℕ) → (O → List ℕ) → Type 0
CountsBuffered {O} buffered buffer_state = (o : O) → buffered o ≡ length (buffer_state o)

-- The state of a buffered sink, given the functions for the contents of the sink behind the buffer
-- and for its number of failed calls.
abbrev pub state_of_buffer : {D : Type 0}
    → (D → Option (List ℕ)) → (D → ℕ) → BufferedSinkValue D → BufferedSinkState
state_of_buffer contents failure_count k = record {
  taken = append_known (contents k.device) k.buffered;
  buffered = k.buffered;
  count = failures_with_refused_calls (failure_count k.device) k.refused;
}

-- A buffered sink before and after a call, given the functions for the contents of the sink behind
-- the buffer and for its number of failed calls.
abbrev pub buffered_call : {D : Type 0}
    → (D → Option (List ℕ)) → (D → ℕ) → BufferedSinkValue D → BufferedSinkValue D → SinkCall
buffered_call contents failure_count old new =
    sink_call (λ k. (state_of_buffer contents failure_count k).taken)
    (λ k. (state_of_buffer contents failure_count k).count) old new

-- The buffer is flushed at the end of a run with the exit status `status`. Either the sink has all
-- bytes, and the status remains; or one more call has failed, and the status is `Fault`.
pub record FlushesBuffer
    (old : BufferedSinkState) (status : Status) (new : BufferedSinkState) (result : Status)
    : Type 0 where
  pub kept : Keeps old.taken new.taken
  pub ends :
      ((result ≡ status) × (new.buffered ≡ []) × (new.count ≡ old.count))
      ⊎ ((result ≡ Fault) × (new.count ≡ old.count + 1))

-- Everything before the line of a fault was flushed, and then only this line, or a prefix of it,
-- was written. The sink is given by the functions for its contents, the bytes in its buffer and its
-- number of failed calls, and by the relation for its pushes.
pub record BuffersOneLineOnly
    {O : Type 0} (contents : O → Option (List ℕ)) (buffer_state : O → List ℕ)
    (failure_count : O → ℕ)
    (IsPush : O → List ℕ → Option ℕ → O → Type 0) (state : BufferedSinkState)
    : Type 0 where
  pub sink : O
  pub state_is : state ≡ state_of_sink contents buffer_state failure_count sink
  pub last : BuffersLastLineOnly contents (λ o. length (buffer_state o)) IsPush sink

-- Everything before the line of a fault was flushed, and then only this line, or a prefix of it,
-- was written to the buffered sink. The sink behind the buffer is given by the functions for its
-- contents and its number of failed calls, and by the relation for its pushes.
abbrev pub BufferHoldsOneLineOnly :
    {D : Type 0}
    → (D → Option (List ℕ)) → (D → ℕ) → (D → List ℕ → Option ℕ → D → Type 0) → BufferedSinkState
    → Type 0
BufferHoldsOneLineOnly contents failure_count IsPush =
    BuffersOneLineOnly (λ k. append_known (contents k.device) k.buffered) (λ k. k.buffered)
    (λ k. failures_with_refused_calls (failure_count k.device) k.refused) (PushesBuffered IsPush)

-- The buffer is empty, and no call has failed since the state `old`.
pub record FlushedWithoutFailure
    {O : Type 0} (buffer_state : O → List ℕ) (failure_count : O → ℕ) (old new : O) : Type 0 where
  pub none : buffer_state new ≡ []
  pub count : failure_count new ≡ failure_count old

-- The output was flushed last, after the output file had reached this state.
pub record FlushesWithFile
    {O F : Type 0} (IsFlushed : O → BufferedSinkValue F → Status → O → Status → Type 0)
    (file : BufferedSinkValue F) (new : O) (result : Status)
    : Type 0 where
  pub printed : O
  pub status : Status
  pub call : IsFlushed printed file status new result

-- A request was answered, and then the output was flushed. `IsFirst`, `IsSecond` and `IsFile`
-- describe the two sources and the output file. `Untouched` means that no byte of the second source
-- was read, and `IsAlone` that everything before the line of a fault was flushed.
pub record EndsWith
    (request : Request) (IsFirst IsSecond : InputCall → Type 0) (Untouched : Type 0)
    (IsFile : InputCall → SinkCall → Type 0) (IsAlone : BufferedSinkState → Type 0)
    (old new : BufferedSinkState) (result : Status)
    : Type 0 where
  pub first : InputCall
  pub first_is : IsFirst first
  pub second : InputCall
  pub second_is : IsSecond second
  pub file : SinkCall
  pub file_is : IsFile first file
  pub status : Status
  pub printed : BufferedSinkState
  pub answers :
      Answers request first second Untouched file
      (record {
        old = old.taken;
        new = printed.taken;
        old_count = old.count;
        new_count = printed.count;
      })
      status
  -- If the buffer was empty, `packets`, `survey` and `check --all` flush all output before the
  -- device of the PES file or recording is read. So if this read fails, at most the line about the
  -- failure is still in the buffer.
  pub followed :
      old.buffered ≡ [] → FlushesBeforeRead request (fails first) (fails second) (IsAlone printed)
  pub flushed : FlushesBuffer printed status new result

-- The source of the input has no bytes.
abbrev pub IsEmptySource : InputCall → Type 0
IsEmptySource input = input.call.known ≡ Some []

-- The output file was empty before the call.
abbrev pub IsEmptyFile : InputCall → SinkCall → Type 0
IsEmptyFile first call = call.old ≡ Some []

-- An output file with a buffer, and its use by the answer to a request. The file was closed in its
-- state after the answer. Its device is given by the functions for its contents and its number of
-- failed calls, and by the relation for closing.
pub record IsClosedAfter
    {D : Type 0} (contents : D → Option (List ℕ)) (failure_count : D → ℕ) (IsClose : D → D → Type 0)
    (request : Request) (old new : BufferedSinkValue D) (first : InputCall) (call : SinkCall)
    : Type 0 where
  pub left : BufferedSinkValue D
  pub call_eq : call ≡ buffered_call contents failure_count old left
  pub closed : IsClose left.device new.device
  -- Closing the file does not change the bytes in the file's buffer.
  pub buffered_eq : new.buffered ≡ left.buffered
  -- If the device of the recording failed, `extract` has written all bytes to the device of the
  -- output file before, so the buffer of the file is empty.
  pub written : WritesBeforeRead request (first.call.old_count < first.call.new_count)
      (left.buffered ≡ [])

-- The input is the part `part` of a file, which was read through an initially empty buffer. The
-- answer leaves the file in the state `left`.
pub record ReadsPartOfFile
    {I : Type 0} (part : Part) (remaining : I → Option (List ℕ)) (failure_count : I → ℕ)
    (file left : I) (input : InputCall)
    : Type 0 where
  pub room : ℕ
  pub new : BufferedSourceValue I
  pub left_eq : left ≡ new.device
  pub is_part :
      IsPartOf part (λ s. prepend_known s.buffered (remaining s.device))
      (λ s. failure_count s.device)
      (let buffer : BufferedSourceValue I =
      record { device = file; buffered = []; room = room } in buffer)
      new
      input

-- An output file that was written through an initially empty buffer, and then closed in its state
-- after the answer. If the run ends with `Done`, the buffer is empty, no call has failed, and the
-- file is stored if the request writes a file.
pub record WritesFile
    {O : Type 0} (contents : O → Option (List ℕ)) (failure_count : O → ℕ) (is_stored : O → Bool)
    (IsClose : O → O → Type 0) (request : Request) (result : Status) (file left : O)
    (first : InputCall) (call : SinkCall)
    : Type 0 where
  pub room : ℕ
  pub new : BufferedSinkValue O
  pub left_eq : left ≡ new.device
  pub closed :
      IsClosedAfter contents failure_count IsClose request
      (record { device = file; buffered = []; room = room; failed = false; refused = 0 }) new first
      call
  pub whole :
      result ≡ Done
      → Flushes failure_count
      (record { device = file; buffered = []; room = room; failed = false; refused = 0 }) new
  pub stored : StoresOutputFile request result (is_stored new.device)

-- The functions that describe input files and output files: the remaining bytes of an input file,
-- the bytes written to an output file, the numbers of failed calls, and whether an output file is
-- stored.
pub record FileObservations (I O : Type 0) : Type 0 where
  pub remaining : I → Option (List ℕ)
  pub read_failure_count : I → ℕ
  pub contents : O → Option (List ℕ)
  pub write_failure_count : O → ℕ
  pub stored : O → Bool

-- The functions that describe input files and output files, from its five arguments.
abbrev pub file_observations :
    {I O : Type 0}
    → (I → Option (List ℕ)) → (I → ℕ) → (O → Option (List ℕ)) → (O → ℕ) → (O → Bool)
    → FileObservations I O
file_observations remaining read_failure_count contents write_failure_count stored = record {
  remaining = remaining;
  read_failure_count = read_failure_count;
  contents = contents;
  write_failure_count = write_failure_count;
  stored = stored;
}

-- The input is the part `part` of the opened file, which the answer leaves in the state `left`; or
-- it is empty if no file was opened.
abbrev pub IsSourceOf :
    {I O : Type 0} → FileObservations I O → Part → (opened left : Option I) → InputCall → Type 0
IsSourceOf known part (Some file) (Some left) =
    ReadsPartOfFile part known.remaining known.read_failure_count file left
IsSourceOf known part None None = IsEmptySource
IsSourceOf known part opened left = λ input. ⊥

-- The sink is the created file, which the answer leaves in the state `left`; or it is an empty file
-- if no file was created.
abbrev pub IsSinkOf :
    {I O : Type 0}
    → FileObservations I O → (O → O → Type 0) → Request → Status → (created left : Option O) →
    InputCall
    → SinkCall → Type 0
IsSinkOf known IsClose request result (Some file) (Some left) =
    WritesFile known.contents known.write_failure_count known.stored IsClose request result file
    left
IsSinkOf known IsClose request result None None = IsEmptyFile
IsSinkOf known IsClose request result created left = λ first call. ⊥

-- The files of a request: up to two input files and up to one output file; and the part of the
-- first input file that is read.
pub record Devices (I O : Type 0) : Type 0 where
  pub first : Option I
  pub part : Part
  pub second : Option I
  pub file : Option O

-- The files of a request without an output file.
abbrev pub sources : {I O : Type 0} → Part → Option I → Option I → Devices I O
sources part first second =
    record { first = first; part = part; second = second; file = None }

-- The files of a request with one input file and an output file.
abbrev pub write_devices : {I O : Type 0} → Part → I → O → Devices I O
write_devices part source file =
    record { first = Some source; part = part; second = None; file = Some file }

-- The opened files of a request. The argument `part` is for a first input file that is no subtitle
-- file; the part of a subtitle file is always the entire file.
abbrev pub devices_of : {I O : Type 0} → Part → OpenedFiles I O → Devices I O
devices_of part Nothing = sources entire_file None None
devices_of part (ReadStl stl) = sources entire_file (Some stl) None
devices_of part (ReadPes pes) = sources part (Some pes) None
devices_of part (ReadBoth stl pes) = sources entire_file (Some stl) (Some pes)
devices_of part (Write stl output) = write_devices entire_file stl output
devices_of part (Extract recording output) = write_devices part recording output

-- The opened files are of the kinds that the request names.
abbrev pub Fits : {I O : Type 0} → FileNames → OpenedFiles I O → Type 0
Fits names.None Nothing = Unit {0}
Fits (names.ReadStl name) (ReadStl stl) = Unit {0}
Fits (names.ReadPes name) (ReadPes pes) = Unit {0}
Fits (names.ReadBoth name other) (ReadBoth stl pes) = Unit {0}
Fits (names.Write name other) (Write stl output) = Unit {0}
Fits (names.Extract name other) (Extract recording output) = Unit {0}
Fits names opened = ⊥

-- The files of a request, in their states after the answer.
pub record FilesAfterAnswer (I O : Type 0) : Type 0 where
  pub first : Option I
  pub second : Option I
  pub file : Option O

-- The release of an input file, if there is one, followed by other calls.
abbrev pub release_input_before :
    {I O : Type 0} → Option I → List (FileCall I O) → List (FileCall I O)
release_input_before (Some file) calls = ReleaseInput file ∷ calls
release_input_before None calls = calls

-- The release of an output file, if there is one.
abbrev pub release_output_only : {I O : Type 0} → Option O → List (FileCall I O)
release_output_only (Some file) = ReleaseOutput file ∷ []
release_output_only None = []

-- The calls that release each file of a request once, in its state after the answer.
abbrev pub release : {I O : Type 0} → FilesAfterAnswer I O → List (FileCall I O)
release left = release_input_before left.first
    (release_input_before left.second (release_output_only left.file))

-- A request was answered with its files, which are left in the state `left`; and then the output
-- was flushed. If no byte of the second file was read, this file is left as it was opened.
abbrev pub EndsOverFiles :
    {I O : Type 0}
    → FileObservations I O → (O → O → Type 0) → Request → Devices I O → FilesAfterAnswer I O
    → (BufferedSinkState → Type 0) → BufferedSinkState → BufferedSinkState → Status → Type 0
EndsOverFiles known IsClose request devices left IsAlone old new result =
    EndsWith request (IsSourceOf known devices.part devices.first left.first)
    (IsSourceOf known (part_requested request) devices.second left.second)
    (left.second ≡ devices.second)
    (IsSinkOf known IsClose request result devices.file left.file) IsAlone old new result

-- A request was answered with its files, and then the files were released, in their states after
-- the answer.
pub record EndsWithRelease
    {I O : Type 0} (AreMade : List (FileCall I O) → Type 0) (known : FileObservations I O)
    (IsClose : O → O → Type 0) (request : Request) (devices : Devices I O)
    (IsAlone : BufferedSinkState → Type 0) (old new : BufferedSinkState) (result : Status)
    : Type 0 where
  pub left : FilesAfterAnswer I O
  pub are_released : AreMade (release left)
  pub ends : EndsOverFiles known IsClose request devices left IsAlone old new result

-- The files that a request names were opened; the request was answered; the output was flushed; and
-- the files were released, in their states after the answer. No other file was opened or released.
pub record Ends
    {I O : Type 0} (AreMade : List (FileCall I O) → Type 0) (known : FileObservations I O)
    (IsClose : O → O → Type 0) (request : Request) (IsAlone : BufferedSinkState → Type 0)
    (old new : BufferedSinkState) (result : Status)
    : Type 0 where
  pub files : OpenedFiles I O
  pub left : FilesAfterAnswer I O
  pub opened :
      OpensWithCalls (λ calls. AreMade (calls ++ release left)) (files_of_request request)
      (Some files)
  pub ends :
      EndsOverFiles known IsClose request (devices_of (part_requested request) files) left IsAlone
      old
      new
      result

-- The line of a fault was printed, or only a prefix of it if the sink failed; and then the sink was
-- flushed, which may also fail.
pub record PrintsFault
    (fault : UsageFault) (old new : BufferedSinkState) (result : Status)
    : Type 0 where
  pub printed : BufferedSinkState
  pub line :
      PrintsOrFails (record {
        old = old.taken;
        new = printed.taken;
        old_count = old.count;
        new_count = printed.count;
      })
      (fault_listing (usage_line fault)) Fault
  pub flushed : FlushesBuffer printed Fault new result
