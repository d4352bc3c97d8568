-- The commands `schedule` and `normal`: the file that each of them writes, and the output.
use Rattle.std.specs.Prelude.{◌≡◌, ◌≢◌, ◌<◌, ℕ, List, [], ◌++◌, codes, decimal, length, Bool, true}
use Rattle.std.specs.Prelude.{false, Option, Result, Ok, Err, IsOkAnd}
use Rattle.std.specs.Io.KnownBytes.{Appends, Consumes, Keeps}
use Rattle.sub_io.specs.Device.{AppendsPrefix, CountRisesIf, failed}
use Rattle.sub_io.specs.Reading.{IfKnown}
use Rattle.stl_file.specs.Fault.{is_normal_write_failure}
use Rattle.stl_file.specs.NormalForm.{NormalAnswers}
use Rattle.stl_file.specs.Reader.{block_of_byte}
use Rattle.stl_rows.specs.Fault as load_fault
use Rattle.stl_rows.specs.Loading.{EndsFaultlessSubtitle, FailsLoading, IsErrorOfLoad}
use Rattle.stl_rows.specs.Loading.{loaded_programme}
use Rattle.stl_rows.specs.Programme.{ProgrammeValue}
use Rattle.stl_rows.specs.declared.fault.LoadFaultKind.TheVariants.{Memory}
use Rattle.stl_rows.specs.declared.layout.Drawing.{Drawing}
use Rattle.sub_plan.specs.Fault.{is_plan_write_failure}
use Rattle.sub_plan.specs.Options.{OptionsValue}
use Rattle.sub_plan.specs.Schedule.{plan, plan_frames}
use Rattle.sub_plan.specs.declared.fault.PlanFault.{PlanFault}
use Rattle.sub_plan.specs.declared.fault.PlanFault.TheVariants.{NoSubtitles, Write}
use Rattle.sub_listing.specs.Faults.{load_line, write_line}
use Rattle.sub_listing.specs.Listing.{Listing, done, fault_listing, PrintsOrFails}
use Rattle.sub_listing.specs.FaultLine.{text_of_fault_line}
use Rattle.sub_listing.specs.declared.normal.InputFault.{InputFault}
use Rattle.sub_listing.specs.declared.normal.InputFault.TheVariants as input
use Rattle.sub_listing.specs.declared.writing.WriteFault.{WriteFault}
use Rattle.sub_listing.specs.declared.writing.WriteFault.TheVariants as write
use Rattle.sub_listing.specs.DeviceCall.{SinkCall, SourceCall}
use Rattle.sub_listing.specs.declared.status.Status.{Status}

-- ---- the result of writing, before its line is printed

-- The source of `normal` failed.
abbrev pub is_input_source_failure : InputFault → Bool
is_input_source_failure (input.Read block) = true
is_input_source_failure input.Memory = false

-- The input failed.
abbrev pub is_input_failure : WriteFault → Bool
is_input_failure (write.Input f) = is_input_source_failure f
is_input_failure (write.Load f) = load_fault.is_load_read_failure f
is_input_failure _ = false

-- The output file failed.
abbrev pub is_file_failure : WriteFault → Bool
is_file_failure (write.Normal f) = is_normal_write_failure f
is_file_failure (write.Plan f) = is_plan_write_failure f
is_file_failure _ = false

-- The output of a command that writes a file: the number of items in the file, or the fault.
abbrev pub file_result_listing : List ℕ → Result ℕ WriteFault → Listing
file_result_listing item_name (Ok count) = done (codes "written " ++ decimal count ++ item_name)
file_result_listing item_name (Err f) = fault_listing (write_line f)

-- The type of relations between the bytes of the input before and after a command, the bytes of the
-- output file before and after it, and the result of the command.
abbrev pub Work : Type 1
Work = Option (List ℕ) → Option (List ℕ) → Option (List ℕ) → Option (List ℕ)
    → Result ℕ WriteFault → Type 0

-- A command that writes a file has a result, the number of items in the file or a fault, and
-- printed its line, unless `out` failed.
pub record EndsWithFileResult
    (input : SourceCall) (file out : SinkCall) (status : Status)
    (item_name : List ℕ) (HasWorked : Work)
    : Type 0 where
  pub answer : Result ℕ WriteFault
  pub is_written_as_specified : HasWorked input.known input.left file.old file.new answer
  -- The input and the file failed exactly if the result reports it.
  pub input_count : CountRisesIf input.old_count (failed is_input_failure answer) input.new_count
  pub file_count : CountRisesIf file.old_count (failed is_file_failure answer) file.new_count
  pub printed : PrintsOrFails out (file_result_listing item_name answer) status

-- ---- the command `schedule`

-- The file received the schedule of a programme, and the result is the number of page
-- transmissions; or the file failed and received a prefix of the schedule; or the programme has no
-- subtitles, and nothing was written.
abbrev pub WritesSchedule :
    ProgrammeValue → OptionsValue → Bool → Option (List ℕ) → Option (List ℕ)
    → Result ℕ PlanFault → Type 0
WritesSchedule programme o serial old new (Ok count) =
    Appends old new (plan programme o serial)
    × (count ≡ length (plan_frames programme o.every))
    × (programme.records ≢ [])
WritesSchedule programme o serial old new (Err Write) =
    AppendsPrefix old new (plan programme o serial) × (programme.records ≢ [])
WritesSchedule programme o serial old new (Err NoSubtitles) =
    Keeps old new × (programme.records ≡ [])

-- The file received the schedule of the programme in the input, as `WritesSchedule` specifies. If
-- no programme was loaded, nothing was written, and the fault is reported; if the source failed,
-- the fault contains the block.
abbrev pub Schedules : Drawing → OptionsValue → Bool → Work
Schedules drawing o serial known left old new (Ok count) =
    IfKnown known (λ bytes. IsOkAnd (loaded_programme drawing bytes) (λ programme.
    WritesSchedule programme o serial old new (Ok count)))
Schedules drawing o serial known left old new (Err (write.Plan f)) =
    IfKnown known (λ bytes. IsOkAnd (loaded_programme drawing bytes) (λ programme.
    WritesSchedule programme o serial old new (Err f)))
Schedules drawing o serial known left old new (Err (write.Load f)) =
    IfKnown known (λ bytes. IsErrorOfLoad drawing bytes f.block f.kind)
    × (load_fault.is_load_read_failure f ≡ true → FailsLoading drawing known left f.block)
    × Keeps old new
Schedules drawing o serial known left old new answer = ⊥

-- The line about a lack of memory was printed. It names a block at which a subtitle of the file
-- ends, and no fault comes up to that block.
abbrev pub PrintsMemory :
    Drawing → Option (List ℕ) → Option (List ℕ) → Option (List ℕ) → Type 0
PrintsMemory drawing known old new =
    (block : ℕ) × Appends old new (text_of_fault_line (load_line Memory block))
    × IfKnown known (λ bytes. EndsFaultlessSubtitle drawing bytes block)

-- ---- the command `normal`

-- The maximum number of bytes to read: one byte more than the longest subtitle file.
abbrev pub read_limit : ℕ
read_limit = 12800897

-- The fault of an input that was not read completely. `Read`: the source failed while this block
-- was read. `Memory`: an allocation failed, which can only happen after at least one byte was read.
abbrev pub ReportsRead : Option (List ℕ) → Option (List ℕ) → InputFault → Type 0
ReportsRead old new (input.Read block) =
    (bytes : List ℕ) × Consumes old new bytes × (block ≡ block_of_byte (length bytes))
ReportsRead old new input.Memory =
    (bytes : List ℕ) × Consumes old new bytes × (0 < length bytes)

-- The file received the normal form of the input, or a prefix of it if the file failed. The file
-- received nothing if the input was rejected or not read completely.
abbrev pub Normalizes : Work
Normalizes known left old new (Ok count) =
    IfKnown known (λ bytes. NormalAnswers bytes old new (Ok count))
Normalizes known left old new (Err (write.Normal f)) =
    IfKnown known (λ bytes. NormalAnswers bytes old new (Err f))
Normalizes known left old new (Err (write.Input f)) = ReportsRead known left f × Keeps old new
Normalizes known left old new answer = ⊥
