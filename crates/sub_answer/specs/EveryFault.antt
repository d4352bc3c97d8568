-- The answer of `check --all`.
use Rattle.std.specs.Prelude.{◌≡◌, ◌≢◌, ⊤, ℕ, ◌<◌, ◌≤◌, length, Bool, true, false, List, ◌++◌}
use Rattle.std.specs.Prelude.{Option, Some, None, Result, Ok, Err, IfErr, IsFalse, IsOk, is_err}
use Rattle.std.specs.List.{filter}
use Rattle.std.specs.Io.KnownBytes.{Appends, Consumes}
use Rattle.sub_io.specs.Device.{CountRisesIf}
use Rattle.sub_io.specs.Reading.{IfKnown}
use Rattle.ttx_pes.specs.declared.fault.PesFault.TheVariants.{Read}
use Rattle.stl_file.specs.Reader.{block_of_byte, findings_within_scope}
use Rattle.stl_rows.specs.EveryFault.{EndsSubtitleAfter, faults, is_reported_before}
use Rattle.stl_rows.specs.Judged.{JudgedValue, JudgesFile, can_judge, known}
use Rattle.stl_rows.specs.Loading.{loaded_programme}
use Rattle.stl_rows.specs.Programme.{ProgrammeValue}
use Rattle.stl_rows.specs.declared.fault.LoadFaultKind.{LoadFaultKind}
use Rattle.stl_rows.specs.declared.fault.LoadFaultKind.TheVariants.{File, Memory}
use Rattle.stl_rows.specs.declared.layout.Drawing.{Drawing}
use Rattle.stl_file.specs.declared.fault.StlFault.TheVariants as stl_fault
use Rattle.sub_plan.specs.FrameTime.{clock_of}
use Rattle.sub_plan.specs.Options.{OptionsValue}
use Rattle.sub_check.specs.CheckedFiles.{IsChecked, IsCheckedBy, all_judged_events}
use Rattle.sub_check.specs.CheckedFiles.{first_judged_events, first_answer, frames_read}
use Rattle.sub_checker.specs.ReadCounts.{AreCountsOfFrames}
use Rattle.sub_rules.specs.Fault.{is_failure, is_subtitle_fault}
use Rattle.sub_rules.specs.PesPackets.{FailsAtPesPacket, pes_packet_file_of}
use Rattle.sub_checker.specs.declared.accepted.Accepted.{Accepted}
use Rattle.sub_rules.specs.declared.event.Event.{Event}
use Rattle.sub_rules.specs.declared.fault.CheckFault.{CheckFault}
use Rattle.sub_rules.specs.declared.fault.CheckFault.TheVariants.{Pes, Subtitles}
use Rattle.sub_listing.specs.DeviceCall.{SinkCall, SourceCall}
use Rattle.sub_answer.specs.BothFiles.{ReportsSources, IsStatusOfFiles}
use Rattle.sub_answer.specs.FaultListing.{check_all_listing}
use Rattle.sub_listing.specs.EventLines.{event_lines, fault_count_of_events, subtitle_events}
use Rattle.sub_listing.specs.Faults.{load_line}
use Rattle.sub_listing.specs.FirstPacket.{FirstNumber, StartsAt}
use Rattle.sub_listing.specs.Listing.{PrintsOrFails}
use Rattle.sub_listing.specs.Printer.{PrinterValue, PrintsEvents}
use Rattle.sub_listing.specs.FaultLine.{text_of_fault_line}
use Rattle.sub_listing.specs.declared.status.Status.{Status}
use Rattle.sub_listing.specs.declared.status.Status.TheVariants.{Fault}

-- The answer concerns only the subtitle file: the file could not be read, or memory ran out, or the
-- PES file was not checked (`Ok None`), since a fault ended the reading of the subtitle file, or it
-- has no reliable subtitle, or has one that starts before the TCO of an earlier one, or since the
-- output failed before.
abbrev pub concerns_subtitle_file : Result (Option Accepted) CheckFault → Bool
concerns_subtitle_file (Ok None) = true
concerns_subtitle_file (Ok (Some a)) = false
concerns_subtitle_file (Err f) = is_subtitle_fault f

-- The events if reading the subtitle file stopped at this block: the faults found before the block.
-- If memory ran out, it ran out at the end of a subtitle, for which there is no event.
abbrev pub ListsFaultsBefore : Drawing → List ℕ → List Event → ℕ → LoadFaultKind → Type 0
ListsFaultsBefore drawing file events block (File stl_fault.Read) =
    events ≡ subtitle_events (filter (is_reported_before block) (faults drawing file))
ListsFaultsBefore drawing file events block Memory =
    (events ≡ subtitle_events (filter (is_reported_before block) (faults drawing file)))
    × EndsSubtitleAfter drawing None (filter (is_reported_before block) (faults drawing file)) block
    (findings_within_scope drawing.scope file)
ListsFaultsBefore drawing file events block kind = ⊥

-- The events of the PES file: all events of its PES packets and of its end, and the counts of its
-- frames; or, if its source failed, the events of the PES packets before the failure.
abbrev pub ListsPesEvents :
    JudgedValue → OptionsValue → List ℕ → List Event → Result Accepted ℕ → Type 0
ListsPesEvents judged options bytes events (Ok a) =
    (events ≡ all_judged_events judged options bytes)
    × AreCountsOfFrames options.page (frames_read options bytes) a
ListsPesEvents judged options bytes events (Err n) =
    (n ≤ length (pes_packet_file_of (clock_of options) bytes).pes_packets)
    × (events ≡ first_judged_events judged options bytes n)

-- The events if the PES file can be checked against the subtitle file: all faults of the subtitle
-- file, and then the events of the PES file, compared with the reliable subtitles.
pub record ListsBothFiles
    (drawing : Drawing) (options : OptionsValue) (file : List ℕ) (pes : Option (List ℕ))
    (events : List Event) (answer : Result Accepted ℕ) : Type 0 where
  pub judged : JudgedValue
  pub by : JudgesFile drawing file judged
  pub more : List Event
  pub both : events ≡ subtitle_events (faults drawing file) ++ more
  pub listed : IfKnown pes (λ bytes. ListsPesEvents judged options bytes more answer)

-- The events of both files: all faults of the subtitle file, and then, if the PES file was checked
-- against it, all events of the PES file. If a source failed or memory ran out, only the events
-- before that.
abbrev pub ListsAllEvents :
    Drawing → OptionsValue → List ℕ → Option (List ℕ) → List Event
    → Result (Option Accepted) CheckFault → Type 0
ListsAllEvents drawing options file pes events (Ok None) =
    (events ≡ subtitle_events (faults drawing file)) × (0 < fault_count_of_events events)
ListsAllEvents drawing options file pes events (Ok (Some a)) =
    ListsBothFiles drawing options file pes events (Ok a)
ListsAllEvents drawing options file pes events (Err (Subtitles f)) =
    ListsFaultsBefore drawing file events f.block f.kind
ListsAllEvents drawing options file pes events (Err (Pes n Read)) =
    ListsBothFiles drawing options file pes events (Err n)
ListsAllEvents drawing options file pes events (Err f) = ⊥

-- The place of a failure of the subtitle file's source: the block of the first byte that was not
-- consumed. That the source failed is not part of this definition.
pub record FailsAtBlock (known left : Option (List ℕ)) (block : ℕ) : Type 0 where
  pub bytes : List ℕ
  pub consumed : Consumes known left bytes
  pub block_eq : block ≡ block_of_byte (length bytes)

-- The answer of `check` is correct for the bytes of a PES file, with any options. With options that
-- require each header of the page to erase the page, and the expected page at the end of each
-- frame, it is also correct by the seven rules.
abbrev pub IsCheckAnswer :
    ProgrammeValue → OptionsValue → List ℕ → Result Accepted CheckFault → Type 0
IsCheckAnswer programme options bytes answer =
    IsCheckedBy programme options bytes answer
    × (IsFalse options.keeps → options.within ≡ 0 → IsChecked programme options bytes answer)

-- If the subtitle file has no fault and the answer has counts, the answer of `check` that follows
-- from the events and these counts is correct for the bytes of both files (`IsCheckAnswer`).
abbrev pub FitsCheckAnswer :
    Drawing → OptionsValue → List ℕ → List ℕ → List Event → Result (Option Accepted) CheckFault
    → Type 0
FitsCheckAnswer drawing options file bytes events (Ok (Some a)) =
    (programme : ProgrammeValue)
    → loaded_programme drawing file ≡ Ok programme
    → IsCheckAnswer programme options bytes (first_answer events a)
FitsCheckAnswer drawing options file bytes events answer = ⊤

-- The line about a lack of memory is printed after the lines of the faults found so far in the
-- subtitle file.
abbrev pub PrintsMemoryLast :
    Drawing → Option (List ℕ) → Option (List ℕ) → Option (List ℕ) → Type 0
PrintsMemoryLast drawing known old new =
    (first : ℕ)
    × (events : List Event)
    × (block : ℕ)
    × Appends old new (event_lines first events ++ text_of_fault_line (load_line Memory block))
    × IfKnown known (λ file. ListsFaultsBefore drawing file events block Memory)

-- The answer after a check of the PES file with the counts `a`, or after its source failed at PES
-- packet `n`.
abbrev pub read_answer : Result Accepted ℕ → Result (Option Accepted) CheckFault
read_answer (Ok a) = Ok (Some a)
read_answer (Err n) = Err (Pes n Read)

-- The events of the PES file, or those of the PES packets before its source failed, were reported
-- to a printer. The answer is `given`, unless the printer's sink failed.
pub record ReportsPes
    (judged : JudgedValue) (options : OptionsValue) (pes : SourceCall) (first : FirstNumber)
    (old new : PrinterValue) (given : Result (Option Accepted) CheckFault)
    : Type 0 where
  pub events : List Event
  pub answer : Result Accepted ℕ
  pub same : new.failed ≡ false → read_answer answer ≡ given
  pub number : ℕ
  pub starts : StartsAt first pes number
  pub prints : PrintsEvents (record old { first = number }) events new
  pub count : CountRisesIf pes.old_count (is_err answer) pes.new_count
  pub read : (n : ℕ) → answer ≡ Err n → FailsAtPesPacket n pes.known pes.left
  pub cut : new.failed ≡ true → IsOk answer
  -- If neither the source nor the printer's sink failed and all subtitles are reliable, the first
  -- fault among the events or, if there is none, the counts are the answer of `check`.
  pub checked :
      new.failed ≡ false
      → IfKnown pes.known (λ bytes.
      (programme : ProgrammeValue) (a : Accepted)
      → judged ≡ known programme
      → answer ≡ Ok a
      → IsCheckAnswer programme options bytes (first_answer events a))
  pub listed : IfKnown pes.known (λ bytes. ListsPesEvents judged options bytes events answer)

-- The answer reports the failures of the two sources: it names the block or the PES packet at which
-- a source failed. If the answer concerns the subtitle file (`concerns_subtitle_file`), no byte of
-- the PES file is read.
abbrev pub ReportsBothSources :
    SourceCall → SourceCall → Type 0 → Result (Option Accepted) CheckFault → Type 0
ReportsBothSources stl pes Untouched answer =
    ReportsSources (FailsAtBlock stl.known stl.left) (λ index. FailsAtPesPacket index pes.known
    pes.left)
    Untouched (concerns_subtitle_file answer) stl pes answer

-- The events that `ListsAllEvents` specifies were reported to a printer. The answer is `given`,
-- unless the printer's sink failed.
pub record ReportsBoth
    (drawing : Drawing) (options : OptionsValue) (stl pes : SourceCall) (first : FirstNumber)
    (Untouched : Type 0) (old new : PrinterValue) (given : Result (Option Accepted) CheckFault)
    : Type 0 where
  pub events : List Event
  pub answer : Result (Option Accepted) CheckFault
  pub same : new.failed ≡ false → answer ≡ given
  pub number : ℕ
  pub starts : concerns_subtitle_file answer ≡ false → StartsAt first pes number
  pub prints : PrintsEvents (record old { first = number }) events new
  pub sources : ReportsBothSources stl pes Untouched answer
  pub ended : IfErr answer (λ f. is_failure f ≡ true)
  pub cut : new.failed ≡ true → IsOk answer
  pub no_transmission_is_judged :
      new.failed ≡ false
      → answer ≡ Ok None
      → IfKnown stl.known (λ file. can_judge drawing file ≡ false)
  pub checked :
      new.failed ≡ false
      → IfKnown stl.known (λ file.
      IfKnown pes.known (λ bytes. FitsCheckAnswer drawing options file bytes events answer))
  pub listed :
      IfKnown stl.known (λ file. ListsAllEvents drawing options file pes.known events answer)

-- The command `check --all` prints events and has one answer; unless a device failed or memory ran
-- out, both depend only on the options and the bytes of the two files. The argument `first` has the
-- number of the first PES packet to read. `Untouched` means that no byte of the PES file was read.
pub record AnswersCheckAll
    (drawing : Drawing) (options : OptionsValue) (stl pes : SourceCall) (first : FirstNumber)
    (Untouched : Type 0) (out : SinkCall) (status : Status)
    : Type 0 where
  pub events : List Event
  pub answer : Result (Option Accepted) CheckFault
  -- Faults name PES packets by their numbers in the file.
  pub number : ℕ
  pub starts : concerns_subtitle_file answer ≡ false → StartsAt first pes number
  -- The lines of the events and the last line were printed, or `out` failed and received a prefix
  -- of them.
  pub printed : PrintsOrFails out (check_all_listing number events answer) status
  pub sources : ReportsBothSources stl pes Untouched answer
  -- If the bytes of the files are known, they determine the events up to a failure of a source or
  -- a lack of memory.
  pub listed :
      IfKnown stl.known (λ file. ListsAllEvents drawing options file pes.known events answer)
  -- Unless a device failed or memory ran out, the PES file is left unread only if it can't be
  -- checked against the subtitle file.
  pub no_transmission_is_judged :
      status ≢ Fault
      → answer ≡ Ok None
      → IfKnown stl.known (λ file. can_judge drawing file ≡ false)
  -- Unless a device failed, memory ran out or the subtitle file has a fault, the answer of `check`,
  -- which follows from the events and the counts, is correct for the bytes of both files.
  pub checked :
      status ≢ Fault
      → IfKnown stl.known (λ file.
      IfKnown pes.known (λ bytes. FitsCheckAnswer drawing options file bytes events answer))
  pub ends :
      IsStatusOfFiles drawing options stl pes out (PrintsMemoryLast drawing stl.known out.old
      out.new)
      status
