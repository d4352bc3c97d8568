-- The result of the checker, in terms of the bytes of a subtitle file and a PES file.
use Rattle.std.specs.Prelude.{◌≡◌, ◌≢◌, ◌↔◌, ℕ, ◌≤◌, length, take, List, [], Bool, false, true}
use Rattle.std.specs.Prelude.{Option, Some, None, All, Contains, IsOk, Result, Ok, Err, IfOk, IfErr}
use Rattle.std.specs.Prelude.{IfSome, IsFalse, IsTrue, ◌+◌, ◌++◌, flat_map, ⊤}
use Rattle.sub_io.specs.Device.{failed}
use Rattle.sub_io.specs.Reading.{IfKnown}
use Rattle.ttx_pes.specs.declared.fault.PesFault.TheVariants.{Read}
use Rattle.stl_file.specs.File.{IsFileFor}
use Rattle.stl_file.specs.Subtitle.{SubtitleValue}
use Rattle.stl_rows.specs.DrawnPage.{drawn}
use Rattle.stl_rows.specs.Judged.{JudgedValue}
use Rattle.stl_rows.specs.Loading.{loaded_programme, IsErrorOfLoad}
use Rattle.stl_rows.specs.Programme.{AreInOrder, ProgrammeValue}
use Rattle.stl_rows.specs.declared.layout.Drawing.{Drawing}
use Rattle.sub_plan.specs.FrameTime.{clock_of}
use Rattle.sub_plan.specs.Options.{OptionsValue}
use Rattle.sub_plan.specs.Schedule.{plan}
use Rattle.sub_io.specs.Reporting.{Reports, ReportsPrefix}
use Rattle.ttx_packet.specs.PageId.{PageIdValue}
use Rattle.sub_rules.specs.Events.{first_reported_fault}
use Rattle.sub_rules.specs.FrameRules.{criteria_of, criteria_of_judged, is_due_undecided}
use Rattle.sub_rules.specs.PacketRules.{header_count}
use Rattle.sub_rules.specs.Transmission.{SentFrame, first_frame, last_frame, Transmission}
use Rattle.sub_rules.specs.declared.event.Event.{Event}
use Rattle.sub_rules.specs.declared.event.Event.TheVariants.{Trusted}
use Rattle.sub_trusted.specs.TrustedFrames.{MayStay, StaysAsReadFromFile, rising_frames_of}
use Rattle.sub_trusted.specs.TrustedRepeats.{MayStayWithRepeats}
use Rattle.sub_rules.specs.Fault.{is_failure, is_pes_read_failure, is_subtitle_fault}
use Rattle.sub_rules.specs.Good.{Good}
use Rattle.sub_rules.specs.Repeats.{GoodWithRepeats}
use Rattle.sub_laws.specs.OnScreen.{Complete}
use Rattle.sub_laws.specs.Repeats.{HasPromisesWithRepeats}
use Rattle.sub_rules.specs.PesFrames.{Carries, CarriesOnClock}
use Rattle.sub_rules.specs.PesReading.{pes_file_of}
use Rattle.sub_laws.specs.Stretch.{HasPromises}
use Rattle.sub_laws.specs.UnexpectedContent.{IsNotRightOnAir}
use Rattle.sub_rules.specs.PesPacketEvents.{all_events_of_pes_packets, events_of_pes_packets}
use Rattle.sub_rules.specs.PesPackets.{frames_of, joined, pes_packet_file_of}
use Rattle.sub_rules.specs.WrongContent.{IsWrongForEveryReceiver}
use Rattle.sub_checker.specs.ReadCounts.{AreCountsOfFrames}
use Rattle.sub_checker.specs.declared.accepted.Accepted.{Accepted}
use Rattle.sub_rules.specs.declared.fault.CheckFault.{CheckFault}
use Rattle.sub_rules.specs.declared.fault.CheckFault.TheVariants as fault

-- ---- faults and counts of an answer

-- If the result is a fault of the subtitle file, it is a fault that loading this file may report.
abbrev pub ReportsSubtitles : Drawing → List ℕ → Result Accepted CheckFault → Type 0
ReportsSubtitles drawing file (Err (fault.Subtitles f)) = IsErrorOfLoad drawing file f.block f.kind
ReportsSubtitles drawing file _ = ⊤

-- The counts of an accepted transmission: the number of frames from its first to its last frame,
-- and the number of headers of the page.
pub record HasCounts (page : PageIdValue) (frames : Transmission) (a : Accepted) : Type 0 where
  pub frames_are : a.frames + first_frame frames ≡ last_frame frames + 1
  pub headers_eq :
      a.headers ≡ header_count page (flat_map (λ (s : SentFrame). s.packets) frames)

-- ---- the contents of both files

-- The bytes of the subtitle file contain these subtitles, and the bytes of the PES file carry this
-- transmission.
pub record FilesMean
    (drawing : Drawing) (origin : ℕ) (stl pes : List ℕ)
    (subtitles : List SubtitleValue) (transmission : Transmission)
    : Type 0 where
  -- The subtitle file consists of a GSI block and TTI blocks (EBU Tech 3264). Its subtitles in the
  -- scope of the drawing are these.
  pub gsi : List ℕ
  pub subtitle_file : IsFileFor drawing.scope stl gsi subtitles
  -- The subtitles are in time order and do not overlap, and each can be drawn as a page.
  pub in_order : AreInOrder subtitles
  pub drawable : All (λ t. IsOk (drawn drawing t)) subtitles
  -- The PES file consists of PES packets (EN 300 472), one for each frame of the transmission, with
  -- the PTS and the Teletext packets of that frame.
  pub carries : Carries origin pes transmission

-- Both files are accepted with options that allow no delay and require C4 (erase page) in each
-- header of the page: they contain subtitles, possibly none, and a good transmission of these, with
-- complete pages if the options require them.
pub record IsAccepted
    (drawing : Drawing) (options : OptionsValue) (stl pes : List ℕ) : Type 0 where
  pub subtitles : List SubtitleValue
  pub transmission : Transmission
  pub files_mean : FilesMean drawing options.origin stl pes subtitles transmission
  pub good : Good (record { drawing = drawing; records = subtitles }) transmission options
  pub complete : IsTrue options.asks_complete → Complete transmission options

-- `check_files` may return `answer` for the bytes of both files, with options that allow no delay
-- and require C4 (erase page) in each header of the page.
pub record IsResultWithoutDelay
    (drawing : Drawing) (options : OptionsValue) (stl pes : List ℕ)
    (answer : Result Accepted CheckFault)
    : Type 0 where
  -- The result is `Ok` exactly if the files are accepted, unless a source fails or an allocation is
  -- refused.
  pub accepted :
      failed is_failure answer ≡ false → IsOk answer ↔ IsAccepted drawing options stl pes
  -- An accepted transmission has all properties of `HasPromises`, and complete pages if the options
  -- require them.
  pub serves :
      (subtitles : List SubtitleValue) (transmission : Transmission)
      → FilesMean drawing options.origin stl pes subtitles transmission
      → IsOk answer
      → HasPromises (record { drawing = drawing; records = subtitles }) transmission options
      × (IsTrue options.asks_complete → Complete transmission options)

-- ---- the contents of both files, with any options

-- The contents of both files with any options. If `within` is not 0, a PTS may be slightly early or
-- late, and consecutive PES packets of the same frame are merged.
pub record FilesMeanWithin
    (drawing : Drawing) (options : OptionsValue) (stl pes : List ℕ)
    (subtitles : List SubtitleValue) (transmission : Transmission)
    : Type 0 where
  pub gsi : List ℕ
  pub subtitle_file : IsFileFor drawing.scope stl gsi subtitles
  pub in_order : AreInOrder subtitles
  pub drawable : All (λ t. IsOk (drawn drawing t)) subtitles
  pub carries : CarriesOnClock (clock_of options) options.within pes transmission

-- Both files are accepted with these options: they contain subtitles, possibly none, and a
-- transmission of these that is good by the options.
pub record IsAcceptedBy
    (drawing : Drawing) (options : OptionsValue) (stl pes : List ℕ) : Type 0 where
  pub subtitles : List SubtitleValue
  pub transmission : Transmission
  pub files_mean : FilesMeanWithin drawing options stl pes subtitles transmission
  pub good :
      GoodWithRepeats options.keeps (record { drawing = drawing; records = subtitles }) transmission
      options

-- `check_files` may return `answer` for the bytes of both files, with any options.
pub record IsResultOfCheckFiles
    (drawing : Drawing) (options : OptionsValue) (stl pes : List ℕ)
    (answer : Result Accepted CheckFault)
    : Type 0 where
  -- The result is `Ok` exactly if the files are accepted, unless a source fails or an allocation is
  -- refused.
  pub accepted :
      failed is_failure answer ≡ false → IsOk answer ↔ IsAcceptedBy drawing options stl pes
  -- An accepted transmission has the properties of `HasPromisesWithRepeats`.
  pub serves :
      (subtitles : List SubtitleValue) (transmission : Transmission)
      → FilesMeanWithin drawing options stl pes subtitles transmission
      → IsOk answer
      → HasPromisesWithRepeats options.keeps (record { drawing = drawing; records = subtitles })
      transmission options

-- ---- a PES file, checked against a programme

-- All events of a check of a PES file against a programme. Reading continues after skipped PES
-- packets; reports of trusted frames are included.
abbrev pub all_events_of : ProgrammeValue → OptionsValue → List ℕ → List Event
all_events_of programme options bytes =
    let file = pes_packet_file_of (clock_of options) bytes in
    all_events_of_pes_packets (criteria_of programme options file.unread) file.pes_packets

-- The frames that the PES packets of a file carry. If `within` is not 0, consecutive PES packets of
-- the same frame are merged.
abbrev pub frames_read : OptionsValue → List ℕ → Transmission
frames_read options bytes =
    joined options.within (frames_of (pes_packet_file_of (clock_of options) bytes).pes_packets)

-- The events of a check of the first n PES packets of a file against a programme, without the
-- events at the end of the file.
abbrev pub events_of_first_pes_packets : ProgrammeValue → OptionsValue → List ℕ → ℕ → List Event
events_of_first_pes_packets programme options bytes n =
    let file = pes_packet_file_of (clock_of options) bytes in
    events_of_pes_packets (criteria_of programme options file.unread) (take n file.pes_packets)

-- The result of a check of a PES file against a programme, with any options. A fault of the
-- subtitle file, a failed source or a refused allocation may be returned for any bytes.
pub record IsCheckedBy
    (programme : ProgrammeValue) (options : OptionsValue) (bytes : List ℕ)
    (answer : Result Accepted CheckFault)
    : Type 0 where
  -- Unless the result is a fault of the subtitle file or a failed read, the file is accepted
  -- exactly if it carries a transmission of the programme that is good by the options.
  pub accepted :
      failed is_subtitle_fault answer ≡ false
      → failed is_pes_read_failure answer ≡ false
      → IsOk answer
      ↔ ((transmission : Transmission)
      × CarriesOnClock (clock_of options) options.within bytes transmission
      × GoodWithRepeats options.keeps programme transmission options)
  -- An accepted transmission is good by the options, and has the properties of
  -- `HasPromisesWithRepeats`.
  pub serves :
      (transmission : Transmission)
      → CarriesOnClock (clock_of options) options.within bytes transmission
      → IsOk answer
      → GoodWithRepeats options.keeps programme transmission options
      × HasPromisesWithRepeats options.keeps programme transmission options
  -- The counts of an accepted file are the counts of its transmission.
  pub counts :
      (transmission : Transmission)
      → CarriesOnClock (clock_of options) options.within bytes transmission
      → IfOk answer (HasCounts options.page transmission)
  -- A returned fault, unless it is in the subtitle file or a failed read, is the first fault among
  -- all events.
  pub first :
      failed is_subtitle_fault answer ≡ false
      → failed is_pes_read_failure answer ≡ false
      → IfErr answer (λ f. first_reported_fault (all_events_of programme options bytes) ≡ Some f)
  -- A failure of the source is reported at the PES packet that could not be read; no event of the
  -- packets before it is a fault.
  pub read :
      (pes : ℕ)
      → answer ≡ Err (fault.Pes pes Read)
      → (pes ≤ length (pes_packet_file_of (clock_of options) bytes).pes_packets)
      × (first_reported_fault (events_of_first_pes_packets programme options bytes pes) ≡ None)
  -- If the fault is `Content`, the cell that the fault names is wrong (`IsNotRightOnAir`) for
  -- receivers that start at the first packet, receive each bit correctly, and have no old text.
  -- They have another code or, if repeats may keep the page, the row of the cell was not sent
  -- again. If the page may still become right later, their code is not allowed (`IsDueWithin`).
  pub content :
      (frame row column : ℕ)
      → answer ≡ Err (fault.Content frame row column)
      → IsNotRightOnAir programme options
      (joined options.within (pes_file_of (clock_of options) bytes).frames) frame row column
  -- If the programme has subtitles, the transmission that `schedule` makes for it and the same
  -- options is accepted, unless the pace is less than the repeat bound, or the result is a fault of
  -- the subtitle file or a failed read.
  pub schedule :
      (serial : Bool)
      → bytes ≡ plan programme options serial
      → programme.records ≢ []
      → IfSome options.pace (λ frames. options.every ≤ frames)
      → failed is_subtitle_fault answer ≡ false
      → failed is_pes_read_failure answer ≡ false
      → IsOk answer

-- The result with options that allow no delay and require C4 (erase page) in each header of the
-- page, in terms of the seven rules. Contracts that use it also state `IsCheckedBy`.
pub record IsChecked
    (programme : ProgrammeValue) (options : OptionsValue) (bytes : List ℕ)
    (answer : Result Accepted CheckFault)
    : Type 0 where
  -- Unless the result is a fault of the subtitle file or a failed read, the file is accepted
  -- exactly if it carries a good transmission of the programme, with complete pages if the options
  -- require them.
  pub accepted :
      failed is_subtitle_fault answer ≡ false
      → failed is_pes_read_failure answer ≡ false
      → IsOk answer
      ↔ ((transmission : Transmission)
      × Carries options.origin bytes transmission
      × Good programme transmission options
      × (IsTrue options.asks_complete → Complete transmission options))
  -- An accepted transmission has all properties of `HasPromises`, and complete pages if the options
  -- require them.
  pub serves :
      (transmission : Transmission)
      → Carries options.origin bytes transmission
      → IsOk answer
      → HasPromises programme transmission options
      × (IsTrue options.asks_complete → Complete transmission options)
  -- If the fault is `Content`, every receiver that starts at the first packet, without a header of
  -- the page before and without an open page, and receives each bit correctly, has a code other
  -- than the expected one in the cell that the fault names, at the end of the frame that it names.
  pub content :
      (frame row column : ℕ)
      → answer ≡ Err (fault.Content frame row column)
      → IsWrongForEveryReceiver programme options (pes_file_of (clock_of options) bytes).frames
      frame row column

-- The result for the bytes of a subtitle file, and for the bytes of a PES file if these are known.
pub record AreChecked
    (drawing : Drawing) (options : OptionsValue) (file : List ℕ) (pes : Option (List ℕ))
    (answer : Result Accepted CheckFault)
    : Type 0 where
  -- If the result is a fault of the subtitle file, it is the first fault of that file, or its
  -- source failed, or an allocation was refused.
  pub subtitles : ReportsSubtitles drawing file answer
  -- A subtitle file from which no programme can be loaded is refused.
  pub refused :
      ((programme : ProgrammeValue) → loaded_programme drawing file ≢ Ok programme)
      → failed is_subtitle_fault answer ≡ true
  -- The PES file is checked against the programme of the subtitle file: in terms of the seven rules
  -- with options that allow no delay and require C4 (erase page), and with any options.
  pub checked :
      (programme : ProgrammeValue)
      → loaded_programme drawing file ≡ Ok programme
      → IsFalse options.keeps
      → options.within ≡ 0
      → IfKnown pes (λ bytes. IsChecked programme options bytes answer)
  pub answer_is_checked_within :
      (programme : ProgrammeValue)
      → loaded_programme drawing file ≡ Ok programme
      → IfKnown pes (λ bytes. IsCheckedBy programme options bytes answer)

-- The result of `check` for this first fault; the counts if there is no fault.
abbrev pub answer_unless_fault : Option CheckFault → Accepted → Result Accepted CheckFault
answer_unless_fault None a = Ok a
answer_unless_fault (Some f) a = Err f

-- The result of `check` for these events: the first fault, or the counts.
abbrev pub first_answer : List Event → Accepted → Result Accepted CheckFault
first_answer events a = answer_unless_fault (first_reported_fault events) a

-- ---- a PES file, checked against the reliable subtitles of a file

-- All events of a check of a PES file against the reliable subtitles of a subtitle file. If no
-- subtitle is unreliable, they are the events for its programme.
abbrev pub all_judged_events : JudgedValue → OptionsValue → List ℕ → List Event
all_judged_events judged options bytes =
    let file = pes_packet_file_of (clock_of options) bytes in
    all_events_of_pes_packets (criteria_of_judged judged options file.unread) file.pes_packets

-- The events of a check of the first n PES packets of a file against the reliable subtitles of a
-- subtitle file, without the events at the end of the PES file.
abbrev pub first_judged_events : JudgedValue → OptionsValue → List ℕ → ℕ → List Event
first_judged_events judged options bytes n =
    let file = pes_packet_file_of (clock_of options) bytes in
    events_of_pes_packets (criteria_of_judged judged options file.unread) (take n file.pes_packets)

-- Frames that the checker reports as trusted need no correction on air: receivers recover in them,
-- whatever is transmitted in other frames, as `StaysAsReadFromFile` specifies. Only the frames
-- of the file before the first that is not after the one before it count.
abbrev pub TrustedFramesMayStay : JudgedValue → OptionsValue → List ℕ → Type 0
TrustedFramesMayStay judged options bytes =
    let file = pes_packet_file_of (clock_of options) bytes in
    (from to : ℕ)
    → Contains (all_judged_events judged options bytes) (Trusted from to)
    → StaysAsReadFromFile (criteria_of_judged judged options file.unread) file.pes_packets from to
    (λ on_air. MayStay judged.programme on_air options from to)

-- Frames that are reported as trusted need no correction on air with any options: with any delay
-- `within`, and for receivers that keep or blank the page at a repeat without C4, erase page.
abbrev pub TrustedFramesMayStayWithin : JudgedValue → OptionsValue → List ℕ → Type 0
TrustedFramesMayStayWithin judged options bytes =
    let file = pes_packet_file_of (clock_of options) bytes in
    (from to : ℕ)
    → Contains (all_judged_events judged options bytes) (Trusted from to)
    → StaysAsReadFromFile (criteria_of_judged judged options file.unread) file.pes_packets from to
    (λ on_air. MayStayWithRepeats judged.programme on_air options from to)

-- At each frame that is reported as trusted, and at each of the `within` frames before it from the
-- first frame read on, the expected page is known.
abbrev pub TrustedFramesAreKnown : JudgedValue → OptionsValue → List ℕ → Type 0
TrustedFramesAreKnown judged options bytes =
    let file = pes_packet_file_of (clock_of options) bytes in
    let read = rising_frames_of (criteria_of_judged judged options file.unread) file.pes_packets in
    (from to : ℕ)
    → Contains (all_judged_events judged options bytes) (Trusted from to)
    → (frame : ℕ)
    → first_frame read ≤ frame
    → frame ≤ to
    → from ≤ frame + options.within
    → IsFalse (is_due_undecided judged frame)

-- If the source fails after n PES packets, their events are a prefix of all events. So the
-- properties of trusted frames apply to the frames reported before the failure.
abbrev pub FirstEventsArePrefix : JudgedValue → OptionsValue → List ℕ → Type 0
FirstEventsArePrefix judged options bytes =
    (n : ℕ)
    → (rest : List Event)
    × (all_judged_events judged options bytes
    ≡ first_judged_events judged options bytes n ++ rest)

-- The events that a check of a PES file reports. If the source did not fail and the report sink did
-- not stop the check, all events are reported, and the result has the counts. If the report sink
-- stopped the check, a prefix of the events is reported. If the source failed, the events of the
-- PES packets before the failure are reported.
abbrev pub ReportsEvents : {D : Type 0} → JudgedValue → OptionsValue → List ℕ
    → (D → Event → D → Type 0) → D → D → Result (Option Accepted) CheckFault → Type 0
ReportsEvents judged options bytes IsReported old new (Ok (Some a)) =
    Reports IsReported old new (all_judged_events judged options bytes)
    × AreCountsOfFrames options.page (frames_read options bytes) a
ReportsEvents judged options bytes IsReported old new (Ok None) =
    ReportsPrefix IsReported old new (all_judged_events judged options bytes)
ReportsEvents judged options bytes IsReported old new (Err f) =
    (n : ℕ)
    × (n ≤ length (pes_packet_file_of (clock_of options) bytes).pes_packets)
    × (f ≡ fault.Pes n Read)
    × Reports IsReported old new (first_judged_events judged options bytes n)
