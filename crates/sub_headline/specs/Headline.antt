-- The statements about the subtitle file and the recording that the exit code of `check` implies.
use Rattle.std.specs.Prelude.{◌≡◌, ◌≢◌, ◌↔◌, ℕ, List, [], ◌∷◌, Option, Some, Ok, Result, codes}
use Rattle.std.specs.Prelude.{IsTrue}
use Rattle.std.specs.List.{flat_map}
use Rattle.clap.specs.Words.{Text}
use Rattle.ttx_page.specs.Receiver.ReceiverClass.{Dropping}
use Rattle.stl_file.specs.Scope.{whole}
use Rattle.stl_file.specs.Subtitle.{SubtitleValue}
use Rattle.stl_rows.specs.DuePage.{due}
use Rattle.stl_rows.specs.Layout.{drawing_by}
use Rattle.sub_files.specs.FileCalls.{CallsInOrder}
use Rattle.sub_files.specs.MemoryFiles.{IsMemoryCall, MemFilesValue, bytes_at}
use Rattle.sub_request.specs.declared.request.UsageFault.{UsageFault}
use Rattle.sub_plan.specs.Examples.{page_888}
use Rattle.sub_plan.specs.Options.{OptionsValue}
use Rattle.sub_rules.specs.Transmission.{Transmission}
use Rattle.sub_answer.specs.FilesInMemory.{memory_observations}
use Rattle.sub_headline.specs.BothClasses.{EachReceiverOfClassGets}
use Rattle.sub_headline.specs.DrawnOptions.{CheckRecordingOption, CheckRecordingSettings}
use Rattle.sub_headline.specs.DrawnOptions.{arguments_of_check_recording_option}
use Rattle.sub_headline.specs.DrawnOptions.{settings_of_options}
use Rattle.sub_headline.specs.EnglishPage.{english_due_page}
use Rattle.sub_headline.specs.EnglishScreen.{EachDecodedPageReads}
use Rattle.sub_headline.specs.PlainAcceptance.{IsAcceptedInPlainTerms}
use Rattle.sub_headline.specs.PlainFiles.{AreReadFrom}
use Rattle.sub_headline.specs.PlainHeadline.{Headline}
use Rattle.sub_headline.specs.PlainOptions.{CheckOption, options_of_check_options}
use Rattle.sub_headline.specs.PlainOptions.{arguments_of_check_option}
use Rattle.sub_headline.specs.OnScreens.{EachDisplayShows}
use Rattle.sub_headline.specs.RecordingOptions.{RecordingOption, Reading, bytes_selected}
use Rattle.sub_headline.specs.RecordingOptions.{reading_of}
use Rattle.sub_headline.specs.RecordingOptions.{arguments_of_recording_option}
use Rattle.sub_headline.specs.PlainReading.{frames_by_place, subtitles_by_place, subtitles_within}
use Rattle.sub_headline.specs.PlainArguments.{IsName}
use Rattle.sub_headline.specs.Run.{RunsProgram}

-- The statement `IsSo` is true for the contents of two files in a run with the arguments `check STL
-- PES`, where STL and PES do not begin with `-`.
abbrev pub ForPlainCheck :
    Result (List Text) UsageFault → MemFilesValue → (List ℕ → List ℕ → Type 0) → Type 0
ForPlainCheck given files IsSo =
    (program stl pes : Text) (file bytes : List ℕ)
    → IsName stl
    → IsName pes
    → given ≡ Ok (program ∷ codes "check" ∷ stl ∷ pes ∷ [])
    → bytes_at stl files ≡ Some file
    → bytes_at pes files ≡ Some bytes
    → IsSo file bytes

-- If the exit code is 0, the headline is true for page 888 with a repeat bound of 250 frames (10
-- seconds). Frame 0 has the PTS 0.
abbrev pub ImpliesHeadline : Result (List Text) UsageFault → MemFilesValue → ℕ → Type 0
ImpliesHeadline given files code =
    ForPlainCheck given files
    (λ file bytes.
    code ≡ 0
    → Headline page_888 250 english_due_page (subtitles_by_place file) (frames_by_place 0 bytes))

-- The statement `IsSo` is true for the options and the contents of two files in a run with the
-- arguments `check STL PES` and any of the options of type `CheckOption`, in any order. STL and PES
-- do not begin with `-`.
abbrev pub ForChosenOptions :
    Result (List Text) UsageFault → MemFilesValue
    → (OptionsValue → List ℕ → List ℕ → Type 0) → Type 0
ForChosenOptions given files IsSo =
    (program stl pes : Text) (choices : List CheckOption) (file bytes : List ℕ)
    → IsName stl
    → IsName pes
    → given ≡ Ok (program ∷ codes "check" ∷ stl ∷ pes ∷ flat_map arguments_of_check_option choices)
    → bytes_at stl files ≡ Some file
    → bytes_at pes files ≡ Some bytes
    → IsSo (options_of_check_options choices) file bytes

-- If the exit code is 0, `IsSo` is true for the options, the subtitles of the subtitle file and the
-- frames of the PES file.
abbrev pub ForAcceptedCheck :
    Result (List Text) UsageFault → MemFilesValue → ℕ
    → (OptionsValue → List SubtitleValue → Transmission → Type 0) → Type 0
ForAcceptedCheck given files code IsSo =
    ForChosenOptions given files
    (λ o file bytes. code ≡ 0 → IsSo o (subtitles_by_place file) (frames_by_place o.origin bytes))

-- If the exit code is 0, the headline is true for the page and the repeat bound of the options.
abbrev pub ImpliesChosenHeadline : Result (List Text) UsageFault → MemFilesValue → ℕ → Type 0
ImpliesChosenHeadline given files code =
    ForAcceptedCheck given files code (λ o. Headline o.page o.every english_due_page)

-- If the exit code is 0, receivers that drop each row with a byte of even parity also have the
-- expected page. All cells of a row are excused if, in the last transmission of the page, the row
-- was lost or any of its 40 data bytes was received wrong.
abbrev pub ImpliesDroppingHeadline : Result (List Text) UsageFault → MemFilesValue → ℕ → Type 0
ImpliesDroppingHeadline given files code =
    ForAcceptedCheck given files code (λ o. EachReceiverOfClassGets Dropping o.page o.every)

-- If the exit code is 0, the decoded page of each receiver of either class shows the characters of
-- the expected page, as `EachDecodedPageReads` specifies.
abbrev pub ImpliesPageCharacters : Result (List Text) UsageFault → MemFilesValue → ℕ → Type 0
ImpliesPageCharacters given files code = ForAcceptedCheck given files code
    (λ o. EachDecodedPageReads o.page)

-- If the exit code is 0, both files match their formats. The subtitle file contains these subtitles
-- and no others, and the PES file contains these frames and no others.
abbrev pub ImpliesFileReading : Result (List Text) UsageFault → MemFilesValue → ℕ → Type 0
ImpliesFileReading given files code =
    ForChosenOptions given files
    (λ o file bytes.
    code ≡ 0
    → AreReadFrom whole o.origin file bytes (subtitles_by_place file)
    (frames_by_place o.origin bytes))

-- If the exit code is 0 and complete pages were required, receivers that show a page only after a
-- later header has ended it also show the expected page, as `EachDisplayShows` specifies.
abbrev pub ImpliesCompletePages : Result (List Text) UsageFault → MemFilesValue → ℕ → Type 0
ImpliesCompletePages given files code =
    ForAcceptedCheck given files code
    (λ o subtitles transmission.
    IsTrue o.asks_complete → EachDisplayShows o.page subtitles transmission)

-- The statement `IsSo` is true for the settings and the contents of two files in a run with the
-- arguments `check STL RECORDING` and any of the options of type `RecordingOption`, in any order.
-- STL and RECORDING do not begin with `-`; RECORDING is a PES file or, with `--pid`, a transport
-- stream.
abbrev pub ForRecordingCheck :
    Result (List Text) UsageFault → MemFilesValue → (Reading → List ℕ → List ℕ → Type 0) → Type 0
ForRecordingCheck given files IsSo =
    (program stl recording : Text) (parts : List RecordingOption) (file bytes : List ℕ)
    → IsName stl
    → IsName recording
    → given ≡ Ok (program ∷ codes "check" ∷ stl ∷ recording ∷ flat_map arguments_of_recording_option
    parts)
    → bytes_at stl files ≡ Some file
    → bytes_at recording files ≡ Some bytes
    → IsSo (reading_of parts) file bytes

-- If the exit code is 0, the headline is true for the subtitles and frames in the selected parts of
-- both files.
abbrev pub ImpliesRecordingHeadline : Result (List Text) UsageFault → MemFilesValue → ℕ → Type 0
ImpliesRecordingHeadline given files code =
    ForRecordingCheck given files
    (λ r file bytes.
    code ≡ 0
    → Headline r.options.page r.options.every english_due_page (subtitles_within r.scope file)
    (frames_by_place r.options.origin (bytes_selected r bytes)))

-- Further receivers also have the expected page: receivers that drop damaged rows and, if complete
-- pages are required, receivers that wait for these; and the decoded pages of all receivers that
-- are set to region 0000 or 0010 show its characters.
pub record ServesOtherReceivers
    (o : OptionsValue) (subtitles : List SubtitleValue) (transmission : Transmission)
    : Type 0 where
  pub dropping : EachReceiverOfClassGets Dropping o.page o.every subtitles transmission
  pub decoded_characters : EachDecodedPageReads o.page subtitles transmission
  pub complete : IsTrue o.asks_complete → EachDisplayShows o.page subtitles transmission

-- If the exit code is 0, `ServesOtherReceivers` is true for the subtitles and frames in the
-- selected parts of both files.
abbrev pub ImpliesRecordingReceivers : Result (List Text) UsageFault → MemFilesValue → ℕ → Type 0
ImpliesRecordingReceivers given files code =
    ForRecordingCheck given files
    (λ r file bytes.
    code ≡ 0
    → ServesOtherReceivers r.options (subtitles_within r.scope file)
    (frames_by_place r.options.origin (bytes_selected r bytes)))

-- If the exit code is 0, the selected bytes are a PES file that contains these frames and no
-- others. The subtitle file contains these subtitles and no others in its selected part.
abbrev pub ImpliesRecordingReading : Result (List Text) UsageFault → MemFilesValue → ℕ → Type 0
ImpliesRecordingReading given files code =
    ForRecordingCheck given files
    (λ r file bytes.
    code ≡ 0
    → AreReadFrom r.scope r.options.origin file (bytes_selected r bytes) (subtitles_within r.scope
    file)
    (frames_by_place r.options.origin (bytes_selected r bytes)))

-- The statement `IsSo` is true for the settings and the contents of two files in a run with the
-- arguments `check STL RECORDING` and any of the options of type `CheckRecordingOption`, in any
-- order. STL and RECORDING do not begin with `-`.
abbrev pub ForCheckRecordingOptions :
    Result (List Text) UsageFault → MemFilesValue
    → (CheckRecordingSettings → List ℕ → List ℕ → Type 0) → Type 0
ForCheckRecordingOptions given files IsSo =
    (program stl recording : Text) (choices : List CheckRecordingOption) (file bytes : List ℕ)
    → IsName stl
    → IsName recording
    → given ≡ Ok (program ∷ codes "check" ∷ stl ∷ recording
    ∷ flat_map arguments_of_check_recording_option choices)
    → bytes_at stl files ≡ Some file
    → bytes_at recording files ≡ Some bytes
    → IsSo (settings_of_options choices) file bytes

-- If the exit code is 0, the headline is true for subtitles drawn with the national option and the
-- layout.
abbrev pub ImpliesDrawnHeadline : Result (List Text) UsageFault → MemFilesValue → ℕ → Type 0
ImpliesDrawnHeadline given files code =
    ForCheckRecordingOptions given files
    (λ l file bytes.
    let o = l.reading.options in
    code ≡ 0
    → Headline o.page o.every (due (drawing_by l.national l.layout))
    (subtitles_within l.reading.scope file)
    (frames_by_place o.origin (bytes_selected l.reading bytes)))

-- Unless the exit code is 2 (the arguments are invalid, a file can't be opened, a device failed or
-- memory ran out), it is 0 exactly if the files contain subtitles, possibly none, and a good
-- transmission of these subtitles by the options.
abbrev pub DecidesAcceptance : Result (List Text) UsageFault → MemFilesValue → ℕ → Type 0
DecidesAcceptance given files code =
    ForChosenOptions given files (λ o file bytes. code ≢ 2 → (code ≡ 0) ↔ IsAcceptedInPlainTerms o
    file bytes)

-- The exit code of each run of the program implies all these statements. The files are in memory,
-- and `before` has their contents when the program starts. Standard output is any device, given by
-- the functions for its contents and its number of failed calls, and by the relation for its calls.
-- `given` are the arguments, and `code` is the exit code.
abbrev pub LawOfHeadline :
    {K : Type 0}
    → (K → Option (List ℕ)) → (K → ℕ) → (K → List ℕ → Option ℕ → K → Type 0) → Type 0
LawOfHeadline {K} contents failure_count IsPush =
    (given : Result (List Text) UsageFault) (before after : MemFilesValue) (output left : K)
    (code : ℕ)
    → RunsProgram (CallsInOrder IsMemoryCall before after) memory_observations (λ was is. is ≡ was)
    given
    contents failure_count IsPush output left code
    → ImpliesHeadline given before code × ImpliesChosenHeadline given before code
    × ImpliesDroppingHeadline given before code × ImpliesPageCharacters given before code
    × ImpliesFileReading given before code × ImpliesCompletePages given before code
    × ImpliesRecordingHeadline given before code × ImpliesRecordingReceivers given before code
    × ImpliesRecordingReading given before code × ImpliesDrawnHeadline given before code
    × DecidesAcceptance given before code
