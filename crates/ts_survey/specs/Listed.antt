-- The first lines of the output of `survey` report the first bytes and the kind of the recording
-- and, if it is a transport stream, the requested PID, if any. The last line has the numbers of the
-- bytes that belong to no packet and of the transport packets; both are 0 for a file of PES
-- packets.
use Rattle.std.specs.Prelude.{◌≡◌, ⊤, true, false, ℕ, List, [], ◌∷◌, ◌++◌, Option, IfSome}
use Rattle.std.specs.Prelude.{codes, take}
use Rattle.std.specs.Io.KnownBytes.{Appends}
use Rattle.std.specs.List.{concat}
use Rattle.mpeg_ts.specs.declared.survey_options.SurveyOptions.{SurveyOptions}
use Rattle.ts_survey.specs.Requested.{KeepsRequested, unrequested_followed_pids}
use Rattle.ts_survey.specs.Counted.{CountsRecording}
use Rattle.ts_survey.specs.FirstLines.{begins_with_pes_packet, head_size, head_texts_if_received}
use Rattle.ts_survey.specs.FirstLines.{head_texts, is_pes}
use Rattle.ts_survey.specs.FirstLines.{kind_texts}
use Rattle.ts_survey.specs.Lines.{AddsTexts, line_end, space_and_number}
use Rattle.ts_survey.specs.Stream.{is_unknown}
use Rattle.ts_survey.specs.declared.multiplex.Multiplex.{Multiplex}
use Rattle.ts_survey.specs.declared.packets_in_step.PacketsInStep.{PacketsInStep}
use Rattle.ts_survey.specs.declared.recording.Kind.{Kind}
use Rattle.ts_survey.specs.declared.recording.Kind.TheVariants.{Nothing, Pes, Stream, Unknown}
use Rattle.ts_survey.specs.declared.recording.Recording.{Recording}
use Rattle.ts_survey.specs.declared.text.Text.{Text}

-- ---- the requested options

-- If the recording is a transport stream, it has the requested packet size, if any; its state
-- contains the requested PID, if any, and the requested pages; and if a PID is requested, no other
-- PID is followed for Teletext.
abbrev pub IsAsRequested : SurveyOptions → Kind → Type 0
IsAsRequested options (Stream packets multiplex) =
    (IfSome options.packet_size (λ size. packets.size ≡ size))
    × (multiplex.requested ≡ options.pid)
    × (multiplex.pages ≡ options.pages)
    × (unrequested_followed_pids multiplex ≡ [])
IsAsRequested options _ = ⊤

-- Two states of reading a stream have the same packet size, the same requested PID and pages, and
-- the same PIDs that are followed for Teletext although they are not requested.
pub record KeepsSizeAndOptions (packets : PacketsInStep) (multiplex : Multiplex)
    (after : PacketsInStep)
    (reported : Multiplex) : Type 0 where
  pub size : after.size ≡ packets.size
  pub keeps : KeepsRequested multiplex reported

-- The kind of a recording did not change, and a transport stream has kept its packet size and its
-- options.
abbrev pub KeepsKind : Kind → Kind → Type 0
KeepsKind Unknown Unknown = ⊤
KeepsKind (Pes file) (Pes after) = ⊤
KeepsKind (Stream packets multiplex) (Stream after reported) =
    KeepsSizeAndOptions packets multiplex after reported
KeepsKind Nothing Nothing = ⊤
KeepsKind _ _ = ⊥

-- ---- the last line of the output

-- The number of transport packets found so far in a recording, or 0 if the recording is no
-- transport stream.
abbrev pub stream_packet_count : Kind → ℕ
stream_packet_count (Stream packets multiplex) = packets.number
stream_packet_count _ = 0

-- The number of bytes that belong to no packet: 0 for a file of PES packets, the bytes that a
-- transport stream skipped, and otherwise `skipped`.
abbrev pub skipped_count_for_kind : Kind → ℕ → ℕ
skipped_count_for_kind (Pes file) skipped = 0
skipped_count_for_kind (Stream packets multiplex) skipped = packets.skipped
skipped_count_for_kind _ skipped = skipped

-- The line `over SKIPPED PACKETS`.
abbrev pub counts_line : ℕ → ℕ → List (List ℕ)
counts_line skipped number =
    codes "over" ∷ space_and_number skipped ∷ space_and_number number ∷ line_end ∷ []

-- The number of bytes found so far in a recording that belong to no packet; 0 for a file of PES
-- packets.
abbrev pub skipped_count_of_recording : Recording → ℕ
skipped_count_of_recording r = skipped_count_for_kind r.kind r.skipped

-- The last line of the output is `over` with the counts of the recording, unless the text is lost.
pub record ReportsEnd (r : Recording) (new : Text) : Type 0 where
  pub before : Text
  pub over : AddsTexts before
      (counts_line (skipped_count_of_recording r) (stream_packet_count r.kind)) new

-- ---- the lines of a recording

-- The output for a recording after the bytes received: the first lines, if they were printed, and
-- the lines of its kind; once the kind is known, other text may follow.
pub record IsReported (recording : Recording) (received listing : List ℕ) : Type 0 where
  pub more : List ℕ
  pub reported :
      listing ≡ concat (head_texts_if_received recording.has_head (take head_size received)
      ++ kind_texts recording.kind) ++ more
  pub unknown : is_unknown recording.kind ≡ true → more ≡ []
  pub none : recording.has_head ≡ false → is_unknown recording.kind ≡ true
  pub pes :
      recording.has_head ≡ true → is_pes recording.kind ≡ begins_with_pes_packet
      (take head_size received)

-- The output for a complete recording: the first lines; the lines of its kind, with the requested
-- options; other text; and the last line `over`, with the counts of `CountsStream` for a transport
-- stream, and with two zeros for a file of PES packets.
pub record IsSurveyOutput
    (options : SurveyOptions) (recording : Option (List ℕ)) (listing : List ℕ) : Type 0 where
  pub received : List ℕ
  pub all : IfSome recording (λ bytes. received ≡ bytes)
  pub last : Recording
  pub requested : IsAsRequested options last.kind
  pub known : is_unknown last.kind ≡ false
  pub pes : is_pes last.kind ≡ begins_with_pes_packet (take head_size received)
  pub counted : CountsRecording received last.kind
  pub between : List ℕ
  pub listed :
      listing ≡ concat (head_texts (take head_size received) ++ kind_texts last.kind) ++ between
      ++ concat (counts_line (skipped_count_of_recording last) (stream_packet_count last.kind))

-- The output for a recording was appended to the sink.
abbrev pub ReportsSurvey :
    SurveyOptions → Option (List ℕ) → Option (List ℕ) → Option (List ℕ) → Type 0
ReportsSurvey options recording old new =
    (listing : List ℕ) × Appends old new listing × IsSurveyOutput options recording listing
