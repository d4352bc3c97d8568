-- The first lines of a survey: the first bytes and the kind of the recording, and the requested
-- PID.
use Rattle.std.specs.Prelude.{◌≡◌, ◌==◌, ◌&&◌, ◌||◌, not, nat_le, nat_lt, ℕ, Bool, true, false}
use Rattle.std.specs.Prelude.{if◌then◌else◌, List, [], ◌∷◌, ◌++◌, Option, Some, None, codes, length}
use Rattle.std.specs.Prelude.{slice_index, take}
use Rattle.mpeg_ts.specs.PacketSize.{bytes_of}
use Rattle.ts_survey.specs.Lines.{AddsTexts, line_end, space_and_number}
use Rattle.ts_survey.specs.Stream.{is_unknown}
use Rattle.ts_survey.specs.Text.{hex_text}
use Rattle.ts_survey.specs.declared.recording.Kind.{Kind}
use Rattle.ts_survey.specs.declared.recording.Kind.TheVariants.{Nothing, Pes, Stream, Unknown}
use Rattle.ts_survey.specs.declared.recording.Recording.{Recording}
use Rattle.ts_survey.specs.declared.text.Text.{Text}

-- ---- the text of the first lines

-- The number of first bytes of a recording that are printed, if the recording has so many.
abbrev pub head_size : ℕ
head_size = 11

-- A space, unless the word after it is empty.
abbrev pub space_before_word : List ℕ → List ℕ
space_before_word word = if length word == 0 then [] else codes " "

-- The line `survey 1`, and the line `head HEX` with the first bytes of the recording.
abbrev pub head_texts : List ℕ → List (List ℕ)
head_texts head =
    codes "survey 1\nhead" ∷ space_before_word head ∷ hex_text head ∷ line_end ∷ []

-- The line `size N` with the packet size.
abbrev pub size_line : ℕ → List (List ℕ)
size_line size = codes "size" ∷ space_and_number size ∷ line_end ∷ []

-- The line `teletext PID`, printed when a PID is first followed.
abbrev pub teletext_line : ℕ → List (List ℕ)
teletext_line pid = codes "teletext" ∷ space_and_number pid ∷ line_end ∷ []

-- The line of the requested PID, which is followed from the first packet; no line if no PID is
-- requested.
abbrev pub requested_pid_texts : Option ℕ → List (List ℕ)
requested_pid_texts None = []
requested_pid_texts (Some pid) = teletext_line pid

-- The lines that report the kind of a recording: a file of PES packets, a transport stream, or
-- neither. For a transport stream, the line of the requested PID follows, if a PID is requested.
-- There is no line while the kind is unknown.
abbrev pub kind_texts : Kind → List (List ℕ)
kind_texts Unknown = []
kind_texts (Pes file) = codes "size 0\n" ∷ []
kind_texts (Stream packets multiplex) =
    size_line (bytes_of packets.size) ++ requested_pid_texts multiplex.requested
kind_texts Nothing = codes "nothing\n" ∷ []

-- ---- when the first lines are printed

-- The recording begins like a file of PES packets: with packet_start_code_prefix and the stream_id
-- of private_stream_1 (EN 300 472), not followed by the sync byte, before which the same bytes may
-- be a time stamp.
abbrev pub begins_with_pes_packet : List ℕ → Bool
begins_with_pes_packet head =
    nat_le 4 (length head) && (slice_index head 0 == 0) && (slice_index head 1 == 0)
    && (slice_index head 2 == 1) && (slice_index head 3 == 0xBD)
    && (nat_lt (length head) 5 || not (slice_index head 4 == 0x47))

-- The recording is a file of PES packets.
abbrev pub is_pes : Kind → Bool
is_pes (Pes file) = true
is_pes _ = false

-- The lines `survey 1` and `head`, once the first bytes of the recording are received or the
-- recording has ended.
abbrev pub head_texts_if_received : Bool → List ℕ → List (List ℕ)
head_texts_if_received has_head head = if has_head then head_texts head else []

-- The lines `survey 1` and `head`, once the first bytes of the recording are received or the
-- recording has ended, unless they were printed before.
abbrev pub newly_reported_head : Bool → List ℕ → Bool → List (List ℕ)
newly_reported_head before bytes after = if before then [] else head_texts_if_received after
    (take head_size bytes)

-- Bytes of a recording of unknown kind were examined; the kind may still be unknown afterwards. If
-- memory did not run out, exactly these lines were printed: `survey 1` and `head`, once the first
-- bytes are received or the recording has ended and unless they were printed before, and the lines
-- of the kind. The recording is then known as a file of PES packets exactly if `head` was printed
-- now and the recording begins like one.
pub record FindsKind (old : Recording) (bytes : List ℕ) (before after : Text) (new : Recording)
    : Type 0 where
  pub reported :
      new.out_of_memory ≡ false
      → AddsTexts before
      (newly_reported_head old.has_head bytes new.has_head ++ kind_texts new.kind) after
  pub stays : old.has_head ≡ true → new.has_head ≡ true
  pub none : new.has_head ≡ false → is_unknown new.kind ≡ true
  pub pes :
      new.out_of_memory ≡ false → old.has_head ≡ false → new.has_head ≡ true
      → is_pes new.kind ≡ begins_with_pes_packet (take head_size bytes)
  pub kind_is_not_pes : old.has_head ≡ true → is_pes new.kind ≡ false
