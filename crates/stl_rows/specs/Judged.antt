-- The reliable subtitles of a file, which may also have other subtitles, and the frames at which
-- the expected page is unknown.
--
-- A subtitle is reliable if it has no fault and the next subtitle that is not rejected, if any, is
-- in order with it. The times of any other subtitle decide at most whether its neighbours are
-- reliable: between the last reliable subtitle before it and the next reliable subtitle, any page
-- may be expected.
use Rattle.std.specs.Prelude.{◌≡◌, ℕ, Bool, false, true, ◌&&◌, ◌||◌, nat_le, nat_lt, List, [], ◌∷◌}
use Rattle.std.specs.Prelude.{if◌then◌else◌, is_none, map, Option, Some, None, All, IsOk, Ok, ◌⊎◌}
use Rattle.std.specs.List.{list_any}
use Rattle.stl_file.specs.Reader.{findings_within_scope}
use Rattle.stl_file.specs.Reading.{Findings, breaks, finds, no_more, refuses}
use Rattle.stl_file.specs.Subtitle.{SubtitleValue}
use Rattle.stl_file.specs.KeptBlocks.{has_no_ending_fault}
use Rattle.stl_rows.specs.declared.layout.Drawing.{Drawing}
use Rattle.stl_rows.specs.declared.times.Times.{Times}
use Rattle.stl_rows.specs.DrawnPage.{drawn}
use Rattle.stl_rows.specs.EveryFault.{faults}
use Rattle.stl_rows.specs.Loading.{loaded_programme, subtitles_of_findings}
use Rattle.stl_rows.specs.Programme.{ProgrammeValue, faults_of_next_subtitle, order_faults}
use Rattle.stl_rows.specs.Programme.{times_of}
use Rattle.stl_rows.specs.TextCode.{first_of}

-- A reliable subtitle, and whether an unreliable subtitle of the file directly precedes it.
pub record ReliableSubtitle : Type 0 where
  pub subtitle : SubtitleValue
  pub is_after_unreliable : Bool

-- The reliable subtitles of a file, and whether an unreliable subtitle follows the last one; if
-- there is none, whether the file has an unreliable subtitle.
pub record ReliableSubtitles : Type 0 where
  pub judged : List ReliableSubtitle
  pub is_before_unreliable : Bool

-- The next subtitle in the file that is not rejected starts neither before the TCI of `times` nor
-- before the TCO. Also true if no such subtitle follows.
abbrev pub is_followed_in_order : Times → Findings → Bool
is_followed_in_order times no_more = true
is_followed_in_order times (breaks fault block) = true
is_followed_in_order times (refuses fault block more) = is_followed_in_order times more
is_followed_in_order times (finds t block more) =
    is_none (first_of (order_faults (Some times) (times_of t)))

-- Puts a reliable subtitle in front of the other reliable subtitles.
abbrev pub with_judged_in_front : ReliableSubtitle → ReliableSubtitles → ReliableSubtitles
with_judged_in_front j all =
    record { judged = j ∷ all.judged; is_before_unreliable = all.is_before_unreliable }

-- The reliable subtitles of the rest of a file, after a subtitle with the times `before`. `other`:
-- an unreliable subtitle was found after the last reliable one. A subtitle is reliable if it has no
-- fault and the next subtitle that is not rejected, if any, is in order with it.
unfoldable pub judged_after : Drawing → Option Times → Bool → Findings → ReliableSubtitles
judged_after drawing before other no_more = record { judged = []; is_before_unreliable = other }
judged_after drawing before other (breaks fault block) =
    record { judged = []; is_before_unreliable = other }
judged_after drawing before other (refuses fault block more) =
    judged_after drawing before true more
judged_after drawing before other (finds t block more) =
    if is_none (first_of (faults_of_next_subtitle drawing before t))
    && is_followed_in_order (times_of t) more
    then with_judged_in_front (record { subtitle = t; is_after_unreliable = other })
    (judged_after drawing (Some (times_of t)) false more)
    else judged_after drawing (Some (times_of t)) true more

-- The reliable subtitles of a file that is read within the drawing's scope.
unfoldable pub reliable_subtitles_of : Drawing → List ℕ → ReliableSubtitles
reliable_subtitles_of drawing file =
    judged_after drawing None false (findings_within_scope drawing.scope file)

-- ---- whether a transmission can be checked

-- All subtitles in the list start at this frame or later.
abbrev pub start_no_earlier_than : ℕ → List ReliableSubtitle → Bool
start_no_earlier_than frame [] = true
start_no_earlier_than frame (j ∷ js) = nat_le frame j.subtitle.tci && start_no_earlier_than frame js

-- No subtitle in the list starts before the TCO of an earlier subtitle.
abbrev pub are_in_order : List ReliableSubtitle → Bool
are_in_order [] = true
are_in_order (j ∷ js) = start_no_earlier_than j.subtitle.tco js && are_in_order js

-- The list has at least one subtitle.
abbrev pub has_any_subtitle : List ReliableSubtitle → Bool
has_any_subtitle [] = false
has_any_subtitle (j ∷ js) = true

-- A transmission can be checked against the reliable subtitles of the file: no fault ended reading,
-- and the file has at least one reliable subtitle, none of which starts before the TCO of an
-- earlier one.
abbrev pub can_judge : Drawing → List ℕ → Bool
can_judge drawing file =
    let judged = (reliable_subtitles_of drawing file).judged in
    has_no_ending_fault (findings_within_scope drawing.scope file) && has_any_subtitle judged &&
    are_in_order judged

-- ---- frames with an unknown expected page

-- The frame is in a gap before, between or after the reliable subtitles in the list, and at this
-- place the file has an unreliable subtitle, whatever its times (for the last gap: `other`). The
-- first gap begins at `start`, which is the TCO of the subtitle before the list, or 0 if there is
-- none; the last gap has no end.
abbrev pub is_undecided_from : ℕ → List ReliableSubtitle → Bool → ℕ → Bool
is_undecided_from start [] other frame = nat_le start frame && other
is_undecided_from start (j ∷ js) other frame =
    (nat_le start frame && nat_lt frame j.subtitle.tci && j.is_after_unreliable)
    || is_undecided_from j.subtitle.tco js other frame

-- The expected page is unknown at this frame, because the frame is in a gap where the file has an
-- unreliable subtitle.
abbrev pub is_undecided : ReliableSubtitles → ℕ → Bool
is_undecided all frame = is_undecided_from 0 all.judged all.is_before_unreliable frame

-- ---- the model of a `JudgedProgramme`

-- The model of a `JudgedProgramme`: the programme of the reliable subtitles; for each in order,
-- whether an unreliable subtitle directly precedes it (a missing bit means false); and whether an
-- unreliable subtitle follows the last.
pub record JudgedValue : Type 0 where
  pub programme : ProgrammeValue
  pub after_unreliable_bits : List Bool
  pub is_before_unreliable : Bool

-- Combines each reliable subtitle with its bit: whether an unreliable subtitle directly precedes
-- it. A missing bit means false.
abbrev pub judged_subtitles_with_bits : List SubtitleValue → List Bool → List ReliableSubtitle
judged_subtitles_with_bits [] bits = []
judged_subtitles_with_bits (t ∷ ts) [] = record { subtitle = t; is_after_unreliable = false } ∷
    judged_subtitles_with_bits ts []
judged_subtitles_with_bits (t ∷ ts) (bit ∷ bits) =
    record { subtitle = t; is_after_unreliable = bit } ∷ judged_subtitles_with_bits ts bits

-- The reliable subtitles of a `JudgedProgramme`, each with its bit.
abbrev pub all_judged_of_programme : JudgedValue → ReliableSubtitles
all_judged_of_programme j = record {
  judged = judged_subtitles_with_bits j.programme.records j.after_unreliable_bits;
  is_before_unreliable = j.is_before_unreliable;
}

-- The expected page of a `JudgedProgramme` is unknown at this frame.
unfoldable pub is_undecided_in : JudgedValue → ℕ → Bool
is_undecided_in j frame = is_undecided (all_judged_of_programme j) frame

-- The file of a `JudgedProgramme` has at least one unreliable subtitle within the scope.
abbrev pub has_unreliable_subtitle : JudgedValue → Bool
has_unreliable_subtitle j = j.is_before_unreliable || list_any (λ bit. bit) j.after_unreliable_bits

-- The `JudgedProgramme` of a file in which all subtitles are reliable.
abbrev pub known : ProgrammeValue → JudgedValue
known programme =
    record { programme = programme; after_unreliable_bits = []; is_before_unreliable = false }

-- The programme against which a transmission is checked: if the file has no faults, all its
-- subtitles; otherwise its reliable subtitles, if a transmission can be checked against them.
pub record JudgesFile (drawing : Drawing) (file : List ℕ) (j : JudgedValue) : Type 0 where
  pub all : all_judged_of_programme j ≡ reliable_subtitles_of drawing file
  pub enough : (can_judge drawing file ≡ true) ⊎ (faults drawing file ≡ [])
  pub whole :
      faults drawing file ≡ []
      → (loaded_programme drawing file ≡ Ok j.programme) × (j ≡ known j.programme)

-- ---- laws of reliable subtitles

-- If all subtitles of a file are reliable, the expected page is known at every frame.
abbrev pub LawOfReliableFiles : Type 0
LawOfReliableFiles =
    (programme : ProgrammeValue) (frame : ℕ) → is_undecided_in (known programme) frame ≡ false

-- Each reliable subtitle of a file can be drawn.
abbrev pub LawOfReliableSubtitles : Type 0
LawOfReliableSubtitles =
    (drawing : Drawing) (file : List ℕ)
    → All (λ (j : ReliableSubtitle). IsOk (drawn drawing j.subtitle))
    (reliable_subtitles_of drawing file).judged

-- If a file has no faults, all its subtitles are reliable, and the expected page is known at every
-- frame.
abbrev pub LawOfFaultlessFiles : Type 0
LawOfFaultlessFiles =
    (drawing : Drawing) (file : List ℕ)
    → faults drawing file ≡ []
    → (map (λ (j : ReliableSubtitle). j.subtitle) (reliable_subtitles_of drawing file).judged
    ≡ subtitles_of_findings (findings_within_scope drawing.scope file))
    × ((frame : ℕ) → is_undecided (reliable_subtitles_of drawing file) frame ≡ false)
