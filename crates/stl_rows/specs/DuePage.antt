-- The expected page at a frame of the day, and the cues: the frames at which the expected page can
-- change.
use Rattle.std.specs.Prelude.{◌≡◌, ℕ, ◌-◌, ◌<◌, ◌≤◌, ◌==◌, ◌⊎◌, Bool, ◌&&◌, List, Option, Some}
use Rattle.std.specs.Prelude.{None, nat_lt, nat_le, option_map, All, Any, Contains}
use Rattle.std.specs.List.{find}
use Rattle.std.specs.Result.{result_unwrap_or}
use Rattle.ttx_page.specs.Page.{Rows, blank, blank_row, row_at, IsPage}
use Rattle.stl_file.specs.Subtitle.{SubtitleValue}
use Rattle.stl_rows.specs.declared.layout.Drawing.{Drawing}
use Rattle.stl_rows.specs.DrawnPage.{drawn}
use Rattle.stl_rows.specs.Programme.{AreInOrder}

-- A subtitle is due, so that its page is expected on the air, from its TCI to the frame before its
-- TCO.
abbrev pub is_due : ℕ → SubtitleValue → Bool
is_due frame t = nat_le t.tci frame && nat_lt frame t.tco

-- The drawn page of a subtitle; blank if there is no subtitle, or if the subtitle cannot be drawn.
abbrev pub drawn_or_blank : Drawing → Option SubtitleValue → Rows
drawn_or_blank drawing None = blank
drawn_or_blank drawing (Some t) = result_unwrap_or (drawn drawing t) blank

-- The expected page at a frame: the drawn page of the first subtitle in the list that is due at the
-- frame; blank if no subtitle is due, or if that subtitle cannot be drawn. If subtitles do not
-- overlap (`AreInOrder`), at most one is due at each frame.
unfoldable pub due : Drawing → List SubtitleValue → ℕ → Rows
due drawing records frame = drawn_or_blank drawing (find (is_due frame) records)

-- The subtitle ends at the frame: its TCO is the frame.
abbrev pub ends_at : ℕ → SubtitleValue → Bool
ends_at frame t = t.tco == frame

-- The TCI of the first subtitle in the list whose TCO is the frame; `None` if no subtitle ends at
-- the frame. If subtitles are valid (`IsSubtitle`) and do not overlap (`AreInOrder`), at most one
-- subtitle ends at each frame.
unfoldable pub tci_of_subtitle_ending_at : List SubtitleValue → ℕ → Option ℕ
tci_of_subtitle_ending_at records frame = option_map (λ t. t.tci) (find (ends_at frame) records)

-- The frame is a cue: the TCI or the TCO of a subtitle.
abbrev pub IsEdge : List SubtitleValue → ℕ → Type 0
IsEdge records frame = Any (λ t. (frame ≡ t.tci) ⊎ (frame ≡ t.tco)) records

-- `edge` is the first cue after the frame.
pub record IsNextEdge (records : List SubtitleValue) (frame edge : ℕ) : Type 0 where
  pub is_edge : IsEdge records edge
  pub after : frame < edge
  pub least : (e : ℕ) → IsEdge records e → frame < e → edge ≤ e

-- The result is the first cue after the frame, or `None` if no cue is after the frame.
abbrev pub ReportsNextEdge : List SubtitleValue → ℕ → Option ℕ → Type 0
ReportsNextEdge records frame None = (e : ℕ) → IsEdge records e → e ≤ frame
ReportsNextEdge records frame (Some edge) = IsNextEdge records frame edge

-- `edge` is the last cue at or before the frame.
pub record IsLastEdge (records : List SubtitleValue) (frame edge : ℕ) : Type 0 where
  pub is_edge : IsEdge records edge
  pub until : edge ≤ frame
  pub greatest : (e : ℕ) → IsEdge records e → e ≤ frame → e ≤ edge

-- The result is the last cue at or before the frame, or `None` if all cues are after the frame.
abbrev pub ReportsLastEdge : List SubtitleValue → ℕ → Option ℕ → Type 0
ReportsLastEdge records frame None = (e : ℕ) → IsEdge records e → frame < e
ReportsLastEdge records frame (Some edge) = IsLastEdge records frame edge

-- If subtitles do not overlap (`AreInOrder`), the expected page at a frame is the drawn page of any
-- subtitle due at that frame, or blank if the subtitle cannot be drawn. So the order in which
-- subtitles are searched does not matter.
abbrev pub LawOfDueSubtitles : Type 0
LawOfDueSubtitles =
    (drawing : Drawing) (records : List SubtitleValue) (frame : ℕ) (t : SubtitleValue)
    → AreInOrder records
    → Contains records t
    → t.tci ≤ frame
    → frame < t.tco
    → due drawing records frame ≡ drawn_or_blank drawing (Some t)

-- If each subtitle starts after the frame or ends at or before it, the expected page at the frame
-- is blank.
abbrev pub LawOfBlankPages : Type 0
LawOfBlankPages =
    (drawing : Drawing) (records : List SubtitleValue) (frame : ℕ)
    → All (λ t. (frame < t.tci) ⊎ (t.tco ≤ frame)) records
    → due drawing records frame ≡ blank

-- The expected page changes only at a TCI or a TCO. So a checker that draws the expected page only
-- at cues misses no change.
abbrev pub LawOfEdges : Type 0
LawOfEdges =
    (drawing : Drawing) (records : List SubtitleValue) (frame : ℕ)
    → 1 ≤ frame
    → (IsEdge records frame → ⊥)
    → due drawing records frame ≡ due drawing records (frame - 1)

-- Row 24 of each expected page is blank, since no subtitle may use row 24. So a transmission of an
-- expected page needs only 23 rows.
abbrev pub LawOfRow24 : Type 0
LawOfRow24 =
    (drawing : Drawing) (records : List SubtitleValue) (frame : ℕ)
    → row_at (due drawing records frame) 24 ≡ blank_row

-- Each expected page is a valid page: 24 rows of 40 codes below 128. So the page can be sent with
-- odd parity.
abbrev pub LawOfDuePages : Type 0
LawOfDuePages =
    (drawing : Drawing) (records : List SubtitleValue) (frame : ℕ)
    → IsPage (due drawing records frame)
