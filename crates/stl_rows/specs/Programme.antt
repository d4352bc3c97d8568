-- A programme is a list of valid subtitles that are in order, do not overlap and can all be drawn.
use Rattle.std.specs.Prelude.{ℕ, ◌-◌, ◌<◌, ◌≤◌, List, [], ◌∷◌, ◌++◌, Option, Some, None, option_map}
use Rattle.std.specs.Prelude.{Result, Ok, Err, nat_lt, if◌then◌else◌, length, slice_get}
use Rattle.std.specs.Prelude.{slice_index_or, All, IsOk}
use Rattle.ttx_page.specs.Page.{Rows}
use Rattle.stl_file.specs.Subtitle.{SubtitleValue, IsSubtitle}
use Rattle.stl_rows.specs.declared.fault.RowFault.{RowFault}
use Rattle.stl_rows.specs.declared.fault.LoadFaultKind.{LoadFaultKind}
use Rattle.stl_rows.specs.declared.fault.LoadFaultKind.TheVariants.{OutOfOrder, Overlap, Row}
use Rattle.stl_rows.specs.declared.layout.Drawing.{Drawing}
use Rattle.stl_rows.specs.declared.times.Times.{Times}
use Rattle.stl_rows.specs.DrawnPage.{drawn}

-- The model of a `Programme`: the drawing, and the list of subtitles.
pub record ProgrammeValue : Type 0 where
  pub drawing : Drawing
  pub records : List SubtitleValue

-- The subtitles are in order and do not overlap: each subtitle starts at or after the TCO of every
-- earlier one.
abbrev pub AreInOrder : List SubtitleValue → Type 0
AreInOrder records =
    (i j : ℕ) (d : SubtitleValue)
    → i < j
    → j < length records
    → (slice_index_or records i d).tco ≤ (slice_index_or records j d).tci

-- The subtitles are valid, do not overlap, are in the order of their times, and can all be drawn.
pub record IsProgramme (drawing : Drawing) (records : List SubtitleValue) : Type 0 where
  pub each : All IsSubtitle records
  pub in_order : AreInOrder records
  pub drawable : All (λ t. IsOk (drawn drawing t)) records

-- The TCI of the first subtitle, as a frame of the day; `None` if the list is empty.
abbrev pub first_tci : List SubtitleValue → Option ℕ
first_tci records = option_map (λ t. t.tci) (slice_get records 0)

-- The TCO of the last subtitle, as a frame of the day; `None` if the list is empty.
abbrev pub last_tco : List SubtitleValue → Option ℕ
last_tco records = option_map (λ t. t.tco) (slice_get records (length records - 1))

-- The last element of a list; `None` if the list is empty.
abbrev pub last_element : {A : Type 0} → List A → Option A
last_element xs = slice_get xs (length xs - 1)

-- TCI and TCO of a subtitle.
abbrev pub times_of : SubtitleValue → Times
times_of t = record { tci = t.tci; tco = t.tco }

-- TCI and TCO of the last subtitle in the list; `None` if the list is empty.
abbrev pub times_before : List SubtitleValue → Option Times
times_before records = option_map times_of (last_element records)

-- The fault of a subtitle's times, compared with the times of the previous subtitle, if any:
-- `OutOfOrder` if the TCI is before the previous TCI, otherwise `Overlap` if the TCI is before the
-- previous TCO.
abbrev pub order_faults : Option Times → Times → List LoadFaultKind
order_faults None t = []
order_faults (Some before) t =
    if nat_lt t.tci before.tci then OutOfOrder ∷ []
    else if nat_lt t.tci before.tco then Overlap ∷ []
    else []

-- The fault of drawing a page, as a list of at most one fault.
abbrev pub row_faults : Result Rows RowFault → List LoadFaultKind
row_faults (Ok page) = []
row_faults (Err fault) = Row fault ∷ []

-- The faults of a subtitle in the order of reports, if the previous subtitle has the times
-- `before`: the fault of its times, then the fault of drawing.
abbrev pub faults_of_next_subtitle : Drawing → Option Times → SubtitleValue → List LoadFaultKind
faults_of_next_subtitle drawing before t =
    order_faults before (times_of t) ++ row_faults (drawn drawing t)
