-- The requirements at the end of each frame, and the criteria of a check.
use Rattle.std.specs.Prelude.{◌≡◌, ℕ, ◌+◌, ◌-◌, ◌<◌, ◌⊎◌, ◌&&◌, Bool, false, true, List, []}
use Rattle.std.specs.Prelude.{Option, Some, map, take, length, IsTrue, IsFalse}
use Rattle.std.specs.Prelude.{slice_index, slice_index_or, flat_map}
use Rattle.ttx_page.specs.Page.{Rows}
use Rattle.ttx_page.specs.PacketKind.{kind}
use Rattle.ttx_page.specs.Span.{has_page_header, is_open_after}
use Rattle.ttx_pes.specs.declared.fault.PesFault.{PesFault}
use Rattle.stl_rows.specs.DuePage.{tci_of_subtitle_ending_at}
use Rattle.stl_rows.specs.Judged.{JudgedValue, has_unreliable_subtitle, is_undecided_in}
use Rattle.stl_rows.specs.Programme.{ProgrammeValue, first_tci, last_tco}
use Rattle.sub_plan.specs.Options.{OptionsValue}
use Rattle.sub_plan.specs.Schedule.{due_page_in}
use Rattle.sub_rules.specs.Kept.{IsRight}
use Rattle.sub_rules.specs.Transmission.{SentFrame, Transmission}
use Rattle.sub_rules.specs.declared.packet_rule.Watched.{Watched}

-- The reason why a PES packet, or the rest of a PES file, cannot be read as frames: a fault of the
-- reader, or a PTS that belongs to no frame of the day.
pub data UnreadReason : Type 0 where
  BadPacket : PesFault → UnreadReason
  NoFrame : UnreadReason

-- The criteria of a check:
--
--   watched         the page, its national option, and the requirements on its headers
--   every           the repeat bound in frames
--   within          the number of frames within which the page must become correct
--   pace            the longest interval between PES packets in frames, if it is limited
--   due             the expected page at each frame
--   ending          for a TCO, the TCI of its subtitle
--   first_tci       the first TCI
--   last_tco        the last TCO
--   any_unreliable  whether the file has unreliable subtitles: rejected, faulty or out of order
--   undecided       the frames with an unknown expected page, because of unreliable subtitles
--   unread          why the rest of the PES file could not be read, if it could not
pub record Criteria : Type 0 where
  pub watched : Watched
  pub every : ℕ
  pub within : ℕ
  pub pace : Option ℕ
  pub due : ℕ → Rows
  pub ending : ℕ → Option ℕ
  pub first_tci : Option ℕ
  pub last_tco : Option ℕ
  pub any_unreliable : Bool
  pub undecided : ℕ → Bool
  pub unread : Option UnreadReason

-- The page to check: its number, the national option of the subtitles, whether complete pages are
-- required, and whether repeats may have C4 (erase page) clear.
abbrev pub watched_of : ProgrammeValue → OptionsValue → Watched
watched_of programme options = record {
  page = options.page;
  national = programme.drawing.national;
  complete = options.asks_complete;
  keeps = options.keeps;
}

-- The criteria for subtitles of which none is unreliable, with this page, repeat bound, delay and
-- pace.
abbrev pub criteria_with : ProgrammeValue → Watched → ℕ → ℕ → Option ℕ → Option UnreadReason →
    Criteria
criteria_with programme watched every within pace unread = record {
  watched = watched;
  every = every;
  within = within;
  pace = pace;
  due = due_page_in programme;
  ending = tci_of_subtitle_ending_at programme.records;
  first_tci = first_tci programme.records;
  last_tco = last_tco programme.records;
  any_unreliable = false;
  undecided = λ frame. false;
  unread = unread;
}

-- The criteria for subtitles of which none is unreliable, with these options.
abbrev pub criteria_of : ProgrammeValue → OptionsValue → Option UnreadReason → Criteria
criteria_of programme options unread =
    criteria_with programme (watched_of programme options) options.every options.within options.pace
    unread

-- The expected page is unknown at this frame, because of unreliable subtitles.
abbrev pub is_due_undecided : JudgedValue → ℕ → Bool
is_due_undecided j frame = has_unreliable_subtitle j && is_undecided_in j frame

-- The criteria for the reliable subtitles of a file, which may also have unreliable subtitles.
abbrev pub criteria_of_judged : JudgedValue → OptionsValue → Option UnreadReason → Criteria
criteria_of_judged j options unread =
    record (criteria_of j.programme options unread) {
      any_unreliable = has_unreliable_subtitle j;
      undecided = is_due_undecided j;
    }

-- The frame number of entry i of the transmission, counted from 0; 0 if there is no such entry.
abbrev pub frame_at : Transmission → ℕ → ℕ
frame_at frames i = slice_index (map (λ (s : SentFrame). s.frame) frames) i

-- The packets of entry i of the transmission, counted from 0; none if there is no such entry.
abbrev pub packets_of_frame : Transmission → ℕ → List (List ℕ)
packets_of_frame frames i = slice_index_or (map (λ (s : SentFrame). s.packets) frames) i []

-- The packets of the first n entries of the transmission, in one list.
abbrev pub packets_before : Transmission → ℕ → List (List ℕ)
packets_before frames n = flat_map (λ (s : SentFrame). s.packets) (take n frames)

-- The frame number of the last entry of the transmission; 0 if it has no entry.
abbrev pub end_frame : Transmission → ℕ
end_frame frames = frame_at frames (length frames - 1)

-- Entry i of the transmission has a header of the page.
abbrev pub HasHeader : Criteria → Transmission → ℕ → Type 0
HasHeader g frames i = has_page_header (kind g.watched.page) (packets_of_frame frames i) ≡ true

-- The cell is correct at the end of frame f, after n entries of the transmission.
abbrev pub IsCorrectCell : Criteria → Transmission → ℕ → ℕ → ℕ → ℕ → Type 0
IsCorrectCell g frames n f row column =
    IsRight g.watched.keeps g.watched.page (packets_before frames n) (g.due f) row column

-- One of the last `every` frames up to frame f, or a later frame, has a header of the page, in one
-- of the first n entries of the transmission; or the first of these `every` frames is before the
-- first frame of the transmission.
abbrev pub HasRecentPageHeader : Criteria → Transmission → ℕ → ℕ → Type 0
HasRecentPageHeader g frames n f =
    (f + 1 < frame_at frames 0 + g.every)
    ⊎ ((j : ℕ) × (j < n) × (f < frame_at frames j + g.every) × HasHeader g frames j)

-- If a pace is required, a PES packet was sent in one of the last frames up to frame f, as many as
-- the pace, or later.
abbrev pub HasRecentPesPacket : Criteria → Transmission → ℕ → ℕ → Type 0
HasRecentPesPacket g frames n f =
    (pace : ℕ) → g.pace ≡ Some pace → (j : ℕ) × (j < n) × (f < frame_at frames j + pace)

-- If complete pages are required, the page is not open after n entries of the transmission.
abbrev pub IsCompleteIfRequired : Criteria → Transmission → ℕ → Type 0
IsCompleteIfRequired g frames n =
    IsTrue g.watched.complete
    → IsFalse (is_open_after (kind g.watched.page) (packets_before frames n))
