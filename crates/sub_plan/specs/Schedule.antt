-- The frames of a schedule that have a page transmission, and the bytes of the schedule.
--
-- All definitions but the last ones, those of a programme's schedule, depend on the subtitles only
-- by `due`, the expected page at each frame.
use Rattle.std.specs.Prelude.{ℕ, suc, zero, ◌+◌, ◌-◌, ◌%◌, Bool, not, ◌||◌, List, []}
use Rattle.std.specs.Prelude.{◌==◌, nat_eq, filter, if◌then◌else◌, Option, Some, None}
use Rattle.std.specs.List.{flat_map, range_with_len}
use Rattle.std.specs.Cmp.Lexicographic.{pointwise}
use Rattle.ttx_page.specs.Page.{Rows}
use Rattle.ttx_pes.specs.PesGrammar.{PesValue, canonical_packet, numbered_frame}
use Rattle.stl_rows.specs.declared.national.National.{National}
use Rattle.stl_rows.specs.DuePage.{due}
use Rattle.stl_rows.specs.Programme.{ProgrammeValue, first_tci, last_tco}
use Rattle.sub_plan.specs.FrameTime.{pts_of}
use Rattle.sub_plan.specs.Options.{OptionsValue}
use Rattle.sub_plan.specs.Sending.{sending}

-- ---- the frames of a schedule with a page transmission

-- The two pages are equal, cell by cell.
abbrev pub is_same_page : Rows → Rows → Bool
is_same_page a b = pointwise (pointwise nat_eq) a b

-- The frame f is a base: it is the first frame of the schedule, or its expected page differs from
-- the expected page of the previous frame.
unfoldable pub is_base : (ℕ → Rows) → ℕ → ℕ → Bool
is_base due first f = (f == first) || not (is_same_page (due f) (due (f - 1)))

-- The last base at or before a frame, for frames from the first frame of the schedule on.
unfoldable pub base : (ℕ → Rows) → ℕ → ℕ → ℕ
base due first zero = 0
base due first (suc f) = if is_base due first (suc f) then suc f else base due first f

-- The frame f has a page transmission: f is the last frame of the schedule, or the distance from
-- the last base to f is a multiple of `every`.
unfoldable pub is_sending : (ℕ → Rows) → ℕ → ℕ → ℕ → ℕ → Bool
is_sending due every first last f = (f == last) || ((f - base due first f) % every == 0)

-- The frames with a page transmission, from the frame `from` to the last frame, in rising order.
unfoldable pub sendings_from : (ℕ → Rows) → ℕ → ℕ → ℕ → ℕ → List ℕ
sendings_from due every first last from =
    filter (is_sending due every first last) (range_with_len from (last + 1 - from))

-- The frames with a page transmission, from the first frame to the last, in rising order.
abbrev pub sendings : (ℕ → Rows) → ℕ → ℕ → ℕ → List ℕ
sendings due every first last = sendings_from due every first last first

-- ---- the bytes of a schedule

-- The contents of the PES packet of a frame that carries these Teletext packets.
abbrev pub pes_value : ℕ → List (List ℕ) → ℕ → PesValue
pes_value origin packets frame = numbered_frame (pts_of origin frame) packets

-- The bytes of the PES packet with the page transmission at a frame, which carries the page
-- expected at that frame.
abbrev pub sending_at : (ℕ → Rows) → OptionsValue → National → Bool → ℕ → List ℕ
sending_at due o national serial frame =
    canonical_packet (pes_value o.origin (sending o.page national serial (due frame)) frame)

-- The bytes of the PES packets with the page transmissions at several frames, joined.
abbrev pub sendings_at : (ℕ → Rows) → OptionsValue → National → Bool → List ℕ → List ℕ
sendings_at due o national serial frames = flat_map (sending_at due o national serial) frames

-- ---- the schedule of a programme

-- The expected page of a programme at a frame.
abbrev pub due_page_in : ProgrammeValue → ℕ → Rows
due_page_in programme = due programme.drawing programme.records

-- The frames with a page transmission, from the first TCI to the last TCO; none if the programme
-- has no subtitle.
abbrev pub sendings_between : (ℕ → Rows) → ℕ → Option ℕ → Option ℕ → List ℕ
sendings_between due every None last = []
sendings_between due every (Some first) None = []
sendings_between due every (Some first) (Some last) = sendings due every first last

-- The frames of a programme's schedule that have a page transmission, in rising order.
abbrev pub plan_frames : ProgrammeValue → ℕ → List ℕ
plan_frames programme every =
    sendings_between (due_page_in programme) every
    (first_tci programme.records)
    (last_tco programme.records)

-- The bytes of a programme's schedule: one PES packet for each frame with a page transmission.
abbrev pub plan : ProgrammeValue → OptionsValue → Bool → List ℕ
plan programme o serial =
    sendings_at (due_page_in programme) o programme.drawing.national serial
    (plan_frames programme o.every)
