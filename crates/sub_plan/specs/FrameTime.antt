-- The PTS of a frame (EN 300 472, PTS: 33 bits at 90 kHz), and the conversion of a PTS to a frame.
-- A frame is a 25th of a second of the day, 3600 ticks.
use Rattle.std.specs.Prelude.{ℕ, zero, suc, ◌+◌, ◌-◌, ◌*◌, ◌/◌, ◌%◌, ◌^◌, ◌==◌, nat_lt}
use Rattle.std.specs.Prelude.{if◌then◌else◌, Option, Some, None}
use Rattle.stl_file.specs.TimeCode.{day}
use Rattle.sub_plan.specs.Options.{OptionsValue}

-- The PTS of a frame of the day: the PTS of frame 0 plus 3600 ticks per frame, in 33 bits.
abbrev pub pts_of : ℕ → ℕ → ℕ
pts_of origin frame = (origin + 3600 * frame) % 2 ^ 33

-- ---- the frame of a PTS

-- The greatest frame below n with exactly this PTS; `None` if there is none.
unfoldable pub frame_below : ℕ → ℕ → ℕ → Option ℕ
frame_below origin pts zero = None
frame_below origin pts (suc n) =
    if pts_of origin n == pts then Some n else frame_below origin pts n

-- The frame of the day with exactly this PTS; `None` if there is none.
abbrev pub frame_of_pts : ℕ → ℕ → Option ℕ
frame_of_pts origin pts = frame_below origin pts day

-- The frame itself, if it is a frame of the day; otherwise `None`.
abbrev pub frame_in_day : ℕ → Option ℕ
frame_in_day frame = if nat_lt frame day then Some frame else None

-- The number of ticks from the first tick of frame 0, which is 900 before the PTS of frame 0, to
-- this PTS, modulo 2^33.
abbrev pub ticks_after : ℕ → ℕ → ℕ
ticks_after origin pts = (pts + (2 ^ 33 - origin) + 900) % 2 ^ 33

-- The frame of the day whose ticks include this PTS of 33 bits, or `None`. The ticks of a frame
-- begin 900 before the frame's own PTS. So a PTS may be a quarter of a frame early, which
-- multiplexers cause, and the PTSs of two fields, half a frame apart, belong to one frame.
unfoldable pub frame_with_tolerance : ℕ → ℕ → Option ℕ
frame_with_tolerance origin pts =
    if nat_lt pts (2 ^ 33) then frame_in_day (ticks_after origin pts / 3600) else None

-- A clock converts a PTS to a frame of the day, or to `None`.
abbrev pub Clock : Type 0
Clock = ℕ → Option ℕ

-- The clock for `within`, the number of frames within which the page must be right, and `origin`,
-- the PTS of frame 0. If `within` is 0, a PTS belongs to the frame with exactly this PTS, otherwise
-- to the frame whose ticks include it.
unfoldable pub clock : ℕ → ℕ → Clock
clock zero origin pts = frame_of_pts origin pts
clock (suc n) origin pts = frame_with_tolerance origin pts

-- The clock that the options select.
abbrev pub clock_of : OptionsValue → Clock
clock_of o = clock o.within o.origin
