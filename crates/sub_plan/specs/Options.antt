-- The options of a schedule, and of checking a schedule.
use Rattle.std.specs.Prelude.{ℕ, ◌<◌, ◌≤◌, ◌^◌, Bool, IfSome, Option}
use Rattle.stl_file.specs.TimeCode.{day}
use Rattle.ttx_packet.specs.PageId.{PageIdValue}

-- The options of a schedule and of a check:
--
--   page           the Teletext page with the subtitles
--   every          repeat bound: a header of the page at least once in this many frames
--   origin         the PTS of frame 0, in ticks of 90 kHz
--   asks_complete  the page must not be open at the end of a frame at which it must be right
--   within         the expected page must be right within this many frames; 0: at the end of each
--   pace           maximum distance of PES packets in frames, if it is limited
--   keeps          headers of repeats may have C4, erase page, clear
pub record OptionsValue : Type 0 where
  pub page : PageIdValue
  pub every : ℕ
  pub origin : ℕ
  pub asks_complete : Bool
  pub within : ℕ
  pub pace : Option ℕ
  pub keeps : Bool

-- The page has a magazine from 0 to 7 and a page number below FF. So the closing header, page FF,
-- is never a header of the page.
pub record IsWatchable (page : PageIdValue) : Type 0 where
  pub magazine : page.magazine < 8
  pub page_number : page.page < 0xFF

-- The options are valid: a page as in `IsWatchable`, a repeat bound from one frame to a day, a PTS
-- of 33 bits for frame 0, at most 50 frames (two seconds) within which the page must be right, and
-- a pace, if there is one, from one frame to a day.
pub record IsOptions (o : OptionsValue) : Type 0 where
  pub page : IsWatchable o.page
  pub least : 1 ≤ o.every
  pub most : o.every ≤ day
  pub origin : o.origin < 2 ^ 33
  pub within_is_at_most_50 : o.within ≤ 50
  pub pace : IfSome o.pace (λ frames. (1 ≤ frames) × (frames ≤ day))
