-- What receivers decode if a check rejects a transmission because of wrong text.
use Rattle.std.specs.Prelude.{◌≡◌, ◌≢◌, ℕ, ◌<◌, ◌≤◌, ◌⊎◌, length, take, IsFalse}
use Rattle.ttx_page.specs.Page.{cell}
use Rattle.ttx_page.specs.Receiver.{State, Hears}
use Rattle.stl_rows.specs.Programme.{ProgrammeValue}
use Rattle.sub_plan.specs.Options.{OptionsValue}
use Rattle.sub_rules.specs.FrameRules.{frame_at}
use Rattle.sub_plan.specs.Schedule.{due_page_in}
use Rattle.sub_rules.specs.Transmission.{Transmission, IsRising, last_frame, on_air_until}

-- `read` is a nonempty prefix of the transmission, with increasing frame numbers, that ends at or
-- before frame f. The next frame of the transmission is after f, unless the prefix already ends
-- with frame f.
pub record AreReadUpTo (frames : Transmission) (f : ℕ) (read : Transmission) : Type 0 where
  pub n : ℕ
  pub some : 0 < n
  pub within : n ≤ length frames
  pub first_n : read ≡ take n frames
  pub rising : IsRising read
  pub up_to : last_frame read ≤ f
  pub next : n < length frames → (last_frame read ≡ f) ⊎ (f < frame_at frames n)

-- In this cell of the decoded page, every receiver that starts at the first packet and receives
-- without errors has a code other than the expected one at the end of frame f, whatever the page
-- contained before.
pub record IsWrongForEveryReceiver
    (programme : ProgrammeValue) (options : OptionsValue) (frames : Transmission)
    (f row column : ℕ)
    : Type 0 where
  pub read : Transmission
  pub are_read : AreReadUpTo frames f read
  pub wrong :
      (old new : State)
      → IsFalse old.heard
      → IsFalse old.is_open
      → Hears options.page old (on_air_until read f) new
      → cell new.page row column ≢ cell (due_page_in programme f) row column
