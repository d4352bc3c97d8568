-- What receivers decode if a transmission is rejected because of wrong text.
use Rattle.std.specs.Prelude.{◌≡◌, ℕ, length, None, IsFalse, IsTrue, false}
use Rattle.ttx_page.specs.Page.{cell}
use Rattle.ttx_page.specs.PacketKind.{kind}
use Rattle.ttx_page.specs.Receiver.{Hears, State}
use Rattle.ttx_page.specs.Repeats.{IsFresh}
use Rattle.ttx_page.specs.Shown.{kept}
use Rattle.ttx_page.specs.Span.{has_page_header}
use Rattle.stl_rows.specs.Programme.{ProgrammeValue}
use Rattle.sub_plan.specs.Options.{OptionsValue}
use Rattle.sub_plan.specs.Schedule.{due_page_in}
use Rattle.sub_rules.specs.Events.{is_late}
use Rattle.sub_rules.specs.FrameRules.{criteria_of}
use Rattle.sub_rules.specs.Kept.{IsRight}
use Rattle.sub_rules.specs.Repeats.{IsDueWithin}
use Rattle.sub_rules.specs.Transmission.{Transmission, on_air_until}
use Rattle.sub_rules.specs.WrongContent.{AreReadUpTo}

-- The cell is wrong at the end of frame f. A receiver without errors that keeps its page at headers
-- with C4 (erase page) clear, and started with a blank page that was not open or has erased it
-- since, has the code `kept` in that cell; if each header must have C4 set, every receiver without
-- errors has. So either this is not the expected code, or the row was not sent again.
pub record IsNotRightOnAir
    (programme : ProgrammeValue) (options : OptionsValue) (frames : Transmission)
    (f row column : ℕ)
    : Type 0 where
  pub read : Transmission
  pub are_read : AreReadUpTo frames f read
  -- A header of the page was sent.
  pub header : IsTrue (has_page_header (kind options.page) (on_air_until read f))
  pub differs :
      IsRight options.keeps options.page (on_air_until read f) (due_page_in programme f) row column
      → ⊥
  pub holds :
      (old new : State)
      → Hears options.page old (on_air_until read f) new
      → IsFresh options.keeps false options.page (on_air_until read f) old
      → cell new.page row column
      ≡ kept options.keeps options.page (on_air_until read f) row column
  -- If `within` is not 0 and the page is not overdue yet, the code `kept` is not allowed in the
  -- cell (`IsDueWithin`).
  pub unexpected :
      IsFalse (is_late (criteria_of programme options None) read (length read) f)
      → IsDueWithin programme read options f row column
      (kept options.keeps options.page (on_air_until read f) row column)
      → ⊥
