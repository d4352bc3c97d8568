-- The screen of a receiver that shows a page only after a later header has ended it.
use Rattle.std.specs.Prelude.{◌≡◌, ℕ, ◌≤◌, Bool, List, [], Some, IsTrue, IsFalse}
use Rattle.ttx_page.specs.DroppedRows.{ExcusedBy}
use Rattle.ttx_page.specs.LostRows.{IsHitOrLost, arrivals_from_flags}
use Rattle.ttx_page.specs.Page.{Rows}
use Rattle.ttx_page.specs.PacketKind.{kind}
use Rattle.ttx_page.specs.Receiver.{ReceiverClass}
use Rattle.ttx_page.specs.Screen.{Display, ShowsBy}
use Rattle.ttx_page.specs.Span.{has_page_header, has_no_page_end}
use Rattle.stl_rows.specs.Programme.{IsProgramme, ProgrammeValue}
use Rattle.sub_plan.specs.Options.{IsOptions, OptionsValue}
use Rattle.sub_laws.specs.LostRows.{IsReceivedWithLosses}
use Rattle.sub_laws.specs.Planned.{planned}
use Rattle.sub_laws.specs.Robust.{HoldsDuePage}
use Rattle.sub_rules.specs.Transmission.{Transmission, first_frame, last_frame, on_air}
use Rattle.sub_rules.specs.Transmission.{on_air_until}

-- Pages are complete in the frames from a to b: by the end of each of these frames, the last header
-- of the page, if one was sent, was followed by a header that ends the page.
abbrev pub CompleteWithin : Transmission → OptionsValue → ℕ → ℕ → Type 0
CompleteWithin transmission options a b =
    (f : ℕ)
    → a ≤ f
    → f ≤ b
    → IsTrue (has_page_header (kind options.page) (on_air_until transmission f))
    → IsFalse (has_no_page_end (kind options.page) (on_air_until transmission f))

-- Pages are complete in all frames of the transmission.
abbrev pub Complete : Transmission → OptionsValue → Type 0
Complete transmission options =
    CompleteWithin transmission options (first_frame transmission) (last_frame transmission)

-- In the frames from a to b, the screens of receivers of this class show the expected page once a
-- header of the page was sent, wherever a receiver starts and stops, and whatever it received and
-- showed before. The errors, and the cells that may have a space, are those of `RecoversWithin`.
abbrev pub ShownWithin :
    ReceiverClass → ProgrammeValue → Transmission → OptionsValue → ℕ → ℕ → Type 0
ShownWithin class programme transmission options a b =
    (g j f : ℕ) (arrived : List Bool) (got : List (List ℕ)) (old new : Display)
    → IsReceivedWithLosses transmission a b g j f arrived got
    → ShowsBy class options.page old got new
    → IsTrue (has_page_header (kind options.page) (on_air transmission g j f))
    → (page : Rows)
    × (new.screen ≡ Some page)
    × HoldsDuePage programme f
    (ExcusedBy class
    (IsHitOrLost options.page (on_air transmission g j f) (arrivals_from_flags arrived got)))
    page

-- The schedule of a subtitle file with at least one subtitle has complete pages, in serial and
-- parallel mode.
abbrev pub LawOfCompletePlan : Type 0
LawOfCompletePlan =
    (programme : ProgrammeValue) (options : OptionsValue) (serial : Bool)
    → IsProgramme programme.drawing programme.records
    → (programme.records ≡ [] → ⊥)
    → IsOptions options
    → Complete (planned programme options serial) options
