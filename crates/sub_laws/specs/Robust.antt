-- The guarantee that every receiver has the expected page after the next header, wherever it
-- starts, apart from spaces for bytes with one wrong bit.
use Rattle.std.specs.Prelude.{◌≡◌, ℕ, ◌+◌, ◌≤◌, ◌⊎◌, ◌||◌, List, length, IsTrue, IsFalse}
use Rattle.std.specs.List.{AllZip}
use Rattle.ttx_packet.specs.OneBit.{AreNear}
use Rattle.ttx_page.specs.Page.{Rows, space, cell, IsCell}
use Rattle.ttx_page.specs.PacketKind.{kind}
use Rattle.ttx_page.specs.Receiver.{State, Hears}
use Rattle.ttx_page.specs.Shown.{IsHit}
use Rattle.ttx_page.specs.Span.{has_page_header, has_no_page_end}
use Rattle.stl_rows.specs.Programme.{ProgrammeValue}
use Rattle.sub_plan.specs.Options.{OptionsValue}
use Rattle.sub_rules.specs.Transmission.{Transmission, first_frame, last_frame, packets_of, on_air}
use Rattle.sub_plan.specs.Schedule.{due_page_in}

-- A receiver starts at packet j of frame g, or after its last packet, and stops at the end of frame
-- f. Both frames are in the range from a to b.
pub record IsListening (transmission : Transmission) (a b g j f : ℕ) : Type 0 where
  pub from : a ≤ g
  pub in_order : g ≤ f
  pub to : f ≤ b
  pub in_frame : j ≤ length (packets_of transmission g)

-- Each cell has the code of the expected page of frame f, or a space that is allowed because of an
-- error.
abbrev pub HoldsDuePage : ProgrammeValue → ℕ → (ℕ → ℕ → Type 0) → Rows → Type 0
HoldsDuePage programme f IsExcused page =
    (row column : ℕ)
    → IsCell row column
    → (cell page row column ≡ cell (due_page_in programme f) row column)
    ⊎ ((cell page row column ≡ space) × IsExcused row column)

-- The guarantee to a receiver that listened from frame g to the end of frame f. The packets `sent`
-- were sent, and the receiver's state changed from `old` to `new`.
pub record IsServed
    (programme : ProgrammeValue) (options : OptionsValue) (g f : ℕ)
    (sent : List (List ℕ)) (IsExcused : ℕ → ℕ → Type 0) (old new : State)
    : Type 0 where
  -- If frame f is at or after frame g + `every`, a header of the page was sent.
  pub in_time : g + options.every ≤ f → IsTrue (has_page_header (kind options.page) sent)
  -- The receiver has received a header of the page if and only if it had before or a header was
  -- sent.
  pub heard : new.heard ≡ (old.heard || has_page_header (kind options.page) sent)
  -- Once a header was sent, each cell has the expected code, or a space that is allowed because of
  -- an error.
  pub cells :
      IsTrue (has_page_header (kind options.page) sent)
      → HoldsDuePage programme f IsExcused new.page
  -- Once a header was sent, the receiver's page is open if and only if no page header has ended it
  -- since its last header.
  pub is_open :
      IsTrue (has_page_header (kind options.page) sent)
      → new.is_open ≡ has_no_page_end (kind options.page) sent

-- A robust transmission: the guarantee `IsServed` holds wherever a receiver starts and stops, with
-- at most one wrong bit in each byte, and whatever page it had before its first header. A cell may
-- have a space instead of the expected code only if its byte had a wrong bit.
abbrev pub Robust : ProgrammeValue → Transmission → OptionsValue → Type 0
Robust programme transmission options =
    (g j f : ℕ) (got : List (List ℕ)) (old new : State)
    → IsListening transmission (first_frame transmission) (last_frame transmission) g j f
    → AllZip AreNear (on_air transmission g j f) got
    → IsFalse old.heard
    → IsFalse old.is_open
    → Hears options.page old got new
    → IsServed programme options g f (on_air transmission g j f)
    (IsHit options.page (on_air transmission g j f) got) old new
