-- Reception of a transmission if packets other than page headers are lost.
use Rattle.std.specs.Prelude.{ℕ, Bool, List, IsFalse}
use Rattle.std.specs.List.{AllZip, items_where_true}
use Rattle.ttx_packet.specs.OneBit.{AreNear}
use Rattle.ttx_page.specs.LostRows.{IsHitOrLost, LosesNoHeader, arrivals_from_flags}
use Rattle.ttx_page.specs.Receiver.{State, Hears}
use Rattle.stl_rows.specs.Programme.{ProgrammeValue}
use Rattle.sub_plan.specs.Options.{OptionsValue}
use Rattle.sub_rules.specs.Transmission.{Transmission, first_frame, last_frame, on_air}
use Rattle.sub_laws.specs.Robust.{IsListening, IsServed}

-- The packets that a receiver gets if packets are lost. `arrived` says which of the packets on air
-- arrive; all page headers do. Each byte that arrives has at most one wrong bit.
pub record IsReceivedWithLosses
    (transmission : Transmission) (a b g j f : ℕ) (arrived : List Bool) (got : List (List ℕ))
    : Type 0 where
  pub listening : IsListening transmission a b g j f
  pub headers : AllZip LosesNoHeader (on_air transmission g j f) arrived
  pub near : AllZip AreNear (items_where_true arrived (on_air transmission g j f)) got

-- The transmission is robust if exactly the packets marked in `arrived` arrive, among them all page
-- headers, with at most one wrong bit in each byte: the guarantee `IsServed` holds wherever a
-- receiver starts and stops, and whatever page it had before its first header. A cell may have a
-- space instead of the expected code only if its byte had a wrong bit or its row was lost.
abbrev pub IsRobustWithLosses : ProgrammeValue → Transmission → OptionsValue → List Bool → Type 0
IsRobustWithLosses programme transmission options arrived =
    (g j f : ℕ) (got : List (List ℕ)) (old new : State)
    → IsReceivedWithLosses transmission (first_frame transmission) (last_frame transmission) g j f
    arrived got
    → IsFalse old.heard
    → IsFalse old.is_open
    → Hears options.page old got new
    → IsServed programme options g f (on_air transmission g j f)
    (IsHitOrLost options.page (on_air transmission g j f) (arrivals_from_flags arrived got)) old new

-- The transmission is robust whichever rows are lost.
abbrev pub RobustToLostRows : ProgrammeValue → Transmission → OptionsValue → Type 0
RobustToLostRows programme transmission options =
    (arrived : List Bool) → IsRobustWithLosses programme transmission options arrived
