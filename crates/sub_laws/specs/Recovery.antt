-- The guarantee that receivers decode the expected page after the next header, apart from spaces
-- because of errors, whatever they received before.
use Rattle.std.specs.Prelude.{ℕ, Bool, List}
use Rattle.ttx_page.specs.DroppedRows.{ExcusedBy}
use Rattle.ttx_page.specs.LostRows.{IsHitOrLost, arrivals_from_flags}
use Rattle.ttx_page.specs.Receiver.{HearsBy, ReceiverClass, State}
use Rattle.stl_rows.specs.Programme.{ProgrammeValue}
use Rattle.sub_plan.specs.Options.{OptionsValue}
use Rattle.sub_laws.specs.LostRows.{IsReceivedWithLosses}
use Rattle.sub_laws.specs.Robust.{IsServed}
use Rattle.sub_rules.specs.Transmission.{Transmission, on_air}

-- Receivers of this class recover in the frames from a to b, if all page headers arrive and each
-- byte that arrives has at most one wrong bit: the guarantee `IsServed` holds wherever a receiver
-- starts and stops in these frames, and whatever page it had before. A cell may have a space
-- instead of the expected code only if its byte had a wrong bit or its row was lost; for receivers
-- that drop a row with an error, if any byte of its row had a wrong bit or the row was lost.
abbrev pub RecoversWithin :
    ReceiverClass → ProgrammeValue → Transmission → OptionsValue → ℕ → ℕ → Type 0
RecoversWithin class programme transmission options a b =
    (g j f : ℕ) (arrived : List Bool) (got : List (List ℕ)) (old new : State)
    → IsReceivedWithLosses transmission a b g j f arrived got
    → HearsBy class options.page old got new
    → IsServed programme options g f (on_air transmission g j f)
    (ExcusedBy class
    (IsHitOrLost options.page (on_air transmission g j f) (arrivals_from_flags arrived got)))
    old new
