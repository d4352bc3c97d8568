-- The laws of the main theorem: a good transmission meets its guarantees.
use Rattle.std.specs.Prelude.{◌↔◌, ℕ, ◌+◌, ◌≤◌, All, Bool, IsTrue, List}
use Rattle.ttx_page.specs.PacketKind.{kind}
use Rattle.ttx_page.specs.Span.{has_page_header}
use Rattle.stl_rows.specs.Programme.{ProgrammeValue}
use Rattle.sub_plan.specs.Options.{OptionsValue}
use Rattle.sub_rules.specs.Transmission.{Transmission, first_frame, last_frame, on_air}
use Rattle.sub_rules.specs.Good.{Good}
use Rattle.sub_laws.specs.Robust.{IsListening, Robust}
use Rattle.sub_laws.specs.LostRows.{IsRobustWithLosses}
use Rattle.sub_laws.specs.Stretch.{HasPromises}

-- A receiver that starts at any packet of frame g of a good transmission gets a header of the page
-- by the end of frame g + `every`, so within the repeat bound, if it listens until then.
abbrev pub LawOfWindow : Type 0
LawOfWindow =
    (programme : ProgrammeValue) (transmission : Transmission) (options : OptionsValue)
    → (g j f : ℕ)
    → Good programme transmission options
    → IsListening transmission (first_frame transmission) (last_frame transmission) g j f
    → g + options.every ≤ f
    → IsTrue (has_page_header (kind options.page) (on_air transmission g j f))

-- A good transmission is robust, even if rows are lost. Receivers of both classes recover whatever
-- they received before, so earlier errors no longer matter after the next header. If pages are
-- complete, the expected page is on the receivers' screens, as in `ShownWithin`.
abbrev pub LawOfGood : Type 0
LawOfGood =
    (programme : ProgrammeValue) (transmission : Transmission) (options : OptionsValue)
    → Good programme transmission options
    → HasPromises programme transmission options

-- A transmission is robust without lost packets if and only if it is robust.
abbrev pub LawOfLosslessReception : Type 0
LawOfLosslessReception =
    (programme : ProgrammeValue) (transmission : Transmission) (options : OptionsValue)
    → ((arrived : List Bool)
    → All IsTrue arrived
    → IsRobustWithLosses programme transmission options arrived)
    ↔ Robust programme transmission options
