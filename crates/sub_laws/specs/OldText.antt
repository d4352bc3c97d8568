-- If repeats may have C4 (erase page) clear, a receiver of a good transmission may have old text
-- after it was tuned in. If that was more than `within` frames before text ends or changes, the old
-- text is gone at the latest `within` frames after this.
use Rattle.std.specs.Prelude.{◌≡◌, ◌≢◌, ℕ, ◌+◌, ◌-◌, ◌<◌, ◌≤◌, Bool, List, IsTrue}
use Rattle.ttx_page.specs.DroppedRows.{ExcusedBy}
use Rattle.ttx_page.specs.LostRows.{IsHitOrLost, arrivals_from_flags}
use Rattle.ttx_page.specs.Page.{IsCell, cell, space}
use Rattle.ttx_page.specs.PacketKind.{kind}
use Rattle.ttx_page.specs.Receiver.{ReceiverClass, State}
use Rattle.ttx_page.specs.Repeats.{HearsRepeats}
use Rattle.ttx_page.specs.Span.{has_text_beginning}
use Rattle.stl_rows.specs.Programme.{ProgrammeValue}
use Rattle.sub_plan.specs.Options.{OptionsValue}
use Rattle.sub_plan.specs.Schedule.{due_page_in}
use Rattle.sub_rules.specs.Repeats.{GoodWithRepeats, IsDueWithin, IsCorrectPage}
use Rattle.sub_rules.specs.Transmission.{Transmission, first_frame, last_frame, on_air}
use Rattle.sub_rules.specs.Transmission.{packets_between}
use Rattle.sub_laws.specs.LostRows.{IsReceivedWithLosses}
use Rattle.sub_laws.specs.Robust.{HoldsDuePage}

-- Text ends or changes in a cell at frame e: the same code, not a space, is expected in the cell in
-- each of the `within` + 1 frames before e, and in none of the `within` + 1 frames from e on.
pub record HasTextEnding (programme : ProgrammeValue) (within e row column code : ℕ) : Type 0 where
  pub is_cell : IsCell row column
  pub is_text : code ≢ space
  pub was :
      (f : ℕ) → f < e → e ≤ f + within + 1 → cell (due_page_in programme f) row column ≡ code
  pub gone : (f : ℕ) → e ≤ f → f ≤ e + within → cell (due_page_in programme f) row column ≢ code

-- The page of a receiver at the end of frame f: each cell has an allowed code (`IsDueWithin`). If
-- the page is correct or `within` is 0, each cell has the expected code, or a space that is allowed
-- because of an error.
pub record HoldsExpectedCodes
    (keeps : Bool) (programme : ProgrammeValue) (transmission : Transmission)
    (options : OptionsValue) (f : ℕ) (IsExcused : ℕ → ℕ → Type 0) (new : State)
    : Type 0 where
  pub codes :
      (row column : ℕ)
      → IsCell row column
      → IsDueWithin programme transmission options f row column (cell new.page row column)
  pub cells :
      IsCorrectPage keeps programme options.page transmission f
      → HoldsDuePage programme f IsExcused new.page
  pub at_once : options.within ≡ 0 → HoldsDuePage programme f IsExcused new.page

-- If text ends or changes at frame e of a good transmission, more than `within` frames after its
-- first frame and at least `within` frames before its last, a header that erases the page is sent
-- at most `within` frames before or after e. So a receiver that was tuned in more than `within`
-- frames before e, with losses and errors as in `IsReceivedWithLosses`, has erased its old text
-- `within` frames after e, and from then on has the codes of `HoldsExpectedCodes`.
abbrev pub LawOfOldText : Type 0
LawOfOldText =
    (keeps : Bool) (programme : ProgrammeValue) (transmission : Transmission)
    → (options : OptionsValue) (e row column code : ℕ)
    → GoodWithRepeats keeps programme transmission options
    → HasTextEnding programme options.within e row column code
    → first_frame transmission + options.within < e
    → e + options.within ≤ last_frame transmission
    → IsTrue
    (has_text_beginning keeps (kind options.page)
    (packets_between transmission (e - options.within) (e + options.within + 1)))
    × ((class : ReceiverClass) (anew : Bool) (g j f : ℕ) (arrived : List Bool)
    → (got : List (List ℕ)) (old new : State)
    → IsReceivedWithLosses transmission (first_frame transmission) (last_frame transmission) g j f
    arrived got
    → HearsRepeats class anew options.page old got new
    → g + options.within < e
    → e + options.within ≤ f
    → HoldsExpectedCodes keeps programme transmission options f
    (ExcusedBy class
    (IsHitOrLost options.page (on_air transmission g j f) (arrivals_from_flags arrived got)))
    new)
