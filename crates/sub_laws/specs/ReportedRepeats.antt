-- The guarantees for frames without faults that affect receivers, if repeats may have C4 (erase
-- page) clear.
use Rattle.std.specs.Prelude.{◌≡◌, ℕ, ◌≤◌, Bool, Option}
use Rattle.stl_rows.specs.Programme.{IsProgramme, ProgrammeValue}
use Rattle.sub_plan.specs.Options.{OptionsValue}
use Rattle.sub_rules.specs.FrameRules.{UnreadReason}
use Rattle.sub_rules.specs.Repeats.{IsCorrectPage, KeepsDueCodes}
use Rattle.sub_rules.specs.Transmission.{Transmission}
use Rattle.sub_laws.specs.CleanStretch.{HasNoReceiverFault, HasNoOpenEnd, criteria_if_unreliable}
use Rattle.sub_laws.specs.Repeats.{FinishesInTime, IsSoundStretchWithRepeats}

-- The conditions that suffice for the guarantees in the frames from a to b.
pub record IsSufficientWithRepeats
    (keeps : Bool) (programme : ProgrammeValue) (transmission : Transmission)
    (options : OptionsValue) (a b : ℕ)
    : Type 0 where
  -- The conditions under which receivers recover, apart from the text (`LawOfRepeatedStretch`).
  pub stretch : IsSoundStretchWithRepeats keeps transmission options a b
  -- At the end of each frame, each cell has an allowed code (`IsDueWithin`).
  pub codes : KeepsDueCodes keeps programme transmission options a b
  -- If `within` is 0, the page is correct at the end of each frame.
  pub whole :
      options.within ≡ 0
      → (f : ℕ)
      → a ≤ f
      → f ≤ b
      → IsCorrectPage keeps programme options.page transmission f

-- A range of frames without faults that affect receivers meets the sufficient conditions. If
-- `Incomplete` is not active at the end of any of its frames, and the subtitles are valid, the
-- frames are finished in time. So the report on a rejected transmission shows which part of it is
-- correct for receivers: from the first header that erases the page on.
abbrev pub LawOfUnreportedRepeats : Type 0
LawOfUnreportedRepeats =
    (programme : ProgrammeValue) (transmission : Transmission) (options : OptionsValue)
    → (unread : Option UnreadReason) (any_unreliable : Bool) (undecided : ℕ → Bool) (a b : ℕ)
    → HasNoReceiverFault (criteria_if_unreliable programme options unread any_unreliable undecided)
    transmission a b
    → IsSufficientWithRepeats options.keeps programme transmission options a b
    × (IsProgramme programme.drawing programme.records
    → HasNoOpenEnd (criteria_if_unreliable programme options unread any_unreliable undecided)
    transmission a b
    → FinishesInTime options.keeps programme transmission options a b)
