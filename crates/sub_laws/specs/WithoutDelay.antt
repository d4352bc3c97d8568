-- If `within` is 0 and each header must have C4 (erase page) set, `GoodWithRepeats` is, for valid
-- subtitles, `Good` with complete pages if these are required, and its guarantees include those of
-- `Good`.
use Rattle.std.specs.Prelude.{◌≡◌, ◌↔◌, ℕ, false, IsTrue}
use Rattle.stl_rows.specs.Programme.{IsProgramme, ProgrammeValue}
use Rattle.sub_plan.specs.Options.{OptionsValue}
use Rattle.sub_rules.specs.Good.{Good}
use Rattle.sub_rules.specs.Repeats.{GoodWithRepeats}
use Rattle.sub_rules.specs.Transmission.{Transmission}
use Rattle.sub_laws.specs.OnScreen.{Complete}
use Rattle.sub_laws.specs.Repeats.{MayBeTrustedWithRepeats}
use Rattle.sub_laws.specs.Stretch.{MayBeTrusted}

-- If `within` is 0 and each header must have C4 (erase page) set, a transmission of valid subtitles
-- is good under the options if and only if it is good and, if complete pages are required, its
-- pages are complete.
abbrev pub LawOfNoDelay : Type 0
LawOfNoDelay =
    (programme : ProgrammeValue) (transmission : Transmission) (options : OptionsValue)
    → IsProgramme programme.drawing programme.records
    → options.within ≡ 0
    → GoodWithRepeats false programme transmission options
    ↔ (Good programme transmission options
    × (IsTrue options.asks_complete → Complete transmission options))

-- If `within` is 0 and each header must have C4 (erase page) set, the guarantees for repeats in the
-- frames from a to b include the guarantees without them.
abbrev pub LawOfTrustWithoutDelay : Type 0
LawOfTrustWithoutDelay =
    (programme : ProgrammeValue) (transmission : Transmission) (options : OptionsValue) (a b : ℕ)
    → options.within ≡ 0
    → MayBeTrustedWithRepeats false programme transmission options a b
    → MayBeTrusted programme transmission options a b
