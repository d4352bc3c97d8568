-- Files that are accepted with some delay `within` are also accepted with any greater delay, unless
-- a source fails or an allocation is refused. The PTS of frame 0 is less than 2^33.
use Rattle.std.specs.Prelude.{◌≡◌, ℕ, ◌^◌, ◌<◌, ◌≤◌, List, false, IsOk, Result}
use Rattle.sub_io.specs.Device.{failed}
use Rattle.stl_rows.specs.declared.layout.Drawing.{Drawing}
use Rattle.sub_plan.specs.Options.{OptionsValue}
use Rattle.sub_rules.specs.Fault.{is_failure}
use Rattle.sub_rules.specs.declared.fault.CheckFault.{CheckFault}
use Rattle.sub_laws.specs.DelayOfFiles.{options_with_delay}
use Rattle.sub_checker.specs.declared.accepted.Accepted.{Accepted}
use Rattle.sub_check.specs.CheckedFiles.{IsResultOfCheckFiles}

-- A subtitle file and a PES file that are accepted with some delay of `within` frames, possibly 0,
-- are also accepted with any greater delay, unless a source fails or an allocation is refused. The
-- PTS of frame 0 is less than 2^33.
abbrev pub LawOfAcceptedWithinMore : Type 0
LawOfAcceptedWithinMore =
    (drawing : Drawing) (options : OptionsValue) (more : ℕ) (stl pes : List ℕ)
    (answer later : Result Accepted CheckFault)
    → options.origin < 2 ^ 33
    → options.within ≤ more
    → IsResultOfCheckFiles drawing options stl pes answer
    → IsResultOfCheckFiles drawing (options_with_delay more options) stl pes later
    → failed is_failure later ≡ false
    → IsOk answer
    → IsOk later
