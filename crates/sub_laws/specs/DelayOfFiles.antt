-- The transmission that a PES file carries stays the same and stays good if `within` is increased.
use Rattle.std.specs.Prelude.{ℕ, ◌^◌, ◌<◌, ◌≤◌, Bool, List}
use Rattle.stl_rows.specs.Programme.{ProgrammeValue}
use Rattle.sub_plan.specs.FrameTime.{clock_of}
use Rattle.sub_plan.specs.Options.{OptionsValue}
use Rattle.sub_rules.specs.PesFrames.{CarriesOnClock}
use Rattle.sub_rules.specs.Repeats.{GoodWithRepeats}
use Rattle.sub_rules.specs.Transmission.{Transmission}

-- The options with another value of `within`.
abbrev pub options_with_delay : ℕ → OptionsValue → OptionsValue
options_with_delay more options = record options { within = more }

-- If the bytes of a PES file carry a good transmission with some `within`, they carry it with any
-- greater `within`, since each PTS stays within its tolerance and the same PES packets are merged;
-- and it is good with the greater `within` too. So an accepted file is still accepted. The PTS of
-- frame 0 is less than 2^33.
abbrev pub LawOfLongerDelayOfFiles : Type 0
LawOfLongerDelayOfFiles =
    (keeps : Bool) (programme : ProgrammeValue) (options : OptionsValue) (more : ℕ)
    (bytes : List ℕ) (transmission : Transmission)
    → options.origin < 2 ^ 33
    → options.within ≤ more
    → CarriesOnClock (clock_of options) options.within bytes transmission
    → GoodWithRepeats keeps programme transmission options
    → CarriesOnClock (clock_of (options_with_delay more options)) more bytes transmission
    × GoodWithRepeats keeps programme transmission (options_with_delay more options)
