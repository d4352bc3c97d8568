-- If files are accepted without the option that repeats may keep the page, they are also accepted
-- with it; and conversely, if no header keeps the page. The laws exclude checks in which a source
-- fails or an allocation is refused.
use Rattle.std.specs.Prelude.{◌≡◌, ℕ, true, false, List, IsFalse, IsOk, Result}
use Rattle.sub_io.specs.Device.{failed}
use Rattle.ttx_page.specs.Noise.{ErasesPageIfHeader}
use Rattle.stl_file.specs.Subtitle.{SubtitleValue}
use Rattle.stl_rows.specs.declared.layout.Drawing.{Drawing}
use Rattle.sub_plan.specs.Options.{OptionsValue}
use Rattle.sub_rules.specs.Fault.{is_failure}
use Rattle.sub_rules.specs.Transmission.{EachPacket, Transmission}
use Rattle.sub_rules.specs.declared.fault.CheckFault.{CheckFault}
use Rattle.sub_checker.specs.declared.accepted.Accepted.{Accepted}
use Rattle.sub_check.specs.CheckedFiles.{FilesMeanWithin, IsResultOfCheckFiles}

-- The options with the setting that repeats may keep the page: a header that repeats it may have
-- C4, erase page, clear.
abbrev pub with_keeping : OptionsValue → OptionsValue
with_keeping options = record options { keeps = true }

-- A subtitle file and a PES file that are accepted if each header must erase the page (C4) are also
-- accepted if repeats may keep the page, unless a source fails or an allocation is refused.
abbrev pub LawOfAcceptedKeeping : Type 0
LawOfAcceptedKeeping =
    (drawing : Drawing) (options : OptionsValue) (stl pes : List ℕ)
    (answer later : Result Accepted CheckFault)
    → IsFalse options.keeps
    → IsResultOfCheckFiles drawing options stl pes answer
    → IsResultOfCheckFiles drawing (with_keeping options) stl pes later
    → failed is_failure later ≡ false
    → IsOk answer
    → IsOk later

-- A subtitle file and a PES file that are accepted if repeats may keep the page are also accepted
-- if each header must erase the page (C4), provided that each header of the page in the
-- transmission does, unless a source fails or an allocation is refused.
abbrev pub LawOfAcceptedWithoutKeeping : Type 0
LawOfAcceptedWithoutKeeping =
    (drawing : Drawing) (options : OptionsValue) (stl pes : List ℕ)
    (answer later : Result Accepted CheckFault)
    → IsFalse options.keeps
    → IsResultOfCheckFiles drawing (with_keeping options) stl pes answer
    → ((subtitles : List SubtitleValue) (transmission : Transmission)
    → FilesMeanWithin drawing options stl pes subtitles transmission
    → EachPacket (ErasesPageIfHeader options.page) transmission)
    → IsResultOfCheckFiles drawing options stl pes later
    → failed is_failure later ≡ false
    → IsOk answer
    → IsOk later
