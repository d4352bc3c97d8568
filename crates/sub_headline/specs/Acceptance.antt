-- The files that `check` accepts with options that require the expected page at the end of each
-- frame, and each header of the page to erase the page.
use Rattle.std.specs.Prelude.{◌≡◌, ◌↔◌, ℕ, List, IsFalse}
use Rattle.stl_rows.specs.Layout.{default_layout, drawing_by}
use Rattle.stl_rows.specs.declared.layout.Drawing.{Drawing}
use Rattle.stl_rows.specs.declared.national.National.TheVariants.{English}
use Rattle.sub_plan.specs.Options.{OptionsValue}
use Rattle.sub_check.specs.CheckedFiles.{IsAccepted, IsAcceptedBy}
use Rattle.sub_headline.specs.PlainAcceptance.{IsAcceptedInPlainTerms}

-- If `within` is 0 and each header of the page has to erase the page, files are accepted exactly if
-- they contain subtitles, possibly none, and a good transmission of these, with complete pages if
-- the options require them.
abbrev pub LawOfPlainAcceptance : Type 0
LawOfPlainAcceptance =
    (drawing : Drawing) (options : OptionsValue) (stl pes : List ℕ)
    → IsFalse options.keeps
    → options.within ≡ 0
    → IsAcceptedBy drawing options stl pes ↔ IsAccepted drawing options stl pes

-- All subtitles of a file for Teletext are drawn, with the English national option and the default
-- layout.
abbrev pub default_drawing : Drawing
default_drawing = drawing_by English default_layout

-- With English subtitles in the default layout, files satisfy `IsAccepted` exactly if they satisfy
-- `IsAcceptedInPlainTerms`. If `within` is 0 and each header of the page has to erase the page,
-- these are the accepted files (`LawOfPlainAcceptance`).
abbrev pub LawOfEnglishAcceptance : Type 0
LawOfEnglishAcceptance =
    (options : OptionsValue) (stl pes : List ℕ)
    → IsAccepted default_drawing options stl pes ↔ IsAcceptedInPlainTerms options stl pes
