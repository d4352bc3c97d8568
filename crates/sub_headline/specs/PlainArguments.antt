-- The meaning of the arguments `check STL PES` without options.
use Rattle.std.specs.Prelude.{◌≡◌, ◌≢◌, [], ◌∷◌, Some, None, false, codes, slice_get}
use Rattle.clap.specs.Words.{Text}
use Rattle.stl_file.specs.Scope.{whole}
use Rattle.stl_rows.specs.Layout.{default_layout}
use Rattle.stl_rows.specs.declared.national.National.TheVariants.{English}
use Rattle.sub_plan.specs.Examples.{page_888}
use Rattle.sub_plan.specs.Options.{OptionsValue}
use Rattle.sub_request.specs.declared.request.Request.{Request}
use Rattle.sub_words.specs.Arguments.{PesSelectionValue}
use Rattle.sub_words.specs.Requests.{Requested, IsRequestOf, value_of_request}

-- The default options: page 888, a header of the page at least every 250 frames (10 seconds), and
-- the PTS 0 for frame 0. Complete pages and a maximum distance of PES packets are not required. The
-- expected page is required at the end of each frame, and each header of the page has to erase the
-- page.
abbrev pub default_options : OptionsValue
default_options = record {
  page = page_888;
  every = 250;
  origin = 0;
  asks_complete = false;
  within = 0;
  pace = None;
  keeps = false;
}

-- The argument does not begin with `-`, so it is not an option.
abbrev pub IsName : Text → Type 0
IsName word = slice_get word 0 ≢ Some 0x2D

-- The request to read a complete PES file with this name.
abbrev pub entire_pes_file : Text → PesSelectionValue
entire_pes_file name = record { name = name; stream = None; range = None }

-- If the arguments `check STL PES` are a request, it is a check of these two files with the default
-- options. STL and PES do not begin with `-`.
abbrev pub LawOfPlainArguments : Type 0
LawOfPlainArguments =
    (program stl pes : Text) (request : Request)
    → IsName stl
    → IsName pes
    → IsRequestOf (program ∷ codes "check" ∷ stl ∷ pes ∷ []) request
    → value_of_request request
    ≡ Requested.Check stl (entire_pes_file pes) default_options English default_layout whole false
