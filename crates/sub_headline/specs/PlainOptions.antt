-- Options that may follow `check STL PES`, in any order, and their meaning. The definition of how
-- the argument parser `clap` reads arguments is long; a reader needs only this list, since a proof
-- shows that any request made of these arguments has these options.
use Rattle.std.specs.Prelude.{◌≡◌, ◌<◌, ◌^◌, ℕ, Bool, true, List, [], ◌∷◌, Some, codes, fold}
use Rattle.std.specs.List.{flat_map}
use Rattle.clap.specs.Words.{Text}
use Rattle.ttx_packet.specs.PageId.{PageIdValue, page_of_text}
use Rattle.stl_file.specs.Scope.{whole}
use Rattle.stl_file.specs.TimeCode.{day}
use Rattle.stl_rows.specs.Layout.{default_layout}
use Rattle.stl_rows.specs.declared.national.National.TheVariants.{English}
use Rattle.sub_plan.specs.Options.{OptionsValue}
use Rattle.sub_request.specs.declared.request.Request.{Request}
use Rattle.sub_words.specs.Arguments.{between}
use Rattle.sub_words.specs.Requests.{Requested, IsRequestOf, value_of_request}
use Rattle.sub_words.specs.Texts.{number_of_text}
use Rattle.sub_headline.specs.PlainArguments.{IsName, default_options, entire_pes_file}

-- An option with the text of its value and the meaning of that text, or a flag.
pub data CheckOption : Type 0 where
  Page : (text : Text) → (page : PageIdValue) → page_of_text text ≡ Some page → CheckOption
  Every : (text : Text) → (frames : ℕ) → number_of_text text ≡ Some frames → CheckOption
  Origin : (text : Text) → (pts : ℕ) → number_of_text text ≡ Some pts → CheckOption
  Pace : (text : Text) → (frames : ℕ) → between 1 day (number_of_text text) ≡ Some frames →
      CheckOption
  Complete : CheckOption
  EveryFault : CheckOption

-- The command-line arguments for an option.
abbrev pub arguments_of_check_option : CheckOption → List Text
arguments_of_check_option (Page text page is) = codes "--page" ∷ text ∷ []
arguments_of_check_option (Every text frames is) = codes "--every" ∷ text ∷ []
arguments_of_check_option (Origin text pts is) = codes "--origin" ∷ text ∷ []
arguments_of_check_option (Pace text frames is) = codes "--pace" ∷ text ∷ []
arguments_of_check_option Complete = codes "--complete" ∷ []
arguments_of_check_option EveryFault = codes "--all" ∷ []

-- The options after one more option. `--all` changes only the report.
abbrev pub with_check_option : OptionsValue → CheckOption → OptionsValue
with_check_option o (Page text page is) = record o { page = page }
with_check_option o (Every text frames is) = record o { every = frames }
with_check_option o (Origin text pts is) = record o { origin = pts }
with_check_option o (Pace text frames is) = record o { pace = Some frames }
with_check_option o Complete = record o { asks_complete = true }
with_check_option o EveryFault = o

-- The options for a list of options, starting from the default options.
abbrev pub options_of_check_options : List CheckOption → OptionsValue
options_of_check_options choices = fold with_check_option default_options choices

-- If the arguments `check STL PES` and these options are a request, it is a check of the two files
-- with the options, and the PTS of frame 0 is less than 2^33. STL and PES do not begin with `-`.
abbrev pub LawOfChosenArguments : Type 0
LawOfChosenArguments =
    (program stl pes : Text) (choices : List CheckOption) (request : Request)
    → IsName stl
    → IsName pes
    → IsRequestOf (program ∷ codes "check" ∷ stl ∷ pes ∷ flat_map arguments_of_check_option choices)
    request
    → (all : Bool)
    × (value_of_request request
    ≡ Requested.Check stl (entire_pes_file pes) (options_of_check_options choices) English
    default_layout whole
    all)
    × ((options_of_check_options choices).origin < 2 ^ 33)
