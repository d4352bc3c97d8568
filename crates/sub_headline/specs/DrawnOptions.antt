-- Options that may follow `check STL RECORDING`, including the national option and the layout.
use Rattle.std.specs.Prelude.{◌≡◌, ◌<◌, ◌^◌, Bool, List, [], ◌∷◌, Some, codes, fold}
use Rattle.std.specs.List.{flat_map}
use Rattle.clap.specs.Words.{Text}
use Rattle.stl_rows.specs.Layout.{default_layout}
use Rattle.stl_rows.specs.LayoutText.{layout_of_text}
use Rattle.stl_rows.specs.SubSets.{named_option}
use Rattle.stl_rows.specs.declared.layout.Layout.{Layout}
use Rattle.stl_rows.specs.declared.national.National.{National}
use Rattle.stl_rows.specs.declared.national.National.TheVariants.{English}
use Rattle.sub_request.specs.declared.request.Request.{Request}
use Rattle.sub_words.specs.Requests.{Requested, IsRequestOf, value_of_request}
use Rattle.sub_headline.specs.PlainArguments.{IsName}
use Rattle.sub_headline.specs.RecordingOptions.{RecordingOption, Reading, with_recording_option}
use Rattle.sub_headline.specs.RecordingOptions.{reading_of}
use Rattle.sub_headline.specs.RecordingOptions.{requested_recording}
use Rattle.sub_headline.specs.RecordingOptions.{arguments_of_recording_option}

-- One option: a national option or a layout, with its text, or an option for a recording.
pub data CheckRecordingOption : Type 0 where
  NationalChoice : (text : Text)
      → (national : National)
      → IsName text
      → named_option text ≡ Some national
      → CheckRecordingOption
  LayoutChoice : (text : Text)
      → (layout : Layout)
      → IsName text
      → layout_of_text text ≡ Some layout
      → CheckRecordingOption
  Of : RecordingOption → CheckRecordingOption

-- The command-line arguments for an option.
abbrev pub arguments_of_check_recording_option : CheckRecordingOption → List Text
arguments_of_check_recording_option (NationalChoice text national name is) =
    codes "--option" ∷ text ∷ []
arguments_of_check_recording_option (LayoutChoice text layout name is) =
    codes "--layout" ∷ text ∷ []
arguments_of_check_recording_option (Of part) = arguments_of_recording_option part

-- The settings for reading a recording and for drawing subtitles.
pub record CheckRecordingSettings : Type 0 where
  pub reading : Reading
  pub national : National
  pub layout : Layout

-- The settings after one more option.
abbrev pub with_check_recording_option :
    CheckRecordingSettings → CheckRecordingOption → CheckRecordingSettings
with_check_recording_option l (NationalChoice text national name is) =
    record l { national = national }
with_check_recording_option l (LayoutChoice text layout name is) = record l { layout = layout }
with_check_recording_option l (Of part) =
    record l { reading = with_recording_option l.reading part }

-- The settings for a list of options. By default, subtitles are drawn with the English national
-- option and the default layout.
abbrev pub settings_of_options : List CheckRecordingOption → CheckRecordingSettings
settings_of_options choices =
    fold with_check_recording_option
    (record { reading = reading_of []; national = English; layout = default_layout })
    choices

-- If the arguments `check STL RECORDING` and these options are a request, it is a check of the two
-- files with the settings of the options, and the PTS of frame 0 is less than 2^33. STL and
-- RECORDING do not begin with `-`.
abbrev pub LawOfCheckRecordingArguments : Type 0
LawOfCheckRecordingArguments =
    (program stl recording : Text) (choices : List CheckRecordingOption) (request : Request)
    → IsName stl
    → IsName recording
    → IsRequestOf (program ∷ codes "check" ∷ stl ∷ recording
    ∷ flat_map arguments_of_check_recording_option choices) request
    → (all : Bool)
    × (value_of_request request
    ≡ Requested.Check stl
    (requested_recording recording (settings_of_options choices).reading)
    (settings_of_options choices).reading.options
    (settings_of_options choices).national
    (settings_of_options choices).layout
    (settings_of_options choices).reading.scope all)
    × ((settings_of_options choices).reading.options.origin < 2 ^ 33)
