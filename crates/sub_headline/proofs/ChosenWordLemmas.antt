-- If the arguments `check STL PES`, followed by options, are a request, it is a check of these two
-- files with the values of the options.
use Rattle.std.proofs.Common.{◌≡◌, ◌∙◌, Bool, true, false, List, [], ◌∷◌, ◌++◌, Option, Some}
use Rattle.std.proofs.Common.{ℕ, None, Ok, Err, refl, sym, ap, arith, codes, drop, ◌^◌, ◌-◌}
use Rattle.std.proofs.Common.{inl, inr, subst, append_assoc, append-nil}
use Rattle.std.proofs.lemmas.Bool.Decides.{nat_tests}
use Rattle.std.specs.Prelude.{if◌then◌else◌, option_map, fold, unwrap_or, ◌&&◌, ◌||◌}
use Rattle.std.specs.Prelude.{nat_le, ⊤, ◌<◌, IsFalse}
use Rattle.std.specs.List.{AllByRecursion, flat_map}
use Rattle.std.specs.Str.{bytes_eq}
use Rattle.clap.specs.Walk.{Held, Row, Rule, Walk, arg_by_index, finished, first_of, nothing_held}
use Rattle.clap.specs.Simple.{App, built, entered, names_of}
use Rattle.clap.specs.Walk.{Names, rows_after, to_positional, walk_from, walked, walked_from}
use Rattle.clap.specs.Words.{Text}
use Rattle.clap.proofs.OnLiterals.{clap_on_literals}
use Rattle.ttx_packet.specs.PageId.{page_of_text}
use Rattle.stl_file.specs.Scope.{whole}
use Rattle.stl_file.specs.declared.scope.Scope.{Scope}
use Rattle.stl_file.specs.TimeCode.{day}
use Rattle.stl_rows.specs.Layout.{default_layout}
use Rattle.stl_rows.specs.SubSets.{named_option, sub_set}
use Rattle.stl_rows.specs.declared.national.National.TheVariants.{English}
use Rattle.sub_plan.specs.Options.{OptionsValue}
use Rattle.sub_request.specs.declared.request.UsageFault.TheVariants as fault
use Rattle.sub_words.specs.Arguments.{between, options_with_pace, pes_selection_of, scope_of}
use Rattle.sub_words.specs.Commands.{command_in, subttx_app}
use Rattle.sub_words.specs.Help.{requests_help}
use Rattle.std.specs.Option.{option_map_or}
use Rattle.std.specs.Prelude.{map}
use Rattle.sub_words.specs.PesTexts.{packet_size_of_text, pid_of_text, range_of_text}
use Rattle.sub_words.specs.Requests.{Requested, IsRequestOf, value_of_request, request_by_command}
use Rattle.sub_words.specs.Requests.{command_request}
use Rattle.sub_words.specs.Requests.{check_request}
use Rattle.sub_words.specs.Texts.{frame_of_text, number_of_text}
use Rattle.sub_words.specs.Version.{requests_version}
use Rattle.sub_headline.specs.PlainOptions.{CheckOption, LawOfChosenArguments, with_check_option}
use Rattle.sub_headline.specs.PlainOptions.{arguments_of_check_option}
use Rattle.sub_headline.specs.RecordingOptions.{LawOfRecordingArguments, RecordingOption, Reading}
use Rattle.sub_headline.specs.RecordingOptions.{with_recording_option}
use Rattle.sub_headline.specs.RecordingOptions.{reading_of}
use Rattle.sub_headline.specs.DrawnOptions.{CheckRecordingOption, CheckRecordingSettings}
use Rattle.sub_headline.specs.DrawnOptions.{LawOfCheckRecordingArguments}
use Rattle.sub_headline.specs.DrawnOptions.{with_check_recording_option, settings_of_options}
use Rattle.sub_headline.specs.DrawnOptions.{arguments_of_check_recording_option}
use Rattle.sub_headline.specs.DrawnOptions.CheckRecordingOption.{NationalChoice, LayoutChoice, Of}
use Rattle.stl_rows.specs.LayoutText.{layout_of_text}
use Rattle.sub_headline.specs.RecordingOptions.{requested_recording, arguments_of_recording_option}
use Rattle.sub_headline.specs.RecordingOptions.RecordingOption.{Pid, Size, PesPackets, From, To}
use Rattle.sub_headline.specs.RecordingOptions.RecordingOption.{IncludeOpen}
use Rattle.sub_headline.specs.RecordingOptions.RecordingOption.{Any}
use Rattle.sub_headline.specs.PlainOptions.CheckOption.{Page, Every, Origin, Pace, Complete}
use Rattle.sub_headline.specs.PlainOptions.CheckOption.{EveryFault}
use Rattle.sub_headline.specs.PlainArguments.{IsName}
use Rattle.sub_headline.proofs.OptionWordLemmas.{values_after_options, key, next, rows_of_state}
use Rattle.sub_headline.proofs.OptionWordLemmas.{rules}
use Rattle.sub_headline.proofs.OptionWordLemmas.{values_with_choice}
use Rattle.sub_headline.proofs.OptionWordLemmas.{option_values}
use Rattle.sub_headline.proofs.OptionWordLemmas.{walk_reads_check_recording_options}
use Rattle.sub_headline.proofs.PlainWordLemmas.{walk_at_position, state_after_files}
use Rattle.sub_headline.proofs.PlainWordLemmas.{walk_takes_plain_word}
use Rattle.sub_headline.proofs.RowLemmas.{default_at, rules_fill_defaults}
use Rattle.sub_headline.proofs.RowLemmas.{first_value_is_first_text, first_text, values_at}
use Rattle.sub_headline.proofs.RowLemmas.{or_default}

abbrev values_after_parts : Text → List (List Text) → List CheckRecordingOption → List (List Text)
values_after_parts id vs parts = fold (values_with_choice id) vs parts

-- The first text in the first of these lists of values, or the default text if there are no lists;
-- empty if the first list is empty.
abbrev text_or_default : Text → List (List Text) → Text
text_or_default default vs = unwrap_or (first_text (or_default vs (default ∷ []))) []

-- The names of the options of `check`, except `within` and `keeping`.
abbrev keys : List Text
keys =
    codes "page" ∷
    codes "every" ∷
    codes "origin" ∷
    codes "pace" ∷
    codes "complete" ∷
    codes "all" ∷
    codes "pid" ∷
    codes "packet-size" ∷
    codes "pes" ∷
    codes "from" ∷
    codes "to" ∷
    codes "open" ∷
    codes "option" ∷
    codes "layout" ∷ []

abbrev contains_text : Text → List Text → Bool
contains_text id [] = false
contains_text id (one ∷ others) = bytes_eq one id || contains_text id others

or_false_parts : (a b : Bool) → (a || b) ≡ false → (a ≡ false) × (b ≡ false)
or_false_parts a b none = grind (arith, nat_tests)

unlisted_id_differs_from_all : (id : Text) (ids : List Text)
    → contains_text id ids ≡ false
    → AllByRecursion (λ one. bytes_eq one id ≡ false) ids
unlisted_id_differs_from_all id [] none = tt
unlisted_id_differs_from_all id (one ∷ others) none =
    let by = or_false_parts (bytes_eq one id) (contains_text id others) none in
    (by.0, unlisted_id_differs_from_all id others by.1)

unlisted_id_differs_from_key : (id : Text) → contains_text id keys ≡ false
    → (part : CheckRecordingOption)
    → bytes_eq (key part) id ≡
    false
unlisted_id_differs_from_key id none (Of (Any (Page text n is))) = (unlisted_id_differs_from_all id
    keys none).0
unlisted_id_differs_from_key id none (Of (Any (Every text n is))) = (unlisted_id_differs_from_all id
    keys none).1.0
unlisted_id_differs_from_key id none (Of (Any (Origin text n is))) = (unlisted_id_differs_from_all
    id keys none).1.1.0
unlisted_id_differs_from_key id none (Of (Any (Pace text n is))) = (unlisted_id_differs_from_all id
    keys none).1.1.1.0
unlisted_id_differs_from_key id none (Of (Any Complete)) = (unlisted_id_differs_from_all id keys
    none).1.1.1.1.0
unlisted_id_differs_from_key id none (Of (Any EveryFault)) = (unlisted_id_differs_from_all id keys
    none).1.1.1.1.1.0
unlisted_id_differs_from_key id none (Of (Pid text n is)) = (unlisted_id_differs_from_all id keys
    none).1.1.1.1.1.1.0
unlisted_id_differs_from_key id none (Of (Size text n is)) = (unlisted_id_differs_from_all id keys
    none).1.1.1.1.1.1.1.0
unlisted_id_differs_from_key id none (Of (PesPackets text n is)) = (unlisted_id_differs_from_all id
    keys none).1.1.1.1.1.1.1.1.0
unlisted_id_differs_from_key id none (Of (From text n name is)) = (unlisted_id_differs_from_all id
    keys none).1.1.1.1.1.1.1.1.1.0
unlisted_id_differs_from_key id none (Of (To text n name is)) = (unlisted_id_differs_from_all id
    keys none).1.1.1.1.1.1.1.1.1.1.0
unlisted_id_differs_from_key id none (Of IncludeOpen) = (unlisted_id_differs_from_all id keys
    none).1.1.1.1.1.1.1.1.1.1.1.0
unlisted_id_differs_from_key id none (NationalChoice text n name is) = (unlisted_id_differs_from_all
    id keys none).1.1.1.1.1.1.1.1.1.1.1.1.0
unlisted_id_differs_from_key id none (LayoutChoice text n name is) = (unlisted_id_differs_from_all
    id keys none).1.1.1.1.1.1.1.1.1.1.1.1.1.0

not_given :
    (id : Text) (apart : (part : CheckRecordingOption) → bytes_eq (key part) id ≡ false)
    (vs : List (List Text)) (parts : List CheckRecordingOption)
    → values_after_parts id vs parts ≡ vs
not_given id apart vs [] = refl
not_given id apart vs (part ∷ parts) =
    ap
    (λ (b : Bool).
    let one : List (List Text) =
    if b then option_values part ∷ [] else vs in values_after_parts id one parts)
    (apart part)
    ∙ not_given id apart vs parts

abbrev parsed_option_text : {A : Type 0} → (Text → Option A) → Option Text → Option (Option A)
parsed_option_text parse text =
    option_map_or (λ text. option_map Some (parse text)) text (Some None)

-- The number of frames in the text of `--pace`; `None` if the text is not a number from 1 to the
-- number of frames of a day.
abbrev pace_of_text : Text → Option ℕ
pace_of_text text = between 1 day (number_of_text text)

-- The values of the arguments give the settings `l` for reading and drawing, in which `within` is
-- 0, and each header of the page has to erase the page.
record OptionsHaveValues (held : Text → List (List Text)) (l : CheckRecordingSettings) : Type 0
  where
    pub page_is :
        page_of_text (text_or_default (codes "888") (held (codes "page"))) ≡ Some
        l.reading.options.page
    pub every_eq :
        number_of_text (text_or_default (codes "250") (held (codes "every"))) ≡ Some
        l.reading.options.every
    pub origin_eq :
        number_of_text (text_or_default (codes "0") (held (codes "origin"))) ≡ Some
        l.reading.options.origin
    pub pace_eq :
        parsed_option_text pace_of_text (first_text (held (codes "pace"))) ≡ Some
        l.reading.options.pace
    pub complete_eq :
        bytes_eq (text_or_default (codes "false") (held (codes "complete")))
        (codes "true")
        ≡ l.reading.options.asks_complete
    pub within_option_is_zero : l.reading.options.within ≡ 0
    pub keeps_is_false : l.reading.options.keeps ≡ false
    pub pid_eq : parsed_option_text pid_of_text (first_text (held (codes "pid"))) ≡ Some
        l.reading.pid
    pub size_eq :
        packet_size_of_text (text_or_default (codes "188")
        (held (codes "packet-size")))
        ≡ Some l.reading.size
    pub range_eq : parsed_option_text range_of_text
        (first_text (held (codes "pes"))) ≡ Some
        l.reading.range
    pub from_eq :
        option_map_or frame_of_text (first_text (held (codes "from"))) (Some 0)
        ≡ Some l.reading.scope.from
    pub to_eq :
        option_map_or frame_of_text (first_text (held (codes "to"))) (Some day)
        ≡ Some l.reading.scope.to
    pub open_eq :
        bytes_eq (text_or_default (codes "false") (held (codes "open"))) (codes "true")
        ≡ l.reading.scope.takes_open
    pub option_eq :
        named_option (text_or_default (codes "english") (held (codes "option"))) ≡
        Some l.national
    pub layout_eq :
        option_map_or layout_of_text (first_text (held (codes "layout")))
        (Some default_layout)
        ≡ Some l.layout

abbrev with_options : Reading → OptionsValue → Reading
with_options r o = record r { options = o }

abbrev with_reading : CheckRecordingSettings → Reading → CheckRecordingSettings
with_reading l r = record l { reading = r }

abbrev values_after_next :
    (Text → List (List Text)) → CheckRecordingOption → Text → List (List Text)
values_after_next held part id = values_with_choice id (held id) part

next_option_keeps_meaning : (held : Text → List (List Text)) (l : CheckRecordingSettings)
    (part : CheckRecordingOption)
    → OptionsHaveValues held l
    → OptionsHaveValues (values_after_next held part) (with_check_recording_option l part)
next_option_keeps_meaning held l (Of (Any (Page text n is))) m = assumption (is, m)
next_option_keeps_meaning held l (Of (Any (Every text n is))) m = assumption (is, m)
next_option_keeps_meaning held l (Of (Any (Origin text n is))) m = assumption (is, m)
next_option_keeps_meaning held l (Of (Any (Pace text n is))) m = assumption
    (ap (option_map Some) is, m)
next_option_keeps_meaning held l (Of (Any Complete)) m =
    let is : bytes_eq (codes "true") (codes "true") ≡ true = refl in assumption (is, m)
next_option_keeps_meaning held l (Of (Any EveryFault)) m = assumption m
next_option_keeps_meaning held l (Of (Pid text n is)) m = assumption
    (ap (option_map Some) is, m)
next_option_keeps_meaning held l (Of (Size text n is)) m = assumption (is, m)
next_option_keeps_meaning held l (Of (PesPackets text n is)) m = assumption
    (ap (option_map Some) is, m)
next_option_keeps_meaning held l (Of (From text n name is)) m = assumption (is, m)
next_option_keeps_meaning held l (Of (To text n name is)) m = assumption (is, m)
next_option_keeps_meaning held l (Of IncludeOpen) m =
    let is : bytes_eq (codes "true") (codes "true") ≡ true = refl in assumption (is, m)
next_option_keeps_meaning held l (NationalChoice text n name is) m = assumption (is, m)
next_option_keeps_meaning held l (LayoutChoice text n name is) m = assumption (is, m)

abbrev values_by_parts :
    (Text → List (List Text)) → List CheckRecordingOption → Text → List (List Text)
values_by_parts held parts id = values_after_parts id (held id) parts

options_keep_meaning : (held : Text → List (List Text)) (l : CheckRecordingSettings)
    (parts : List CheckRecordingOption)
    → OptionsHaveValues held l
    → OptionsHaveValues (values_by_parts held parts) (fold with_check_recording_option l parts)
options_keep_meaning held l [] m = m
options_keep_meaning held l (part ∷ parts) m =
    options_keep_meaning (values_after_next held part) (with_check_recording_option l part) parts
    (next_option_keeps_meaning held l part m)

english_is_option_name : named_option (codes "english") ≡ Some English
unfolding named_option sub_set
english_is_option_name = refl

abbrev nothing : Text → List (List Text)
nothing id = []

no_options_give_defaults : OptionsHaveValues nothing (settings_of_options [])
unfolding page_of_text number_of_text packet_size_of_text
no_options_give_defaults = record {
  page_is = refl;
  every_eq = refl;
  origin_eq = refl;
  pace_eq = refl;
  complete_eq = refl;
  within_option_is_zero = refl;
  keeps_is_false = refl;
  pid_eq = refl;
  size_eq = refl;
  range_eq = refl;
  from_eq = refl;
  to_eq = refl;
  open_eq = refl;
  option_eq = english_is_option_name;
  layout_eq = refl;
}

abbrev HasText : List (List Text) → Type 0
HasText [] = ⊤
HasText ([] ∷ vs) = ⊥
HasText ((text ∷ more) ∷ vs) = ⊤

option_has_text : (part : CheckRecordingOption) → HasText (option_values part ∷ [])
option_has_text (Of (Any (Page text n is))) = tt
option_has_text (Of (Any (Every text n is))) = tt
option_has_text (Of (Any (Origin text n is))) = tt
option_has_text (Of (Any (Pace text n is))) = tt
option_has_text (Of (Any Complete)) = tt
option_has_text (Of (Any EveryFault)) = tt
option_has_text (Of (Pid text n is)) = tt
option_has_text (Of (Size text n is)) = tt
option_has_text (Of (PesPackets text n is)) = tt
option_has_text (Of (From text n name is)) = tt
option_has_text (Of (To text n name is)) = tt
option_has_text (Of IncludeOpen) = tt
option_has_text (NationalChoice text n name is) = tt
option_has_text (LayoutChoice text n name is) = tt

further_option_keeps_text : (b : Bool) (part : CheckRecordingOption) (vs : List (List Text))
    → HasText vs
    → HasText (if b then option_values part ∷ [] else vs)
further_option_keeps_text true part vs has = option_has_text part
further_option_keeps_text false part vs has = has

options_keep_texts : (id : Text) (parts : List CheckRecordingOption) (vs : List (List Text))
    → HasText vs
    → HasText (values_after_parts id vs parts)
options_keep_texts id [] vs has = has
options_keep_texts id (part ∷ parts) vs has =
    options_keep_texts id parts (values_with_choice id vs part)
    (further_option_keeps_text (bytes_eq (key part) id) part vs has)

nonempty_values_have_text : (default : Text) (vs : List (List Text))
    → HasText vs
    → first_text (or_default vs (default ∷ [])) ≡ Some (text_or_default default vs)
nonempty_values_have_text default [] has = refl
nonempty_values_have_text default ([] ∷ vs) has = absurd has
nonempty_values_have_text default ((text ∷ more) ∷ vs) has = refl

empty_default_adds_nothing : (vs : List (List Text)) → first_text (or_default vs []) ≡ first_text vs
empty_default_adds_nothing [] = refl
empty_default_adds_nothing (v ∷ vs) = refl

record RowsHaveValues (rows : List Row) (stl recording : Text) (held : Text → List
    (List Text))
    : Type 0 where
  pub stl_eq : first_of (codes "stl") rows ≡ Some stl
  pub recording_eq : first_of (codes "recording") rows ≡ Some recording
  pub page_is : first_of (codes "page") rows ≡ Some (text_or_default (codes "888")
      (held (codes "page")))
  pub every_eq :
      first_of (codes "every") rows ≡ Some
      (text_or_default (codes "250") (held (codes "every")))
  pub origin_eq :
      first_of (codes "origin") rows ≡ Some
      (text_or_default (codes "0") (held (codes "origin")))
  pub complete_eq :
      first_of (codes "complete") rows ≡ Some
      (text_or_default (codes "false") (held (codes "complete")))
  pub all_eq : first_of (codes "all") rows ≡ Some (text_or_default (codes "false")
      (held (codes "all")))
  pub option_eq :
      first_of (codes "option") rows ≡ Some
      (text_or_default (codes "english") (held (codes "option")))
  pub layout_eq : first_of (codes "layout") rows ≡ first_text (held (codes "layout"))
  pub from_eq : first_of (codes "from") rows ≡ first_text (held (codes "from"))
  pub to_eq : first_of (codes "to") rows ≡ first_text (held (codes "to"))
  pub open_eq :
      first_of (codes "open") rows ≡ Some
      (text_or_default (codes "false") (held (codes "open")))
  pub within_option_is_zero : first_of (codes "within") rows ≡ Some (codes "0")
  pub pid_eq : first_of (codes "pid") rows ≡ first_text (held (codes "pid"))
  pub packet_size_eq :
      first_of (codes "packet-size") rows
      ≡ Some (text_or_default (codes "188") (held (codes "packet-size")))
  pub pes_eq : first_of (codes "pes") rows ≡ first_text (held (codes "pes"))
  pub pace_eq : first_of (codes "pace") rows ≡ first_text (held (codes "pace"))
  pub keeping_eq : first_of (codes "keeping") rows ≡ Some (codes "false")

module _ (stl pes : Text) (parts : List CheckRecordingOption) where
  abbrev pub final_state : Held
  final_state = fold next (state_after_files stl pes) parts

  first_value_by_test :
      (id : Text) (vs : List (List Text))
      → bytes_eq id id ≡ true
      → values_at id (rows_of_state (state_after_files stl pes)) ≡ vs
      → drop 1 vs ≡ []
      → first_of id (finished rules final_state)
      ≡ first_text (fold (default_at id) (values_after_parts id vs parts) rules)
  first_value_by_test id vs same is short =
      first_value_is_first_text id (finished rules final_state)
      ∙ ap first_text (rules_fill_defaults id rules (rows_of_state final_state) same)
      ∙ ap (λ (us : List (List Text)). first_text (fold (default_at id) us rules))
      (values_after_options id (state_after_files stl pes) parts (ap (drop 1) is ∙ short)
      ∙ ap (λ (us : List (List Text)). values_after_parts id us parts) is)

  first_not_given :
      (id : Text) (vs : List (List Text))
      → bytes_eq id id ≡ true
      → values_at id (rows_of_state (state_after_files stl pes)) ≡ vs
      → drop 1 vs ≡ []
      → ((part : CheckRecordingOption) → bytes_eq (key part) id ≡ false)
      → first_of id (finished rules final_state) ≡ first_text (fold (default_at id) vs rules)
  first_not_given id vs same is short apart =
      first_value_by_test id vs same is short
      ∙ ap (λ (us : List (List Text)). first_text (fold (default_at id) us rules))
      (not_given id apart vs parts)

  final_rows_have_values : RowsHaveValues (finished rules final_state) stl pes
      (values_by_parts nothing parts)
  unfolding subttx_app
  final_rows_have_values = record {
    stl_eq =
        first_not_given (codes "stl") ((stl ∷ []) ∷ []) refl refl refl
        (unlisted_id_differs_from_key (codes "stl") refl);
    recording_eq =
        first_not_given (codes "recording") ((pes ∷ []) ∷ []) refl refl refl
        (unlisted_id_differs_from_key (codes "recording") refl);
    page_is =
        first_value_by_test (codes "page") [] refl refl refl
        ∙ nonempty_values_have_text (codes "888") (values_after_parts (codes "page") [] parts)
        (options_keep_texts (codes "page") parts [] tt);
    every_eq =
        first_value_by_test (codes "every") [] refl refl refl
        ∙ nonempty_values_have_text (codes "250") (values_after_parts (codes "every") [] parts)
        (options_keep_texts (codes "every") parts [] tt);
    origin_eq =
        first_value_by_test (codes "origin") [] refl refl refl
        ∙ nonempty_values_have_text (codes "0") (values_after_parts (codes "origin") [] parts)
        (options_keep_texts (codes "origin") parts [] tt);
    complete_eq =
        first_value_by_test (codes "complete") [] refl refl refl
        ∙ nonempty_values_have_text (codes "false") (values_after_parts (codes "complete") [] parts)
        (options_keep_texts (codes "complete") parts [] tt);
    all_eq =
        first_value_by_test (codes "all") [] refl refl refl
        ∙ nonempty_values_have_text (codes "false") (values_after_parts (codes "all") [] parts)
        (options_keep_texts (codes "all") parts [] tt);
    option_eq =
        first_value_by_test (codes "option") [] refl refl refl
        ∙ nonempty_values_have_text (codes "english") (values_after_parts (codes "option") [] parts)
        (options_keep_texts (codes "option") parts [] tt);
    layout_eq =
        first_value_by_test (codes "layout") [] refl refl refl
        ∙ empty_default_adds_nothing (values_after_parts (codes "layout") [] parts);
    from_eq =
        first_value_by_test (codes "from") [] refl refl refl
        ∙ empty_default_adds_nothing (values_after_parts (codes "from") [] parts);
    to_eq =
        first_value_by_test (codes "to") [] refl refl refl
        ∙ empty_default_adds_nothing (values_after_parts (codes "to") [] parts);
    open_eq =
        first_value_by_test (codes "open") [] refl refl refl
        ∙ nonempty_values_have_text (codes "false") (values_after_parts (codes "open") [] parts)
        (options_keep_texts (codes "open") parts [] tt);
    within_option_is_zero =
        first_not_given (codes "within") [] refl refl refl
        (unlisted_id_differs_from_key (codes "within") refl);
    pid_eq =
        first_value_by_test (codes "pid") [] refl refl refl
        ∙ empty_default_adds_nothing (values_after_parts (codes "pid") [] parts);
    packet_size_eq =
        first_value_by_test (codes "packet-size") [] refl refl refl
        ∙ nonempty_values_have_text (codes "188") (values_after_parts (codes "packet-size") []
        parts)
        (options_keep_texts (codes "packet-size") parts [] tt);
    pes_eq =
        first_value_by_test (codes "pes") [] refl refl refl
        ∙ empty_default_adds_nothing (values_after_parts (codes "pes") [] parts);
    pace_eq =
        first_value_by_test (codes "pace") [] refl refl refl
        ∙ empty_default_adds_nothing (values_after_parts (codes "pace") [] parts);
    keeping_eq =
        first_not_given (codes "keeping") [] refl refl refl
        (unlisted_id_differs_from_key (codes "keeping") refl);
  }

text_zero_is_number : number_of_text (codes "0") ≡ Some 0
unfolding number_of_text
text_zero_is_number = refl

pes_selection_eq : (rows : List Row) (name size : Text) (pid pes : Option Text) (r : Reading)
    → first_of (codes "recording") rows ≡ Some name
    → first_of (codes "pid") rows ≡ pid
    → first_of (codes "packet-size") rows ≡ Some size
    → first_of (codes "pes") rows ≡ pes
    → parsed_option_text pid_of_text pid ≡ Some r.pid
    → packet_size_of_text size ≡ Some r.size
    → parsed_option_text range_of_text pes ≡ Some r.range
    → pes_selection_of rows ≡ Ok (requested_recording name r)
unfolding pes_selection_of
pes_selection_eq rows name size pid pes r recording pid_eq size_eq pes_eq pid_says size_says
    pes_says = rw (pid_eq, pid_says, size_eq, size_says, pes_eq, pes_says, recording) refl

abbrev options_in : OptionsValue → OptionsValue
options_in o = record {
  page = o.page;
  every = o.every;
  origin = o.origin;
  asks_complete = o.asks_complete;
  within = 0;
  pace = o.pace;
  keeps = false;
}

pacing_eq : (options : OptionsValue) (rows : List Row) (pace : Option Text) (frames : Option ℕ)
    → options.pace ≡ None
    → first_of (codes "pace") rows ≡ pace
    → parsed_option_text pace_of_text pace ≡ Some frames
    → options_with_pace options rows ≡ Ok (record options { pace = frames })
pacing_eq options rows None frames none first says = grind (arith, nat_tests)
pacing_eq options rows (Some text) frames none first says = grind (arith, nat_tests)

time_text_gives_frame : (text : Option Text) (default frame : ℕ)
    → option_map_or frame_of_text text (Some default) ≡ Some frame
    → (o : Option ℕ)
    × (option_map_or (λ text. option_map Some (frame_of_text text)) text (Some None) ≡ Some o)
    × (unwrap_or o default ≡ frame)
time_text_gives_frame None default frame is =
    let e : default ≡ frame = cc in (None, refl, e)
time_text_gives_frame (Some text) default frame is = (Some frame, ap (option_map Some) is, refl)

scope_eq : (rows : List Row) (from to : Option Text) (also : Text) (scope : Scope)
    → first_of (codes "from") rows ≡ from
    → first_of (codes "to") rows ≡ to
    → first_of (codes "open") rows ≡ Some also
    → option_map_or frame_of_text from (Some 0) ≡ Some scope.from
    → option_map_or frame_of_text to (Some day) ≡ Some scope.to
    → bytes_eq also (codes "true") ≡ scope.takes_open
    → scope_of rows ≡ Ok scope
scope_eq rows from to also scope from_eq to_eq open_eq from_says to_says open_says =
    let first = time_text_gives_frame from 0 scope.from from_says in
    let last = time_text_gives_frame to day scope.to to_says in
    rw (
      from_eq,
      to_eq,
      open_eq,
      first.1,
      last.1,
      first.2,
      last.2,
      open_says,
    ) refl

-- The value of the argument `all`, by default `false`, is `true`, as after `--all`.
abbrev lists_all : (Text → List (List Text)) → Bool
lists_all held = bytes_eq
    (text_or_default (codes "false") (held (codes "all"))) (codes "true")

module _ (rows : List Row) (stl recording : Text) (held : Text → List (List Text))
    (l : CheckRecordingSettings)
    (say : RowsHaveValues rows stl recording held) (m : OptionsHaveValues held
    l) where
  too_far :
      nat_le 1 l.reading.options.every && nat_le l.reading.options.every day ≡ false
      → check_request rows ≡ Err fault.Every
  too_far out = rw (say.page_is, m.page_is, say.every_eq, m.every_eq, out) refl

  no_time :
      nat_le 1 l.reading.options.every && nat_le l.reading.options.every day ≡ true
      → nat_le 0 l.reading.options.origin && nat_le l.reading.options.origin (2 ^ 33 - 1) ≡ false
      → check_request rows ≡ Err fault.Origin
  no_time near out =
      rw (say.page_is, m.page_is, say.every_eq, m.every_eq, near, say.origin_eq, m.origin_eq, out)
      refl

  check_eq :
      nat_le 1 l.reading.options.every && nat_le l.reading.options.every day ≡ true
      → nat_le 0 l.reading.options.origin && nat_le l.reading.options.origin (2 ^ 33 - 1) ≡ true
      → check_request rows
      ≡ Ok (Requested.Check stl (requested_recording recording l.reading)
      (options_in l.reading.options)
      l.national l.layout l.reading.scope (lists_all held))
  check_eq near time =
      rw (
        say.page_is,
        m.page_is,
        say.every_eq,
        m.every_eq,
        near,
        say.origin_eq,
        m.origin_eq,
        time,
        say.complete_eq,
        m.complete_eq,
        say.option_eq,
        m.option_eq,
        say.within_option_is_zero,
        text_zero_is_number,
        pes_selection_eq rows recording _ _ _ l.reading say.recording_eq say.pid_eq
            say.packet_size_eq say.pes_eq m.pid_eq m.size_eq m.range_eq,
        say.layout_eq,
        m.layout_eq,
        pacing_eq (options_in (record l.reading.options { pace = None })) rows _
            l.reading.options.pace refl say.pace_eq m.pace_eq,
        scope_eq rows _ _ _ l.reading.scope say.from_eq say.to_eq say.open_eq m.from_eq m.to_eq
            m.open_eq,
        say.keeping_eq,
        say.all_eq,
        say.stl_eq,
      ) refl

  in_range :
      (near time : Bool) (requested : Requested)
      → nat_le 1 l.reading.options.every && nat_le l.reading.options.every day ≡ near
      → nat_le 0 l.reading.options.origin && nat_le l.reading.options.origin (2 ^ 33 - 1) ≡ time
      → check_request rows ≡ Ok requested
      → (requested
      ≡ Requested.Check stl (requested_recording recording l.reading) (options_in l.reading.options)
      l.national l.layout l.reading.scope (lists_all held))
      × (l.reading.options.origin < 2 ^ 33)
  in_range false time requested near_is time_is is = let e = sym (too_far near_is) ∙ is in cc
  in_range true false requested near_is time_is is =
      let e = sym (no_time near_is time_is) ∙ is in cc
  in_range true true requested near_is time_is is =
      let e = sym is ∙ check_eq near_is time_is
      in (cc, grind (arith, nat_tests, time_is))

options_are_equal : (o : OptionsValue)
    → o.within ≡ 0
    → o.keeps ≡ false
    → options_in o ≡ o
options_are_equal o within keeps = grind (arith, nat_tests)

-- With any options of `CheckRecordingOption`, `within` is 0, and each header of the page has to
-- erase the page.
pub options_allow_no_delay_or_keeping : (parts : List CheckRecordingOption)
    → ((settings_of_options parts).reading.options.within ≡ 0)
    × IsFalse (settings_of_options parts).reading.options.keeps
options_allow_no_delay_or_keeping parts =
    let m = options_keep_meaning nothing (settings_of_options []) parts no_options_give_defaults in
    (m.within_option_is_zero, m.keeps_is_false)

-- After the name of a command, all further words are added to the arguments of this command.
finished_walk_collects_words : (c : List Rule) (names : Names) (name : Text)
    (arguments more : List Text) (w : Walk)
    → w.stopped ≡ Some (name, arguments)
    → (fold (walked c names) w more).stopped ≡ Some (name, arguments ++ more)
unfolding walked
finished_walk_collects_words c names name arguments [] w is =
    is ∙ ap (λ (ws : List Text). Some (name, ws)) (sym (append-nil arguments))
finished_walk_collects_words c names name arguments (word ∷ more) w is =
    finished_walk_collects_words c names name (arguments ++ word ∷ []) more (walked c names w word)
    (ap (λ s. (walked_from c names s w word).stopped) is)
    ∙ ap (λ (ws : List Text). Some (name, ws)) (append_assoc arguments (word ∷ []) more)

abbrev entire_app : App
entire_app = built subttx_app

program_name_gives_command : (program : Text) (more : List Text)
    → command_in (program ∷ codes "check" ∷ more)
    ≡ Some (codes "check", rows_after rules [] more)
unfolding command_in subttx_app clap_on_literals
program_name_gives_command program more =
    ap (entered entire_app)
    (finished_walk_collects_words entire_app.top.rules (names_of entire_app) (codes "check") [] more
    (walked entire_app.top.rules (names_of entire_app) (walk_from nothing_held) (codes "check"))
    refl)

check_rows_are_found : (stl pes : Text) (parts : List CheckRecordingOption)
    → IsName stl
    → IsName pes
    → rows_after rules [] (stl ∷ pes ∷ flat_map arguments_of_check_recording_option parts)
    ≡ finished rules (final_state stl pes parts)
unfolding subttx_app
check_rows_are_found stl pes parts is_stl is_pes =
    let more = flat_map arguments_of_check_recording_option parts in
    ap
    (λ (w : Walk). finished rules
    (fold (walked rules []) (walked rules [] w pes) more).held)
    (walk_takes_plain_word rules nothing_held 1 stl is_stl)
    ∙ ap (λ (w : Walk). finished rules (fold (walked rules []) w more).held)
    (walk_takes_plain_word rules
    (to_positional rules (arg_by_index rules 1) stl (walk_at_position nothing_held 1)
    nothing_held).held 2 pes is_pes)
    ∙ ap (λ (w : Walk). finished rules w.held)
    (walk_reads_check_recording_options (state_after_files stl pes) parts)

requests_no_help : (program stl pes : Text) (more : List Text)
    → requests_help (program ∷ codes "check" ∷ stl ∷ pes ∷ more) ≡ false
unfolding requests_help
requests_no_help program stl pes more = refl

requests_no_version : (program stl pes : Text) (more : List Text)
    → requests_version (program ∷ codes "check" ∷ stl ∷ pes ∷ more) ≡ false
unfolding requests_version
requests_no_version program stl pes more = refl

check_requested_ok : (arguments : List Text) (rows : List Row) (requested : Requested)
    → command_in arguments ≡ Some (codes "check", rows)
    → request_by_command arguments ≡ Some (Ok requested)
    → check_request rows ≡ Ok requested
check_requested_ok arguments rows requested command is =
    let e =
    sym (ap (option_map (λ command. command_request command.0 command.1)) command) ∙ is in cc

rows_give_request : (stl recording : Text) (parts : List CheckRecordingOption)
    (requested : Requested)
    → check_request (finished rules (final_state stl recording parts)) ≡ Ok requested
    → (all : Bool)
    × (requested
    ≡ Requested.Check stl (requested_recording recording (settings_of_options parts).reading)
    (settings_of_options parts).reading.options (settings_of_options parts).national
    (settings_of_options parts).layout
    (settings_of_options parts).reading.scope all)
    × ((settings_of_options parts).reading.options.origin < 2 ^ 33)
rows_give_request stl recording parts requested is =
    let m = options_keep_meaning nothing (settings_of_options []) parts no_options_give_defaults in
    let l = settings_of_options parts in
    let so =
    in_range (finished rules (final_state stl recording parts)) stl recording _ l
    (final_rows_have_values stl recording parts) m _ _ requested refl refl is in (
      lists_all (values_by_parts nothing parts),
      so.0
          ∙ ap
          (λ (options : OptionsValue).
          Requested.Check stl (requested_recording recording l.reading) options l.national l.layout
          l.reading.scope (lists_all (values_by_parts nothing parts)))
          (options_are_equal l.reading.options m.within_option_is_zero m.keeps_is_false),
      so.1,
    )

pub law_of_check_recording_arguments : LawOfCheckRecordingArguments
law_of_check_recording_arguments program stl pes parts request is_stl is_pes (inl version) =
    let e =
    sym (requests_no_version program stl pes (flat_map arguments_of_check_recording_option parts)) ∙
    version.0 in cc
law_of_check_recording_arguments program stl pes parts request is_stl is_pes (inr (inl help)) =
    let e =
    sym (requests_no_help program stl pes (flat_map arguments_of_check_recording_option parts)) ∙
    help.1 in cc
law_of_check_recording_arguments program stl pes parts request is_stl is_pes (inr (inr asks)) =
    rows_give_request stl pes parts (value_of_request request)
    (sym (ap check_request (check_rows_are_found stl pes parts is_stl is_pes))
    ∙ check_requested_ok (program ∷ codes "check" ∷ stl ∷ pes
    ∷ flat_map arguments_of_check_recording_option
    parts)
    (rows_after rules [] (stl ∷ pes ∷ flat_map arguments_of_check_recording_option parts))
    (value_of_request request)
    (program_name_gives_command program
    (stl ∷ pes ∷ flat_map arguments_of_check_recording_option parts))
    asks.2.requested)

arguments_of_parts : (parts : List RecordingOption)
    → flat_map arguments_of_check_recording_option (map Of parts)
    ≡ flat_map arguments_of_recording_option parts
arguments_of_parts [] = refl
arguments_of_parts (part ∷ parts) = ap (λ (ws : List Text). arguments_of_recording_option part ++
    ws)
    (arguments_of_parts parts)

pub settings_of_parts : (l : CheckRecordingSettings) (parts : List RecordingOption)
    → fold with_check_recording_option l (map Of parts)
    ≡ with_reading l (fold with_recording_option l.reading parts)
settings_of_parts l [] = refl
settings_of_parts l (part ∷ parts) =
    settings_of_parts (with_reading l (with_recording_option l.reading part)) parts

pub law_of_recording_arguments : LawOfRecordingArguments
law_of_recording_arguments program stl pes parts request is_stl is_pes asks =
    let so =
    law_of_check_recording_arguments program stl pes (map Of parts) request is_stl is_pes
    (subst
    (λ (ws : List Text). IsRequestOf (program ∷ codes "check" ∷ stl ∷ pes ∷ ws) request)
    (sym (arguments_of_parts parts)) asks) in
    let at = settings_of_parts (settings_of_options []) parts in (
      so.0,
      so.1
          ∙ ap
          (λ (l : CheckRecordingSettings).
          Requested.Check stl (requested_recording pes l.reading) l.reading.options l.national
          l.layout
          l.reading.scope so.0)
          at,
      subst (λ (l : CheckRecordingSettings). l.reading.options.origin < 2 ^ 33) at so.2,
    )

pub choices_keep_arguments : (choices : List CheckOption)
    → flat_map arguments_of_recording_option (map Any choices) ≡ flat_map arguments_of_check_option
    choices
choices_keep_arguments [] = refl
choices_keep_arguments (choice ∷ choices) =
    ap (λ (ws : List Text). arguments_of_check_option choice ++ ws) (choices_keep_arguments choices)

pub choices_keep_reading : (r : Reading) (choices : List CheckOption)
    → fold with_recording_option r (map Any choices)
    ≡ with_options r (fold with_check_option r.options choices)
choices_keep_reading r [] = refl
choices_keep_reading r (choice ∷ choices) = choices_keep_reading
    (with_options r (with_check_option r.options choice)) choices

pub law_of_chosen_arguments : LawOfChosenArguments
law_of_chosen_arguments program stl pes choices request is_stl is_pes asks =
    let so =
    law_of_recording_arguments program stl pes (map Any choices) request is_stl is_pes
    (subst
    (λ (ws : List Text). IsRequestOf (program ∷ codes "check" ∷ stl ∷ pes ∷ ws) request)
    (sym (choices_keep_arguments choices)) asks) in
    let at = choices_keep_reading (reading_of []) choices in (
      so.0,
      so.1
          ∙ ap
          (λ (r : Reading).
          Requested.Check stl (requested_recording pes r) r.options English default_layout r.scope
          so.0)
          at,
      subst (λ (r : Reading). r.options.origin < 2 ^ 33) at so.2,
    )
