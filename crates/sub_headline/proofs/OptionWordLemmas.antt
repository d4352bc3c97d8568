-- Each option after `check STL PES` replaces the values of its own argument, and does not change
-- the values of the other arguments.
use Rattle.std.proofs.Common.{◌≡◌, ◌∙◌, ℕ, Bool, true, false, List, [], ◌∷◌, Option, Some}
use Rattle.std.proofs.Common.{None, refl, sym, ap, arith, codes, drop, subst}
use Rattle.std.proofs.lemmas.Bool.Decides.{nat_tests}
use Rattle.std.proofs.lemmas.List.Sums.{fold-append}
use Rattle.std.specs.Prelude.{if◌then◌else◌, fold, unwrap_or}
use Rattle.std.specs.Prelude.{nat_lt, length}
use Rattle.std.specs.List.{after_first, before_first, flat_map, position_or_len}
use Rattle.std.specs.Str.{bytes_eq}
use Rattle.clap.specs.Lexer.{long_of}
use Rattle.clap.specs.Walk.{Held, Row, Rule, Step, Walk, after_step, arg_by_id}
use Rattle.clap.specs.Walk.{long_or_other}
use Rattle.clap.specs.Walk.{plain_word, reacted, reading_by, settled, short_or_plain}
use Rattle.clap.specs.Walk.{subcommand_or_other, walked}
use Rattle.clap.specs.Walk.Waiting.{option}
use Rattle.clap.specs.Walk.Step.{trailing}
use Rattle.clap.specs.Words.{Text}
use Rattle.clap.specs.Simple.{new_rule}
use Rattle.clap.specs.declared.builder.value_parser.Reading.{Reading}
use Rattle.clap.proofs.OnLiterals.{clap_on_literals}
use Rattle.ttx_packet.specs.PacketAddress.{◌>>=◌}
use Rattle.ttx_packet.specs.PageId.{PageIdValue, page_of_text}
use Rattle.sub_words.specs.Commands.{subttx_app}
use Rattle.sub_words.specs.Texts.{number_of_text}
use Rattle.mpeg_ts.specs.declared.packet_size.PacketSize.{PacketSize}
use Rattle.ttx_pes.specs.PesPacketRange.{PesPacketRangeValue}
use Rattle.sub_words.specs.PesTexts.{packet_size_of_text, pid_of_text}
use Rattle.sub_words.specs.PesTexts.{is_dash, range_of_numbers, range_of_text}
use Rattle.stl_file.specs.TimeCode.{day}
use Rattle.sub_words.specs.Arguments.{between}
use Rattle.sub_headline.specs.PlainOptions.CheckOption.{Page, Every, Origin, Pace, Complete}
use Rattle.sub_headline.specs.PlainOptions.CheckOption.{EveryFault}
use Rattle.sub_headline.specs.DrawnOptions.{CheckRecordingOption}
use Rattle.sub_headline.specs.DrawnOptions.{arguments_of_check_recording_option}
use Rattle.sub_headline.specs.DrawnOptions.CheckRecordingOption.{NationalChoice, LayoutChoice, Of}
use Rattle.sub_headline.specs.RecordingOptions.RecordingOption.{Pid, Size, PesPackets, From, To}
use Rattle.sub_headline.specs.RecordingOptions.RecordingOption.{IncludeOpen}
use Rattle.sub_headline.specs.RecordingOptions.RecordingOption.{Any}
use Rattle.sub_headline.specs.PlainArguments.{IsName}
use Rattle.sub_headline.proofs.PlainWordLemmas.{walk_at_position, check_shape}
use Rattle.sub_headline.proofs.PlainWordLemmas.{name_is_not_two_dashes, name_is_no_long_option}
use Rattle.sub_headline.proofs.PlainWordLemmas.{name_is_no_short_option}
use Rattle.sub_headline.proofs.RowLemmas.{values_at, equal_bytes_mean_equal_ids, set_other, set_row}
use Rattle.sub_headline.proofs.RowLemmas.{set_same}

page_is_name : (text : Text) (page : PageIdValue) → page_of_text text ≡ Some page → IsName text
unfolding page_of_text
page_is_name [] page is = λ e. cc
page_is_name (x ∷ []) page is = cc
page_is_name (x ∷ y ∷ []) page is = cc
page_is_name (x ∷ y ∷ z ∷ []) page is = grind (arith, nat_tests)
page_is_name (x ∷ y ∷ z ∷ w ∷ more) page is = cc

number_is_name : (text : Text) (n : ℕ) → number_of_text text ≡ Some n → IsName text
unfolding number_of_text
number_is_name [] n is = λ e. cc
number_is_name (x ∷ xs) n is = grind (arith, nat_tests)

pace_number : (o : Option ℕ) (frames : ℕ) → between 1 day o ≡ Some frames → (n : ℕ) × (o ≡ Some n)
pace_number None frames is = cc
pace_number (Some n) frames is = (n, refl)

pace_is_name : (text : Text) (frames : ℕ)
    → between 1 day (number_of_text text) ≡ Some frames
    → IsName text
pace_is_name text frames is =
    let number = pace_number (number_of_text text) frames is in
    number_is_name text number.0 number.1

hyphen_begins_no_pid : (xs : Text) (pid : ℕ) → pid_of_text (0x2D ∷ xs) ≡ Some pid → ⊥
unfolding pid_of_text number_of_text
hyphen_begins_no_pid xs pid is = grind (arith, nat_tests)

pid_is_name : (text : Text) (pid : ℕ) → pid_of_text text ≡ Some pid → IsName text
pid_is_name [] pid is = λ e. cc
pid_is_name (x ∷ xs) pid is = λ e.
    let at : x ≡ 0x2D = cc in
    hyphen_begins_no_pid xs pid (subst (λ (c : ℕ). pid_of_text (c ∷ xs) ≡ Some pid) at is)

hyphen_begins_no_size : (xs : Text) (size : PacketSize) → packet_size_of_text (0x2D ∷ xs) ≡ Some
    size → ⊥
unfolding packet_size_of_text
hyphen_begins_no_size xs size is = cc

size_is_name : (text : Text) (size : PacketSize)
    → packet_size_of_text text ≡ Some size
    → IsName text
size_is_name [] size is = λ e. cc
size_is_name (x ∷ xs) size is = λ e.
    let at : x ≡ 0x2D = cc in
    hyphen_begins_no_size xs size (subst (λ (c : ℕ). packet_size_of_text (c ∷ xs) ≡ Some size) at
    is)

empty_first_gives_nothing : (last : Text) → range_of_numbers [] last ≡ None
unfolding number_of_text
empty_first_gives_nothing last = refl

empty_first_number_gives_no_range : (b : Bool) (first last : Text) (range : PesPacketRangeValue)
    → first ≡ []
    → (let o : Option (Text × Text) = if b then Some (first, last) else None in o)
    >>= (λ numbers. range_of_numbers numbers.0 numbers.1)
    ≡ Some range
    → ⊥
empty_first_number_gives_no_range true first last range none is =
    let e = sym is ∙ ap (λ (f : Text). range_of_numbers f last) none ∙ empty_first_gives_nothing
    last in cc
empty_first_number_gives_no_range false first last range none is = cc

hyphen_begins_no_range : (xs : Text) (range : PesPacketRangeValue) → range_of_text (0x2D ∷ xs) ≡
    Some range → ⊥
unfolding range_of_text
hyphen_begins_no_range xs range is =
    empty_first_number_gives_no_range
    (nat_lt (position_or_len is_dash (0x2D ∷ xs)) (length (0x2D ∷ xs)))
    (before_first is_dash (0x2D ∷ xs)) (after_first is_dash (0x2D ∷ xs)) range refl is

range_is_name : (text : Text) (range : PesPacketRangeValue)
    → range_of_text text ≡ Some range
    → IsName text
range_is_name [] range is = λ e. cc
range_is_name (x ∷ xs) range is = λ e.
    let at : x ≡ 0x2D = cc in
    hyphen_begins_no_range xs range (subst (λ (c : ℕ). range_of_text (c ∷ xs) ≡ Some range) at is)

-- `walk_at_option` is the state of the argument parser `clap` after the names of both files and the
-- name of an option, before the option's value.
abbrev walk_at_option : Text → Held → Walk
walk_at_option id h = record {
  held = h;
  waiting = option id;
  position = 3;
  is_trailing = false;
  stopped = None;
}

option_value_is_plain_word : (c : List Rule) (id : Text) (word : Text) (h : Held)
    → IsName word
    → subcommand_or_other c None (option id) 3 word h ≡ plain_word c (option id) word h
option_value_is_plain_word c id word h name =
    ap
    (λ (b : Bool).
    let met : Held × Step =
    if b then (h, trailing 3) else long_or_other c (option id) word (long_of word) h in met)
    (name_is_not_two_dashes word name)
    ∙ ap (λ o. long_or_other c (option id) word o h) (name_is_no_long_option word name)
    ∙ ap (λ o. short_or_plain c (option id) word o h) (name_is_no_short_option word name)

walk_takes_option_value : (c : List Rule) (id : Text) (h : Held) (word : Text)
    → IsName word
    → walked c [] (walk_at_option id h) word
    ≡ after_step c word (walk_at_option id h) (plain_word c (option id) word h).0
    (plain_word c (option id) word h).1
unfolding walked
walk_takes_option_value c id h word name =
    ap (λ (met : Held × Step). after_step c word (walk_at_option id h) met.0 met.1)
    (option_value_is_plain_word c id word h name)

abbrev pub rules : List Rule
rules = check_shape.rules

abbrev pub key : CheckRecordingOption → Text
key (Of (Any (Page text page is))) = codes "page"
key (Of (Any (Every text frames is))) = codes "every"
key (Of (Any (Origin text pts is))) = codes "origin"
key (Of (Any (Pace text frames is))) = codes "pace"
key (Of (Any Complete)) = codes "complete"
key (Of (Any EveryFault)) = codes "all"
key (Of (Pid text pid is)) = codes "pid"
key (Of (Size text size is)) = codes "packet-size"
key (Of (PesPackets text range is)) = codes "pes"
key (Of (From text frame name is)) = codes "from"
key (Of (To text frame name is)) = codes "to"
key (Of IncludeOpen) = codes "open"
key (NationalChoice text national name is) = codes "option"
key (LayoutChoice text layout name is) = codes "layout"

abbrev pub option_values : CheckRecordingOption → List Text
option_values (Of (Any (Page text page is))) = text ∷ []
option_values (Of (Any (Every text frames is))) = text ∷ []
option_values (Of (Any (Origin text pts is))) = text ∷ []
option_values (Of (Any (Pace text frames is))) = text ∷ []
option_values (Of (Any Complete)) = codes "true" ∷ []
option_values (Of (Any EveryFault)) = codes "true" ∷ []
option_values (Of (Pid text pid is)) = text ∷ []
option_values (Of (Size text size is)) = text ∷ []
option_values (Of (PesPackets text range is)) = text ∷ []
option_values (Of (From text frame name is)) = text ∷ []
option_values (Of (To text frame name is)) = text ∷ []
option_values (Of IncludeOpen) = codes "true" ∷ []
option_values (NationalChoice text national name is) = text ∷ []
option_values (LayoutChoice text layout name is) = text ∷ []

abbrev rule_at : Text → Rule
rule_at id = unwrap_or (arg_by_id rules id) (new_rule [])

abbrev waiting_state : Text → Held → Held
waiting_state id h = record (settled rules h) { pending = Some (id, []) }

abbrev state_with_value : Text → Text → Held → Held
state_with_value id text h = record (settled rules h) { pending = Some (id, text ∷ []) }

abbrev pub next : Held → CheckRecordingOption → Held
next h (Of (Any (Page text page is))) = state_with_value (codes "page") text h
next h (Of (Any (Every text frames is))) = state_with_value (codes "every") text h
next h (Of (Any (Origin text pts is))) = state_with_value (codes "origin") text h
next h (Of (Any (Pace text frames is))) = state_with_value (codes "pace") text h
next h (Of (Any Complete)) = reacted rules (rule_at (codes "complete")) [] h
next h (Of (Any EveryFault)) = reacted rules (rule_at (codes "all")) [] h
next h (Of (Pid text pid is)) = state_with_value (codes "pid") text h
next h (Of (Size text size is)) = state_with_value (codes "packet-size") text h
next h (Of (PesPackets text range is)) = state_with_value (codes "pes") text h
next h (Of (From text frame name is)) = state_with_value (codes "from") text h
next h (Of (To text frame name is)) = state_with_value (codes "to") text h
next h (Of IncludeOpen) = reacted rules (rule_at (codes "open")) [] h
next h (NationalChoice text national name is) = state_with_value (codes "option") text h
next h (LayoutChoice text layout name is) = state_with_value (codes "layout") text h

walk_reads_page_option : (h : Held)
    → walked rules [] (walk_at_position h 3) (codes "--page")
    ≡ walk_at_option (codes "page") (waiting_state (codes "page") h)
unfolding subttx_app clap_on_literals
walk_reads_page_option h = refl

walk_reads_every_option : (h : Held)
    → walked rules [] (walk_at_position h 3) (codes "--every")
    ≡ walk_at_option (codes "every") (waiting_state (codes "every") h)
unfolding subttx_app clap_on_literals
walk_reads_every_option h = refl

walk_reads_origin_option : (h : Held)
    → walked rules [] (walk_at_position h 3) (codes "--origin")
    ≡ walk_at_option (codes "origin") (waiting_state (codes "origin") h)
unfolding subttx_app clap_on_literals
walk_reads_origin_option h = refl

walk_reads_pace_option : (h : Held)
    → walked rules [] (walk_at_position h 3) (codes "--pace")
    ≡ walk_at_option (codes "pace") (waiting_state (codes "pace") h)
unfolding subttx_app clap_on_literals
walk_reads_pace_option h = refl

walk_reads_pace_value : (h : Held) (text : Text)
    → IsName text
    → walked rules [] (walk_at_option (codes "pace") (waiting_state (codes "pace") h)) text
    ≡ walk_at_position (state_with_value (codes "pace") text h) 3
unfolding subttx_app
walk_reads_pace_value h text name =
    walk_takes_option_value rules (codes "pace") (waiting_state (codes "pace") h) text name ∙ refl

walk_reads_complete_option : (h : Held)
    → walked rules [] (walk_at_position h 3) (codes "--complete") ≡ walk_at_position
    (next h (Of (Any Complete))) 3
unfolding subttx_app clap_on_literals
walk_reads_complete_option h = refl

walk_reads_all_option : (h : Held)
    → walked rules [] (walk_at_position h 3) (codes "--all") ≡ walk_at_position
    (next h (Of (Any EveryFault))) 3
unfolding subttx_app clap_on_literals
walk_reads_all_option h = refl

walk_reads_national_option : (h : Held)
    → walked rules [] (walk_at_position h 3) (codes "--option")
    ≡ walk_at_option (codes "option") (waiting_state (codes "option") h)
unfolding subttx_app clap_on_literals
walk_reads_national_option h = refl

walk_reads_national_value : (h : Held) (text : Text)
    → IsName text
    → walked rules [] (walk_at_option (codes "option") (waiting_state (codes "option") h)) text
    ≡ walk_at_position (state_with_value (codes "option") text h) 3
unfolding subttx_app
walk_reads_national_value h text name =
    walk_takes_option_value rules (codes "option") (waiting_state (codes "option") h) text name ∙
    refl

walk_reads_layout_option : (h : Held)
    → walked rules [] (walk_at_position h 3) (codes "--layout")
    ≡ walk_at_option (codes "layout") (waiting_state (codes "layout") h)
unfolding subttx_app clap_on_literals
walk_reads_layout_option h = refl

walk_reads_layout_value : (h : Held) (text : Text)
    → IsName text
    → walked rules [] (walk_at_option (codes "layout") (waiting_state (codes "layout") h)) text
    ≡ walk_at_position (state_with_value (codes "layout") text h) 3
unfolding subttx_app
walk_reads_layout_value h text name =
    walk_takes_option_value rules (codes "layout") (waiting_state (codes "layout") h) text name ∙
    refl

walk_reads_pid_option : (h : Held)
    → walked rules [] (walk_at_position h 3) (codes "--pid")
    ≡ walk_at_option (codes "pid") (waiting_state (codes "pid") h)
unfolding subttx_app clap_on_literals
walk_reads_pid_option h = refl

walk_reads_size_option : (h : Held)
    → walked rules [] (walk_at_position h 3) (codes "--packet-size")
    ≡ walk_at_option (codes "packet-size") (waiting_state (codes "packet-size") h)
unfolding subttx_app clap_on_literals
walk_reads_size_option h = refl

walk_reads_pes_option : (h : Held)
    → walked rules [] (walk_at_position h 3) (codes "--pes")
    ≡ walk_at_option (codes "pes") (waiting_state (codes "pes") h)
unfolding subttx_app clap_on_literals
walk_reads_pes_option h = refl

walk_reads_pid_value : (h : Held) (text : Text)
    → IsName text
    → walked rules [] (walk_at_option (codes "pid") (waiting_state (codes "pid") h)) text
    ≡ walk_at_position (state_with_value (codes "pid") text h) 3
unfolding subttx_app
walk_reads_pid_value h text name =
    walk_takes_option_value rules (codes "pid") (waiting_state (codes "pid") h) text name ∙ refl

walk_reads_size_value : (h : Held) (text : Text)
    → IsName text
    → walked rules [] (walk_at_option (codes "packet-size") (waiting_state (codes "packet-size") h))
    text
    ≡ walk_at_position (state_with_value (codes "packet-size") text h) 3
unfolding subttx_app
walk_reads_size_value h text name =
    walk_takes_option_value rules (codes "packet-size") (waiting_state (codes "packet-size") h) text
    name ∙
    refl

walk_reads_pes_value : (h : Held) (text : Text)
    → IsName text
    → walked rules [] (walk_at_option (codes "pes") (waiting_state (codes "pes") h)) text
    ≡ walk_at_position (state_with_value (codes "pes") text h) 3
unfolding subttx_app
walk_reads_pes_value h text name =
    walk_takes_option_value rules (codes "pes") (waiting_state (codes "pes") h) text name ∙ refl

walk_reads_page_value : (h : Held) (text : Text)
    → IsName text
    → walked rules [] (walk_at_option (codes "page") (waiting_state (codes "page") h)) text
    ≡ walk_at_position (state_with_value (codes "page") text h) 3
unfolding subttx_app
walk_reads_page_value h text name =
    walk_takes_option_value rules (codes "page") (waiting_state (codes "page") h) text name ∙ refl

walk_reads_every_value : (h : Held) (text : Text)
    → IsName text
    → walked rules [] (walk_at_option (codes "every") (waiting_state (codes "every") h)) text
    ≡ walk_at_position (state_with_value (codes "every") text h) 3
unfolding subttx_app
walk_reads_every_value h text name =
    walk_takes_option_value rules (codes "every") (waiting_state (codes "every") h) text name ∙ refl

walk_reads_origin_value : (h : Held) (text : Text)
    → IsName text
    → walked rules [] (walk_at_option (codes "origin") (waiting_state (codes "origin") h)) text
    ≡ walk_at_position (state_with_value (codes "origin") text h) 3
unfolding subttx_app
walk_reads_origin_value h text name =
    walk_takes_option_value rules (codes "origin") (waiting_state (codes "origin") h) text name ∙
    refl

walk_reads_from_option : (h : Held)
    → walked rules [] (walk_at_position h 3) (codes "--from")
    ≡ walk_at_option (codes "from") (waiting_state (codes "from") h)
unfolding subttx_app clap_on_literals
walk_reads_from_option h = refl

walk_reads_from_value : (h : Held) (text : Text)
    → IsName text
    → walked rules [] (walk_at_option (codes "from") (waiting_state (codes "from") h)) text
    ≡ walk_at_position (state_with_value (codes "from") text h) 3
unfolding subttx_app
walk_reads_from_value h text name =
    walk_takes_option_value rules (codes "from") (waiting_state (codes "from") h) text name ∙ refl

walk_reads_to_option : (h : Held)
    → walked rules [] (walk_at_position h 3) (codes "--to")
    ≡ walk_at_option (codes "to") (waiting_state (codes "to") h)
unfolding subttx_app clap_on_literals
walk_reads_to_option h = refl

walk_reads_to_value : (h : Held) (text : Text)
    → IsName text
    → walked rules [] (walk_at_option (codes "to") (waiting_state (codes "to") h)) text
    ≡ walk_at_position (state_with_value (codes "to") text h) 3
unfolding subttx_app
walk_reads_to_value h text name =
    walk_takes_option_value rules (codes "to") (waiting_state (codes "to") h) text name ∙ refl

walk_reads_open_option : (h : Held)
    → walked rules [] (walk_at_position h 3) (codes "--open") ≡ walk_at_position
    (next h (Of IncludeOpen)) 3
unfolding subttx_app clap_on_literals
walk_reads_open_option h = refl

walk_reads_check_recording_option : (h : Held) (choice : CheckRecordingOption)
    → fold (walked rules []) (walk_at_position h 3) (arguments_of_check_recording_option choice) ≡
    walk_at_position (next h choice) 3
walk_reads_check_recording_option h (Of (Any (Page text page is))) =
    ap (λ (w : Walk). walked rules [] w text) (walk_reads_page_option h)
    ∙ walk_reads_page_value h text (page_is_name text page is)
walk_reads_check_recording_option h (Of (Any (Every text frames is))) =
    ap (λ (w : Walk). walked rules [] w text) (walk_reads_every_option h)
    ∙ walk_reads_every_value h text (number_is_name text frames is)
walk_reads_check_recording_option h (Of (Any (Origin text pts is))) =
    ap (λ (w : Walk). walked rules [] w text) (walk_reads_origin_option h)
    ∙ walk_reads_origin_value h text (number_is_name text pts is)
walk_reads_check_recording_option h (Of (Any (Pace text frames is))) =
    ap (λ (w : Walk). walked rules [] w text) (walk_reads_pace_option h)
    ∙ walk_reads_pace_value h text (pace_is_name text frames is)
walk_reads_check_recording_option h (Of (Any Complete)) = walk_reads_complete_option h
walk_reads_check_recording_option h (Of (Any EveryFault)) = walk_reads_all_option h
walk_reads_check_recording_option h (Of (Pid text pid is)) =
    ap (λ (w : Walk). walked rules [] w text) (walk_reads_pid_option h)
    ∙ walk_reads_pid_value h text (pid_is_name text pid is)
walk_reads_check_recording_option h (Of (Size text size is)) =
    ap (λ (w : Walk). walked rules [] w text) (walk_reads_size_option h)
    ∙ walk_reads_size_value h text (size_is_name text size is)
walk_reads_check_recording_option h (Of (PesPackets text range is)) =
    ap (λ (w : Walk). walked rules [] w text) (walk_reads_pes_option h)
    ∙ walk_reads_pes_value h text (range_is_name text range is)
walk_reads_check_recording_option h (Of (From text frame name is)) =
    ap (λ (w : Walk). walked rules [] w text) (walk_reads_from_option h) ∙ walk_reads_from_value h
    text name
walk_reads_check_recording_option h (Of (To text frame name is)) =
    ap (λ (w : Walk). walked rules [] w text) (walk_reads_to_option h) ∙ walk_reads_to_value h text
    name
walk_reads_check_recording_option h (Of IncludeOpen) = walk_reads_open_option h
walk_reads_check_recording_option h (NationalChoice text national name is) =
    ap (λ (w : Walk). walked rules [] w text) (walk_reads_national_option h)
    ∙ walk_reads_national_value h text name
walk_reads_check_recording_option h (LayoutChoice text layout name is) =
    ap (λ (w : Walk). walked rules [] w text) (walk_reads_layout_option h)
    ∙ walk_reads_layout_value h text name

pub walk_reads_check_recording_options : (h : Held) (choices : List CheckRecordingOption)
    → fold (walked rules []) (walk_at_position h 3)
    (flat_map arguments_of_check_recording_option choices)
    ≡ walk_at_position (fold next h choices) 3
walk_reads_check_recording_options h [] = refl
walk_reads_check_recording_options h (choice ∷ choices) =
    fold-append (walked rules []) (walk_at_position h 3)
    (arguments_of_check_recording_option choice)
    (flat_map arguments_of_check_recording_option choices)
    ∙ ap
    (λ (w : Walk). fold (walked rules []) w (flat_map arguments_of_check_recording_option choices))
    (walk_reads_check_recording_option h choice)
    ∙ walk_reads_check_recording_options (next h choice) choices

abbrev pub rows_of_state : Held → List Row
rows_of_state h = (settled rules h).rows

option_sets_row : (h : Held) (choice : CheckRecordingOption)
    → rows_of_state (next h choice)
    ≡ set_row (key choice) (reading_by (rule_at (key choice))) (option_values choice)
    (rows_of_state h)
unfolding subttx_app
option_sets_row h (Of (Any (Page text page is))) = refl
option_sets_row h (Of (Any (Every text frames is))) = refl
option_sets_row h (Of (Any (Origin text pts is))) = refl
option_sets_row h (Of (Any (Pace text frames is))) = refl
option_sets_row h (Of (Any Complete)) = refl
option_sets_row h (Of (Any EveryFault)) = refl
option_sets_row h (Of (Pid text pid is)) = refl
option_sets_row h (Of (Size text size is)) = refl
option_sets_row h (Of (PesPackets text range is)) = refl
option_sets_row h (Of (From text frame name is)) = refl
option_sets_row h (Of (To text frame name is)) = refl
option_sets_row h (Of IncludeOpen) = refl
option_sets_row h (NationalChoice text national name is) = refl
option_sets_row h (LayoutChoice text layout name is) = refl

-- The values of the argument `id` after one more option: the option's values if it sets this
-- argument, otherwise the earlier values.
abbrev pub values_with_choice : Text → List (List Text) → CheckRecordingOption → List (List Text)
values_with_choice id vs choice = if bytes_eq (key choice) id then option_values choice ∷ [] else vs

key_equals_itself : (choice : CheckRecordingOption) → bytes_eq (key choice) (key choice) ≡ true
key_equals_itself (Of (Any (Page text page is))) = refl
key_equals_itself (Of (Any (Every text frames is))) = refl
key_equals_itself (Of (Any (Origin text pts is))) = refl
key_equals_itself (Of (Any (Pace text frames is))) = refl
key_equals_itself (Of (Any Complete)) = refl
key_equals_itself (Of (Any EveryFault)) = refl
key_equals_itself (Of (Pid text pid is)) = refl
key_equals_itself (Of (Size text size is)) = refl
key_equals_itself (Of (PesPackets text range is)) = refl
key_equals_itself (Of (From text frame name is)) = refl
key_equals_itself (Of (To text frame name is)) = refl
key_equals_itself (Of IncludeOpen) = refl
key_equals_itself (NationalChoice text national name is) = refl
key_equals_itself (LayoutChoice text layout name is) = refl

setting_row_changes_own_id : (b : Bool) (id : Text) (how : Reading) (choice : CheckRecordingOption)
    (rows : List Row)
    → bytes_eq (key choice) id ≡ b
    → drop 1 (values_at id rows) ≡ []
    → values_at id (set_row (key choice) how (option_values choice) rows)
    ≡ (if b then option_values choice ∷ [] else values_at id rows)
setting_row_changes_own_id true id how choice rows is short =
    subst
    (λ (x : Text).
    drop 1 (values_at x rows) ≡ []
    → values_at x (set_row (key choice) how (option_values choice) rows) ≡ option_values choice ∷
    [])
    (equal_bytes_mean_equal_ids (key choice) id is)
    (set_same (key choice) (key_equals_itself choice) how (option_values choice) rows) short
setting_row_changes_own_id false id how choice rows is short =
    set_other (key choice) id is how (option_values choice) rows

values_after_option : (id : Text) (h : Held) (choice : CheckRecordingOption)
    → drop 1 (values_at id (rows_of_state h)) ≡ []
    → values_at id (rows_of_state (next h choice)) ≡ values_with_choice id
    (values_at id (rows_of_state h))
    choice
values_after_option id h choice short =
    ap (values_at id) (option_sets_row h choice)
    ∙ setting_row_changes_own_id (bytes_eq (key choice) id) id (reading_by (rule_at (key choice)))
    choice
    (rows_of_state h)
    refl short

option_keeps_one_value : (b : Bool) (v : List Text) (vs : List (List Text))
    → drop 1 vs ≡ []
    → drop 1 (if b then v ∷ [] else vs) ≡ []
option_keeps_one_value true v vs short = refl
option_keeps_one_value false v vs short = short

pub values_after_options : (id : Text) (h : Held) (choices : List CheckRecordingOption)
    → drop 1 (values_at id (rows_of_state h)) ≡ []
    → values_at id (rows_of_state (fold next h choices))
    ≡ fold (values_with_choice id) (values_at id (rows_of_state h)) choices
values_after_options id h [] short = refl
values_after_options id h (choice ∷ choices) short =
    let one = values_after_option id h choice short in
    values_after_options id (next h choice) choices
    (ap (drop 1) one
    ∙ option_keeps_one_value (bytes_eq (key choice) id) (option_values choice)
    (values_at id (rows_of_state h))
    short)
    ∙ ap (λ (vs : List (List Text)). fold (values_with_choice id) vs choices) one
