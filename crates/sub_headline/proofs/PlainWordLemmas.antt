-- A word that does not begin with a hyphen is a value. So two such words after the name of the
-- command are the names of the two files, and request a check with the default options.
use Rattle.std.proofs.Common.{◌≡◌, ◌∙◌, ℕ, Bool, false, List, [], ◌∷◌, Option, Some, None}
use Rattle.std.proofs.Common.{Ok, Result, refl, sym, ap, arith, codes, inl, inr}
use Rattle.std.proofs.lemmas.Bool.Decides.{nat_tests}
use Rattle.std.specs.Prelude.{◌&&◌, if◌then◌else◌, nat_eq, option_and_then, option_map}
use Rattle.std.specs.Prelude.{find, unwrap_or}
use Rattle.std.specs.Str.{bytes_eq}
use Rattle.clap.specs.Lexer.{long_of, long_of_rest, short_of, short_of_rest, strip_byte}
use Rattle.clap.specs.Simple.{Shape, built, label_of}
use Rattle.clap.specs.Walk.{Held, Row, Rule, Step, Walk, after_step, answers_to, arg_by_index}
use Rattle.clap.specs.Walk.{finished, long_or_other, nothing_held, rows_after}
use Rattle.clap.specs.Walk.{short_or_plain, subcommand_or_other, to_positional, walked}
use Rattle.clap.specs.Walk.Waiting.{idle}
use Rattle.clap.specs.Walk.Step.{trailing, value}
use Rattle.clap.specs.Words.{Text}
use Rattle.clap.proofs.OnLiterals.{clap_on_literals}
use Rattle.ttx_packet.specs.PageId.{page_of_text}
use Rattle.stl_file.specs.Scope.{whole}
use Rattle.stl_rows.specs.Layout.{default_layout}
use Rattle.stl_rows.specs.SubSets.{named_option, sub_set}
use Rattle.stl_rows.specs.declared.national.National.TheVariants.{English}
use Rattle.sub_request.specs.declared.request.Request.{Request}
use Rattle.sub_request.specs.declared.request.UsageFault.{UsageFault}
use Rattle.sub_words.specs.Arguments.{pes_selection_of}
use Rattle.sub_words.specs.Commands.{command_in, subttx_app}
use Rattle.sub_words.specs.Help.{requests_help}
use Rattle.sub_words.specs.PesTexts.{packet_size_of_text}
use Rattle.sub_words.specs.Requests.{Requested, IsRequestOf, value_of_request, request_by_command}
use Rattle.sub_words.specs.Requests.{command_request}
use Rattle.sub_words.specs.Texts.{number_of_text}
use Rattle.sub_words.specs.Version.{requests_version}
use Rattle.sub_headline.specs.PlainArguments.{IsName, LawOfPlainArguments, default_options}
use Rattle.sub_headline.specs.PlainArguments.{entire_pes_file}

name_has_no_hyphen : (x : ℕ) (xs : Text) → IsName (x ∷ xs) → nat_eq x 45 ≡ false
name_has_no_hyphen x xs name = grind (arith, nat_tests)

pub name_is_not_two_dashes : (word : Text) → IsName word → bytes_eq word (45 ∷ 45 ∷ []) ≡ false
name_is_not_two_dashes [] name = refl
name_is_not_two_dashes (x ∷ xs) name =
    ap (λ (b : Bool). b && bytes_eq xs (45 ∷ [])) (name_has_no_hyphen x xs name)

requests_no_help : (program stl pes : Text)
    → requests_help (program ∷ codes "check" ∷ stl ∷ pes ∷ []) ≡ false
unfolding requests_help
requests_no_help program stl pes = refl

requests_no_version : (program stl pes : Text)
    → requests_version (program ∷ codes "check" ∷ stl ∷ pes ∷ []) ≡ false
unfolding requests_version
requests_no_version program stl pes = refl

pub name_is_no_long_option : (word : Text) → IsName word → long_of word ≡ None
name_is_no_long_option [] name = refl
name_is_no_long_option (x ∷ xs) name =
    ap
    (λ (b : Bool).
    option_and_then long_of_rest
    (option_and_then (strip_byte 45) (let o : Option Text = if b then Some xs else None in o)))
    (name_has_no_hyphen x xs name)

pub name_is_no_short_option : (word : Text) → IsName word → short_of word ≡ None
name_is_no_short_option [] name = refl
name_is_no_short_option (x ∷ xs) name =
    ap
    (λ (b : Bool).
    option_and_then short_of_rest (let o : Option Text = if b then Some xs else None in o))
    (name_has_no_hyphen x xs name)

name_is_plain_word : (c : List Rule) (position : ℕ) (word : Text) (h : Held)
    → IsName word
    → subcommand_or_other c None idle position word h ≡ (h, value)
name_is_plain_word c position word h name =
    ap
    (λ (b : Bool).
    let met : Held × Step =
    if b then (h, trailing position) else long_or_other c idle word (long_of word) h in met)
    (name_is_not_two_dashes word name)
    ∙ ap (λ o. long_or_other c idle word o h) (name_is_no_long_option word name)
    ∙ ap (λ o. short_or_plain c idle word o h) (name_is_no_short_option word name)

-- The state of the argument parser `clap` between two words, if no option still needs its value.
abbrev pub walk_at_position : Held → ℕ → Walk
walk_at_position h position =
    record {
      held = h;
      waiting = idle;
      position = position;
      is_trailing = false;
      stopped = None;
    }

pub walk_takes_plain_word : (c : List Rule) (h : Held) (position : ℕ) (word : Text)
    → IsName word
    → walked c [] (walk_at_position h position) word
    ≡ to_positional c (arg_by_index c position) word (walk_at_position h position) h
unfolding walked
walk_takes_plain_word c h position word name =
    ap (λ (met : Held × Step). after_step c word (walk_at_position h position) met.0 met.1)
    (name_is_plain_word c position word h name)

-- The definition of the command `check`, as the argument parser `clap` builds it.
abbrev pub check_shape : Shape
check_shape =
    unwrap_or (find (λ s. answers_to (codes "check") (label_of s)) (built subttx_app).subs)
    (built subttx_app).top

abbrev pub state_after_files : (stl pes : Text) → Held
state_after_files stl pes =
    let c = check_shape.rules in
    let one = to_positional c (arg_by_index c 1) stl (walk_at_position nothing_held 1) nothing_held
    in
    (to_positional c (arg_by_index c 2) pes one one.held).held

program_name_gives_check : (program stl pes : Text)
    → command_in (program ∷ codes "check" ∷ stl ∷ pes ∷ [])
    ≡ Some (codes "check", rows_after check_shape.rules [] (stl ∷ pes ∷ []))
unfolding command_in subttx_app clap_on_literals
program_name_gives_check program stl pes = refl

file_arguments_give_rows : (stl pes : Text)
    → IsName stl
    → IsName pes
    → rows_after check_shape.rules [] (stl ∷ pes ∷ [])
    ≡ finished check_shape.rules (state_after_files stl pes)
unfolding subttx_app
file_arguments_give_rows stl pes is_stl is_pes =
    ap (λ (w : Walk). finished check_shape.rules (walked check_shape.rules [] w pes).held)
    (walk_takes_plain_word check_shape.rules nothing_held 1 stl is_stl)
    ∙ ap (λ (w : Walk). finished check_shape.rules w.held)
    (walk_takes_plain_word check_shape.rules
    (to_positional check_shape.rules (arg_by_index check_shape.rules 1) stl
    (walk_at_position nothing_held 1)
    nothing_held).held 2 pes is_pes)

file_rows_give_request : (stl pes : Text)
    → command_request (codes "check") (finished check_shape.rules (state_after_files stl pes))
    ≡ Ok (Requested.Check stl (entire_pes_file pes) default_options English default_layout whole
    false)
unfolding subttx_app clap_on_literals number_of_text page_of_text named_option sub_set
    pes_selection_of packet_size_of_text
file_rows_give_request stl pes = refl

equal_results_request_equally : (reported : Option (Result Requested UsageFault)) (a b : Requested)
    → reported ≡ Some (Ok a)
    → reported ≡ Some (Ok b)
    → a ≡ b
equal_results_request_equally reported a b one other = let e = sym one ∙ other in cc

file_arguments_give_request : (program stl pes : Text)
    → IsName stl
    → IsName pes
    → request_by_command (program ∷ codes "check" ∷ stl ∷ pes ∷ [])
    ≡ Some
    (Ok (Requested.Check stl (entire_pes_file pes) default_options English default_layout whole
    false))
file_arguments_give_request program stl pes is_stl is_pes =
    ap (option_map (λ command. command_request command.0 command.1)) (program_name_gives_check
    program stl pes)
    ∙ ap (λ (rows : List Row). Some (command_request (codes "check") rows))
    (file_arguments_give_rows stl pes is_stl is_pes)
    ∙ ap (λ requested. Some requested) (file_rows_give_request stl pes)

pub request_of_arguments : (arguments : List Text) (request : Request) (requested : Requested)
    → requests_version arguments ≡ false
    → requests_help arguments ≡ false
    → request_by_command arguments ≡ Some (Ok requested)
    → IsRequestOf arguments request
    → value_of_request request ≡ requested
request_of_arguments arguments request requested unversioned none is (inl version) =
    let e = sym unversioned ∙ version.0 in cc
request_of_arguments arguments request requested unversioned none is (inr (inl help)) = let e = sym
    none
    ∙ help.1 in cc
request_of_arguments arguments request requested unversioned none is
    (inr (inr of)) = equal_results_request_equally
    _ _ _ of.2.requested is

pub law_of_plain_arguments : LawOfPlainArguments
law_of_plain_arguments program stl pes request is_stl is_pes asks =
    request_of_arguments (program ∷ codes "check" ∷ stl ∷ pes ∷ []) request _
    (requests_no_version program stl pes) (requests_no_help program stl pes)
    (file_arguments_give_request program stl pes is_stl is_pes) asks
