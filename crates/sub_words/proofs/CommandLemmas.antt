-- The contract of clap determines how the arguments of the program's commands are matched or
-- refused.
use Rattle.std.proofs.Common.{◌≡◌, ◌≢◌, ◌∙◌, true, false, List, [], Option, Some, None, Ok, Err}
use Rattle.std.proofs.Common.{Bool, ◌||◌}
use Rattle.std.proofs.Common.{refl, ap, subst, sym, inl, inr, arith, drop, get_or, ◌+◌, ◌≤◌}
use Rattle.std.specs.Borrow.{Bor}
use Rattle.std.specs.Prelude.{Box, IfErr, Result, option_map, ◌==◌, ◌<◌, ◌∷◌, ℕ, length, map}
use Rattle.std.specs.Box.{box_value}
use Rattle.std.proofs.lemmas.Bool.{and_parts, not-true}
use Rattle.std.proofs.lemmas.Bool.Decides.{nat_tests}
use Rattle.std.proofs.lemmas.List.{at_drop_all, at_drop_more}
use Rattle.std.specs.List.{fold, list_any}
use Rattle.clap.specs.Words.{App, FailsBy, HasKind, HasMatchesOf, IsAmong, IsParsedFrom, Kinds, Row}
use Rattle.clap.specs.Words.{Rule}
use Rattle.clap.specs.Words.{Text, app_of, fault_of, has_subcommand, is_simple, is_simple_and_free}
use Rattle.clap.specs.Words.{kind_of, subcommand_rows, subcommand_rows_of}
use Rattle.clap.specs.Words.{takes}
use Rattle.clap.specs.declared.builder.command.Command.{Command}
use Rattle.clap.specs.declared.builder.command.Command.TheViews.{out-Command}
use Rattle.clap.specs.declared.error.Error.{Error}
use Rattle.clap.specs.declared.error.kind.ErrorKind.TheVariants.{OutOfMemory}
use Rattle.clap.specs.declared.parser.matches.ArgMatches.{ArgMatches}
use Rattle.clap.specs.declared.parser.matches.ArgMatches.TheViews.{out-SubCommand}
use Rattle.clap.specs.declared.parser.matches.SubCommand.{SubCommand}
use Rattle.clap.proofs.OnLiterals.{clap_on_literals}
use Rattle.clap.proofs.WalkLemmas.{first_value-rows, raw_values-rows}
use Rattle.sub_words.specs.Commands.{are_accepted_by_clap, clap_rule, command_in, clap_refusals}
use Rattle.sub_words.specs.Commands.{subttx_app}
use Rattle.sub_words.specs.Commands.{texts_of}
use Rattle.sub_words.specs.declared.command.Argument.{Argument}
use Rattle.sub_words.specs.Requests.{Requested, IsExpectedFault, IsFaultOfCommand, IsReadExactly}
use Rattle.sub_words.specs.Requests.{IsReadGivenMemory}
use Rattle.sub_words.specs.Requests.{request_by_command, command_request, is_found_after_clap}
use Rattle.sub_request.specs.declared.request.Request.{Request}
use Rattle.sub_request.specs.declared.request.UsageFault.{UsageFault}
use Rattle.sub_request.specs.declared.request.UsageFault.TheVariants as fault

-- The contract of `clap` determines its matches only for a simple command. The program is a simple
-- command.
is_simple-subttx : is_simple subttx_app ≡ true
unfolding subttx_app clap_on_literals
is_simple-subttx = refl

-- The contract of `clap` determines its refusals only if no argument has a rule about another
-- argument. No argument of the program has such a rule.
is_free-subttx : is_simple_and_free subttx_app ≡ true
unfolding subttx_app clap_on_literals
is_free-subttx = refl

abbrev pub command_table_entry : Bor Text × Bor (List Argument) → Text × List Rule
command_table_entry command = (command.0.now, map clap_rule command.1.now)

pub fold_takes_next_element : {A B X : Type 0} (f : B → A → B) (of : X → A) (xs : List X) (i : ℕ)
    (d : X)
    → (b new all : B)
    → i < length xs
    → fold f b (map of (drop i xs)) ≡ all
    → new ≡ f b (of (get_or xs i d))
    → fold f new (map of (drop (i + 1) xs)) ≡ all
fold_takes_next_element f of xs i d b new all within whole e =
    ap (λ b'. fold f b' (map of (drop (i + 1) xs))) e
    ∙ sym (at_drop_more (λ rest. fold f b (map of rest)) xs i d within) ∙ whole

pub any_skips_failing_element : {X : Type 0} (test : X → Bool) (xs : List X) (i : ℕ) (d : X)
    (all : Bool)
    → i < length xs
    → test (get_or xs i d) ≡ false
    → list_any test (drop i xs) ≡ all
    → list_any test (drop (i + 1) xs) ≡ all
any_skips_failing_element test xs i d all within none whole =
    ap (λ b. b || list_any test (drop (i + 1) xs)) (sym none)
    ∙ sym (at_drop_more (list_any test) xs i d within) ∙ whole

pub fold_ends_with_the_list : {A B X : Type 0} (f : B → A → B) (of : X → A) (xs : List X) (i : ℕ)
    (b all : B)
    → length xs ≤ i
    → fold f b (map of (drop i xs)) ≡ all
    → b ≡ all
fold_ends_with_the_list f of xs i b all over whole =
    sym (at_drop_all (λ rest. fold f b (map of rest)) xs i over) ∙ whole

none-refused : (clap_refusals [] ≢ []) × (are_accepted_by_clap [] ≢ true)
unfolding clap_refusals are_accepted_by_clap subttx_app clap_on_literals
none-refused = (λ e. cc, λ e. cc)

pub no-arguments : (arguments : List (Bor (List ℕ)))
    → (length arguments == 0) ≡ true
    → IsFaultOfCommand (texts_of arguments) fault.Words
no-arguments [] none = none-refused
no-arguments (w ∷ ws) none =
    let more : 0 < length (w ∷ ws) = omega arith in absurd (grind (arith, nat_tests))

pub some-texts : (arguments : List (Bor (List ℕ)))
    → (length arguments == 0) ≡ false
    → texts_of arguments ≢ []
some-texts [] some e = cc
some-texts (w ∷ ws) some e = cc

pub some-arguments : (arguments : List (Bor (List ℕ))) → arguments ≢ [] → texts_of arguments ≢ []
some-arguments [] some e = some refl
some-arguments (w ∷ ws) some e = cc

own-fault : (requested : Result Requested UsageFault) (f : UsageFault)
    → (requested ≡ Err f) × (is_found_after_clap f ≡ true)
    → IsExpectedFault requested f
own-fault requested fault.Memory is = tt
own-fault requested f is = is

pub exact_reading_holds_with_memory : (requested : Result Requested UsageFault)
    (result : Result Request UsageFault)
    → IsReadExactly requested result
    → IsReadGivenMemory requested result
exact_reading_holds_with_memory requested (Ok r) is = is
exact_reading_holds_with_memory requested (Err f) is = own-fault requested f is

fault-read : (arguments : List Text) (requested : Result Requested UsageFault) (f : UsageFault)
    → arguments ≢ []
    → clap_refusals arguments ≡ []
    → request_by_command arguments ≡ Some requested
    → IsExpectedFault requested f
    → IsFaultOfCommand arguments f
fault-read arguments requested fault.Memory some taken is read = some
fault-read arguments requested fault.Words some taken is read = cc
fault-read arguments requested fault.Open some taken is read = cc
fault-read arguments requested f some taken is read =
    record { taken = taken; broken = is ∙ ap Some read.0 }

pub fault-of_read :
    (arguments : List Text) (requested : Result Requested UsageFault) (result : Result Request
    UsageFault)
    → arguments ≢ []
    → clap_refusals arguments ≡ []
    → request_by_command arguments ≡ Some requested
    → IsReadGivenMemory requested result
    → IfErr result (IsFaultOfCommand arguments)
fault-of_read arguments requested (Ok r) some taken is read = tt
fault-of_read arguments requested (Err f) some taken is read =
    fault-read arguments requested f some taken is read

pub command_in-parsed : (app : App) (arguments : List Text) (m : ArgMatches)
    → app ≡ subttx_app
    → HasMatchesOf app arguments m
    → subcommand_rows_of m ≡ command_in arguments
unfolding command_in
command_in-parsed app arguments m is_program has =
    let P : App → Type 0 = λ a. HasMatchesOf a arguments m in
    (subst P is_program has is_simple-subttx).1

pub has_subcommand-parsed : (c : Command) (m : ArgMatches)
    → app_of c ≡ subttx_app
    → IsParsedFrom c m
    → has_subcommand m ≡ true
unfolding subttx_app
has_subcommand-parsed c m is_program from =
    let required : (out-Command c).subcommand_required ≡ true =
    ap (λ app. app.top.subcommand_required) is_program in
    let plain : (app_of c).top.is_plain ≡ true = ap (λ app. app.top.is_plain) is_program in
    let has_no_globals : (out-Command c).has_globals ≡ false = grind (arith, and_parts, not-true) in
    (from.parsed (from.from.globals ∙ has_no_globals)).checked.subcommand
    (from.from.needs_subcommand ∙ required)

pub refusals-parsed : (app : App) (arguments : List Text) (m : ArgMatches)
    → app ≡ subttx_app
    → (is_simple_and_free app ≡ true → FailsBy {T = ArgMatches} (fault_of app arguments) (Ok m))
    → clap_refusals arguments ≡ []
unfolding clap_refusals
refusals-parsed app arguments m is_program fails =
    let P : App → Type 0 = λ a. is_simple_and_free a ≡ true → fault_of a arguments ≡ [] in
    subst P is_program fails is_free-subttx

error_kind_is_listed : (kinds : Kinds) (e : Error)
    → HasKind kinds e
    → kind_of e ≢ OutOfMemory
    → kinds ≢ []
error_kind_is_listed kinds e has other none = elim has [
  | inl memory ↦ other memory
  | inr among ↦ subst (IsAmong (kind_of e)) none among
]

-- If clap refuses the arguments of the program for a reason other than lack of memory,
-- `clap_refusals` lists a reason to refuse the arguments, and clap is not required to accept them.
pub IsFaultOfCommand-refused : (app : App) (arguments : List Text) (e : Error)
    → app ≡ subttx_app
    → (is_simple_and_free app ≡ true → FailsBy {T = ArgMatches} (fault_of app arguments) (Err e))
    → (takes app arguments ≡ true → kind_of e ≡ OutOfMemory)
    → kind_of e ≢ OutOfMemory
    → (clap_refusals arguments ≢ []) × (are_accepted_by_clap arguments ≢ true)
unfolding clap_refusals are_accepted_by_clap
IsFaultOfCommand-refused app arguments e is_program fails passes other =
    let P : App → Type 0 = λ a. is_simple_and_free a ≡ true → HasKind (fault_of a arguments) e in
    let Q : App → Type 0 = λ a. takes a arguments ≡ true → kind_of e ≡ OutOfMemory in (
      error_kind_is_listed (fault_of subttx_app arguments) e (subst P is_program fails
          is_free-subttx) other,
      λ sound. other (subst Q is_program passes sound),
    )

pub request_by_command-met : {Z : Type 0} (arguments : List Text) (met : Option (Box SubCommand Z))
    → (name : Text) (rows : List Row)
    → subcommand_rows met ≡ command_in arguments
    → Some name ≡ option_map (λ sub. (out-SubCommand (box_value sub)).name.now) met
    → Some rows ≡ option_map (λ p. p.1) (subcommand_rows met)
    → request_by_command arguments ≡ Some (command_request name rows)
request_by_command-met arguments None name rows is e f = cc
request_by_command-met arguments (Some sub) name rows is e f = rw (← is) cc

pub ruleset values = (first_value-rows, raw_values-rows)
