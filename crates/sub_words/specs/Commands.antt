-- The commands of the program, as rules for `clap`.
use Rattle.std.specs.Prelude.{ℕ, Bool, true, List, [], ◌∷◌, Option, Some, codes, map}
use Rattle.std.specs.Borrow.{Bor}
use Rattle.std.specs.List.{fold, list_any}
use Rattle.std.specs.Str.{bytes_eq}
use Rattle.clap.specs.Kinds.{Kinds}
use Rattle.clap.specs.Words.{App, Row, Rule, Text, fault_of, new_app, new_rule, subcommand_of}
use Rattle.clap.specs.Words.{takes, with_rule, with_subcommand}
use Rattle.clap.specs.declared.builder.action.ArgAction.TheVariants.{Append, SetTrue}
use Rattle.sub_words.specs.declared.command.Argument.{Argument}
use Rattle.sub_words.specs.declared.command.Argument.TheVariants as argument

-- The rule of a required argument.
abbrev pub required_rule : Text → Rule
required_rule id = record (new_rule id) { required = true }

-- The rule of an option `--name TEXT` with a default.
abbrev pub option_rule : Text → Text → Rule
option_rule id value = record (new_rule id) { long = Some id; defaults = value ∷ [] }

-- The rule of an option `--name TEXT` with a default that may be given more than once.
abbrev pub repeatable_option_rule : Text → Text → Rule
repeatable_option_rule id value = record (option_rule id value) { action = Some Append }

-- The rule of an optional option without a default.
abbrev pub bare_option_rule : Text → Rule
bare_option_rule id = record (new_rule id) { long = Some id }

-- The rule of a required option.
abbrev pub required_option_rule : Text → Rule
required_option_rule id = record (new_rule id) { long = Some id; required = true }

-- The rule of a flag `--name`.
abbrev pub flag_rule : Text → Rule
flag_rule id = record (new_rule id) { long = Some id; action = Some SetTrue }

-- The rule of an argument in the program's table of commands.
abbrev pub clap_rule : Argument → Rule
clap_rule (argument.Required id) = required_rule id.now
clap_rule (argument.RequiredOption id) = required_option_rule id.now
clap_rule (argument.Option id value) = option_rule id.now value.now
clap_rule (argument.RepeatableOption id value) = repeatable_option_rule id.now value.now
clap_rule (argument.BareOption id) = bare_option_rule id.now
clap_rule (argument.Flag id) = flag_rule id.now

-- The rules of the arguments that `schedule` and `check` share, given the name of the second file,
-- followed by the command's other rules.
abbrev pub pair_rules : Text → List Rule → List Rule
pair_rules second others =
    required_rule (codes "stl") ∷ required_rule second
    ∷ option_rule (codes "page") (codes "888") ∷ option_rule (codes "origin") (codes "0")
    ∷ option_rule (codes "every") (codes "250") ∷ option_rule (codes "option") (codes "english")
    ∷ bare_option_rule (codes "layout") ∷ bare_option_rule (codes "from")
    ∷ bare_option_rule (codes "to") ∷ flag_rule (codes "open") ∷ others

-- The rule of `[--packet-size S]`, 188 by default.
abbrev pub packet_size_rule : Rule
packet_size_rule = option_rule (codes "packet-size") (codes "188")

-- The rules of `[--pid P] [--packet-size S] [--pes I-J]`, followed by other rules. Since `pes` is
-- an option here, the file to read has the name `recording`.
abbrev pub recording_rules : List Rule → List Rule
recording_rules others =
    bare_option_rule (codes "pid") ∷ packet_size_rule ∷ bare_option_rule (codes "pes") ∷ others

-- The rule of `[--within N]`, 0 by default.
abbrev pub within_rule : Rule
within_rule = option_rule (codes "within") (codes "0")

-- The rule of `[--pace K]`, without a default.
abbrev pub pace_rule : Rule
pace_rule = bare_option_rule (codes "pace")

-- The table of commands, each with the rules of its arguments.
abbrev pub commands : List (Text × List Rule)
commands =
    -- The command `packet HEX`.
    (codes "packet", required_rule (codes "hex") ∷ [])
    -- The command `packets PES [--pid P] [--packet-size S] [--pes I-J]`.
    ∷ (codes "packets", required_rule (codes "recording") ∷ recording_rules [])
    -- The command `show STL`.
    ∷ (codes "show", required_rule (codes "stl") ∷ [])
    -- The command `normal IN OUT`.
    ∷ (codes "normal", required_rule (codes "in") ∷ required_rule (codes "out") ∷ [])
    -- The command `schedule STL PES [--page P] [--origin T] [--every N] [--option O] [--layout
    -- TEXT] [--from TIME] [--to TIME] [--open] [--serial]`.
    ∷ (codes "schedule", pair_rules (codes "pes") (flag_rule (codes "serial") ∷ []))
    -- The command `check STL PES [--page P] [--origin T] [--every N] [--option O] [--layout TEXT]
    -- [--from TIME] [--to TIME] [--open] [--within N] [--pid P] [--packet-size S] [--pes I-J]
    -- [--pace K] [--keeping] [--complete] [--all]`.
    ∷ (
      codes "check",
      pair_rules (codes "recording") (within_rule
          ∷ recording_rules (pace_rule ∷ flag_rule (codes "keeping") ∷ flag_rule (codes "complete")
          ∷ flag_rule (codes "all") ∷ [])),
    )
    -- The command `listen PES [--page P] [--origin T] [--within N] [--pid P] [--packet-size S]
    -- [--pes I-J] --at TIME [--skip N] [--flip F] [--lose L] [--receiver R] [--complete]`.
    ∷ (
      codes "listen",
      required_rule (codes "recording") ∷ option_rule (codes "page") (codes "888")
          ∷ option_rule (codes "origin") (codes "0") ∷ within_rule
          ∷ recording_rules (required_option_rule (codes "at")
          ∷ option_rule (codes "skip") (codes "0") ∷ bare_option_rule (codes "flip")
          ∷ bare_option_rule (codes "lose") ∷ option_rule (codes "receiver") (codes "blank")
          ∷ flag_rule (codes "complete") ∷ []),
    )
    -- The command `extract TS PES --pid P [--packet-size S]`.
    ∷ (
      codes "extract",
      required_rule (codes "recording") ∷ required_rule (codes "pes")
          ∷ required_option_rule (codes "pid") ∷ packet_size_rule ∷ [],
    )
    -- The command `survey RECORDING [--page P].. [--pid P] [--packet-size S]`.
    ∷ (
      codes "survey",
      required_rule (codes "recording") ∷ repeatable_option_rule (codes "page") (codes "888")
          ∷ bare_option_rule (codes "pid") ∷ bare_option_rule (codes "packet-size") ∷ [],
    )
    ∷ []

-- The word is the name of a command.
unfoldable pub is_command : Text → Bool
is_command word = list_any (λ command. bytes_eq word command.0) commands

-- The program after adding one command.
abbrev pub with_command : App → Text × List Rule → App
with_command app command =
    with_subcommand app (fold with_rule (new_app command.0) command.1).top

-- The program with all its commands. `clap` must require a command, and must handle neither help
-- nor version itself.
unfoldable pub subttx_app : App
subttx_app = let plain = new_app (codes "subttx") in fold with_command (record plain {
  top = record plain.top {
    disable_help_flag = true;
    disable_help_subcommand = true;
    disable_version_flag = true;
    subcommand_required = true;
  };
}) commands

-- The kinds of errors with which `clap` refuses the arguments; none if `clap` accepts them.
unfoldable pub clap_refusals : List Text → Kinds
clap_refusals arguments = fault_of subttx_app arguments

-- The command that the arguments name, with the values of its arguments as rows.
unfoldable pub command_in : List Text → Option (Text × List Row)
command_in arguments = subcommand_of subttx_app arguments

-- `clap` can refuse the arguments only if memory runs out.
unfoldable pub are_accepted_by_clap : List Text → Bool
are_accepted_by_clap arguments = takes subttx_app arguments

-- The texts of the arguments of the command line.
abbrev pub texts_of : List (Bor (List ℕ)) → List Text
texts_of = map (λ word. word.now)
