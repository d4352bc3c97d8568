-- Loop invariant of `subttx_command`: the program so far, with the remaining commands, is the whole
-- program.
use Rattle.std.proofs.Common.{◌≡◌, drop, map}
use Rattle.std.specs.List.{fold}
use Rattle.clap.specs.Words.{app_of}
use Rattle.sub_words.specs.Commands.{subttx_app, with_command}
use Rattle.sub_words.proofs.CommandLemmas.{command_table_entry}
use Rattle.sub_words.proofs.command.subttx_command.Given as goal

abbrev pub invariant-loop-command : goal.invariant-loop-command
invariant-loop-command l =
    fold with_command (app_of l.program)
    (map command_table_entry (drop l.command-index l.command-items))
    ≡ subttx_app
