-- `subttx_command` adds one command to the program in each iteration.
use Rattle.std.proofs.Common.{◌∙◌, ap, rules}
use Rattle.clap.specs.Words.{app_of, with_subcommand}
use Rattle.sub_words.specs.Commands.{subttx_app, with_command}
use Rattle.sub_words.proofs.CommandLemmas.{fold_ends_with_the_list, fold_takes_next_element}
use Rattle.sub_words.proofs.CommandLemmas.{command_table_entry}
use Rattle.sub_words.proofs.command.subttx_command.Goals as goal

pub loop-command-init : goal.loop-command-init
unfolding subttx_app
loop-command-init c = search rules

pub loop-command-preserved : goal.loop-command-preserved
loop-command-preserved c =
    fold_takes_next_element with_command command_table_entry _ c.loop-command.command-index
    _ _ _ _ c.loop-command-test.true
    c.loop-command.invariant
    (c.in_ok-program.ensures.shape c.in_ok-command_with.ensures.has_no_globals
    ∙ ap (λ app. with_subcommand (app_of c.loop-command.program) app.top)
    c.in_ok-command_with.ensures.app)

pub returns : goal.returns
returns c =
    fold_ends_with_the_list with_command command_table_entry _ c.loop-command.command-index
    _ _ c.loop-command-test.false
    c.loop-command.invariant
