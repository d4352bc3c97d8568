-- clap returns exactly the matches that the definition of the command line determines.
use Rattle.std.proofs.Common.{◌∙◌}
use Rattle.sub_words.specs.Commands.{texts_of}
use Rattle.sub_words.proofs.CommandLemmas.{IsFaultOfCommand-refused, command_in-parsed}
use Rattle.sub_words.proofs.CommandLemmas.{has_subcommand-parsed, refusals-parsed, some-arguments}
use Rattle.sub_words.proofs.parsing.parse_matches.Goals as goal

pub returns-in-Ok-try_get_matches_from : goal.returns-in-Ok-try_get_matches_from
returns-in-Ok-try_get_matches_from c =
    let arguments = texts_of c.args.arguments.now in
    let given = c.in-Ok-try_get_matches_from.ensures in
    record {
      command = command_in-parsed _ arguments _ c.in-Ok.ensures given.matches;
      there = has_subcommand-parsed _ _ c.in-Ok.ensures given.parsed;
      taken = refusals-parsed _ arguments c.in-Ok-try_get_matches_from.matches c.in-Ok.ensures
          given.kinds;
      fault = tt;
    }

pub returns-clause-fault : goal.returns-clause-fault
returns-clause-fault c =
    IsFaultOfCommand-refused _ (texts_of c.args.arguments.now) c.in-Err.error c.in-Ok.ensures
    c.in-Err.ensures.kinds c.in-Err.ensures.passes
    (λ memory. c.in_default-kind.not-OutOfMemory (c.kind.ensures ∙ memory))

pub returns-in-OutOfMemory-clause-fault : goal.returns-in-OutOfMemory-clause-fault
returns-in-OutOfMemory-clause-fault c = some-arguments _ c.requires
