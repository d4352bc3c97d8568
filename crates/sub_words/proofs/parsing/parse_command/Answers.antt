-- `parse_command` returns the request that the command and its arguments ask for, or a fault; it
-- returns a fault if there are no arguments.
use Rattle.std.proofs.Common.{rules}
use Rattle.clap.specs.Words.{found_of, rows_of}
use Rattle.clap.specs.declared.parser.matches.ArgMatches.TheViews.{out-ArgMatches}
use Rattle.sub_words.specs.Commands.{texts_of}
use Rattle.sub_words.proofs.CommandLemmas.{request_by_command-met, fault-of_read, no-arguments}
use Rattle.sub_words.proofs.CommandLemmas.{some-texts}
use Rattle.sub_words.proofs.parsing.parse_command.Goals as goal

pub returns-in-Some : goal.returns-in-Some
returns-in-Some c =
    let requested = request_by_command-met (texts_of c.args.arguments.now)
    (out-ArgMatches c.in_ok-matches.matches).subcommand c.in-Some.name.now
    (rows_of (found_of c.in-Some.sub_matches.now)) c.in_ok-matches.ensures.command
    (rw c.in-Some.is at c.subcommand.ensures.name) (rw c.in-Some.is at c.subcommand.ensures.rows) in
    record {
      request = search rules;
      fault = fault-of_read _ _ _ (some-texts _ (search rules)) c.in_ok-matches.ensures.taken
          requested
          c.read_command.ensures;
    }

pub returns-then-is_empty-clause-fault : goal.returns-then-is_empty-clause-fault
returns-then-is_empty-clause-fault c = no-arguments _ (search rules)
