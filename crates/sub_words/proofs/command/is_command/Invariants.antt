-- Loop invariant of `is_command`: no command so far has the name, so the result depends only on the
-- other commands.
use Rattle.std.proofs.Common.{◌≡◌, drop}
use Rattle.std.specs.List.{list_any}
use Rattle.std.specs.Str.{bytes_eq}
use Rattle.sub_words.specs.Commands.{commands}
use Rattle.sub_words.proofs.command.is_command.Given as goal

abbrev pub invariant-loop-command : goal.invariant-loop-command
invariant-loop-command l =
    list_any (λ command. bytes_eq l.word command.0.now) (drop l.command-index l.command-items)
    ≡ list_any (λ command. bytes_eq l.word command.0) commands
