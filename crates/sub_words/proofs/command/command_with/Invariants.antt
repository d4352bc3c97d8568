-- Loop invariant of `command_with`: the command so far, with the remaining rules, is the whole
-- command.
use Rattle.std.proofs.Common.{◌≡◌, drop, false, map}
use Rattle.std.specs.List.{fold}
use Rattle.clap.specs.Words.{app_of, with_rule}
use Rattle.clap.specs.declared.builder.command.Command.TheViews.{out-Command}
use Rattle.sub_words.specs.Commands.{clap_rule}
use Rattle.sub_words.proofs.command.command_with.Given as goal

abbrev pub invariant-loop-argument : goal.invariant-loop-argument
invariant-loop-argument l = record {
  app :
      fold with_rule (app_of l.command) (map clap_rule (drop l.argument-index l.arguments))
      ≡ fold with_rule (app_of l.initial.command) (map clap_rule l.arguments);
  has_no_globals : (out-Command l.command).has_globals ≡ false;
}
