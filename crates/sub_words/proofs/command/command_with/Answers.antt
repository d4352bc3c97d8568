-- `command_with` adds one rule to the command in each iteration.
use Rattle.std.proofs.Common.{◌∙◌, ap, refl}
use Rattle.clap.specs.Words.{app_of, with_rule}
use Rattle.sub_words.specs.Commands.{clap_rule}
use Rattle.sub_words.proofs.CommandLemmas.{fold_takes_next_element}
use Rattle.sub_words.proofs.command.command_with.Goals as goal

pub loop-argument-preserved : goal.loop-argument-preserved
loop-argument-preserved c =
    let more = c.in_ok-command.ensures in
    let rule = c.clap_argument.ensures in
    record {
      app = fold_takes_next_element with_rule clap_rule _ c.loop-argument.argument-index _ _ _ _
          c.loop-argument-test.true c.loop-argument.invariant.app
          (more.shape rule.has_no_globals ∙ ap (with_rule (app_of c.loop-argument.command))
          rule.rule);
      has_no_globals = rw (
        more.globals,
        c.loop-argument.invariant.has_no_globals,
        rule.has_no_globals,
      ) refl;
    }
