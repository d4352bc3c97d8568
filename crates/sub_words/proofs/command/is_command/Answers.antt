-- If a command has another name, the result of `is_command` depends only on the commands after it.
use Rattle.std.proofs.Common.{◌∙◌, sym}
use Rattle.std.specs.Str.{bytes_eq}
use Rattle.sub_words.proofs.CommandLemmas.{any_skips_failing_element}
use Rattle.sub_words.proofs.command.is_command.Goals as goal

pub loop-command-preserved : goal.loop-command-preserved
loop-command-preserved c =
    any_skips_failing_element (λ command. bytes_eq c.args.word.now command.0.now)
    _ c.loop-command.command-index _ _
    c.loop-command-test.true (sym c.eq.ensures ∙ c.if-eq.false) c.loop-command.invariant
