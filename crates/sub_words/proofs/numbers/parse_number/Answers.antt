-- The standard library parses one to ten digits as their value.
use Rattle.std.proofs.Common.{arith}
use Rattle.std.proofs.lemmas.Grind.{common_steps}
use Rattle.sub_words.specs.Texts.{number_of_text}
use Rattle.sub_words.proofs.TextLemmas.{parse-digits}
use Rattle.sub_words.proofs.numbers.parse_number.Goals as goal

pub returns : goal.returns
unfolding number_of_text
returns c =
    let read = parse-digits c.args.text.now c.parse.result (omega arith) (omega arith)
    (cc) c.parse.ensures.value.0 in
    record { value = grind (arith, common_steps); small = grind (arith, common_steps) }
