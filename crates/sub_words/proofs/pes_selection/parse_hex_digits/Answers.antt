-- The standard library parses one to eight hexadecimal digits as their value.
use Rattle.std.proofs.Common.{arith}
use Rattle.std.proofs.lemmas.Grind.{common_steps}
use Rattle.sub_words.specs.PesTexts.{number_of_hex_digits}
use Rattle.sub_words.proofs.TextLemmas.{read-hex_digits}
use Rattle.sub_words.proofs.pes_selection.parse_hex_digits.Goals as goal

pub returns : goal.returns
unfolding number_of_hex_digits
returns c =
    let read = read-hex_digits c.args.text.now c.from_str_radix.result (omega arith) (omega arith)
    (cc) c.from_str_radix.ensures.value in
    record { value = grind (arith, common_steps); small = grind (arith, common_steps) }
