-- After each iteration of `texts_of`, the texts so far, followed by the texts of the remaining
-- arguments, are the texts of all arguments.
use Rattle.std.proofs.Common.{◌≡◌, ◌++◌, drop, map, string_bytes}
use Rattle.sub_words.specs.Commands.{texts_of}
use Rattle.subttx.proofs.arguments.texts_of.Given as goal

abbrev pub invariant-loop-word : goal.invariant-loop-word
invariant-loop-word l =
    texts_of l.texts.items ++ map (λ word. string_bytes word) (drop l.word-index l.arguments)
    ≡ map (λ word. string_bytes word) l.arguments
