-- A byte is a code word exactly if its entry in the decoding table is below 16.
use Rattle.std.proofs.Common.{rules, ltb-true}
use Rattle.std.proofs.lemmas.Bool.{lt-ltb}
use Rattle.ttx_packet.proofs.Hamming84Lemmas.{code_word_entry_is_small, small_entry_is_code_word}
use Rattle.ttx_packet.proofs.hamming.is_word.Goals as goal

pub returns : goal.returns
returns c = search (rules, small_entry_is_code_word, ltb-true, lt-ltb, code_word_entry_is_small)
