use Rattle.std.proofs.Common.{rules}
use Rattle.ttx_packet.proofs.SentWordLemmas.{two_code_words_give_address}
use Rattle.ttx_packet.proofs.packet.Packet.is_clean_address.Goals as goal

pub returns-then-is_word : goal.returns-then-is_word
returns-then-is_word c = search (rules, two_code_words_give_address)
