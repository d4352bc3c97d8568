-- The table entry of a byte is the number of its code word, or 256 if the byte is no code word.
use Rattle.std.proofs.Common.{arith}
use Rattle.ttx_packet.proofs.SentWordLemmas.{sent_entry_is_bounded, missing_entry_no_code_word}
use Rattle.ttx_packet.proofs.SentWordLemmas.{sent_code_word_decodes}
use Rattle.ttx_packet.proofs.sent_packet.look_up_sent_byte.Goals as goal

pub returns-clause-small : goal.returns-clause-small
returns-clause-small c = sent_entry_is_bounded c.args.byte (omega arith)

pub returns-clause-none : goal.returns-clause-none
returns-clause-none c none = missing_entry_no_code_word c.args.byte (omega arith) none

pub returns-clause-word : goal.returns-clause-word
returns-clause-word c some = sent_code_word_decodes c.args.byte (omega arith) some
