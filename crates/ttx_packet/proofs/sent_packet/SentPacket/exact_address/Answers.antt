-- `exact_address` returns an address exactly if both address bytes are code words.
use Rattle.std.proofs.Common.{arith}
use Rattle.ttx_packet.proofs.SentWordLemmas.{address_from_two_nibbles, two_code_words_give_address}
use Rattle.ttx_packet.proofs.SentWordLemmas.{sent_byte_is_mirrored, byte_is_code_word}
use Rattle.ttx_packet.proofs.sent_packet.SentPacket.exact_address.Goals as goal

pub returns-then-number-ge-NO_CODE_WORD : goal.returns-then-number-ge-NO_CODE_WORD
returns-then-number-ge-NO_CODE_WORD c exact =
    let at = sent_byte_is_mirrored _ _ c.self.view_is c.self.invariant in
    let low = c.look_up_sent_byte-low.ensures in
    let high = c.look_up_sent_byte-high.ensures in
    let first = low.word (λ e. low.none e (rw (at 0 (omega arith)) (exact 0 (omega arith)))) in
    let second = high.word (λ e. high.none e (rw (at 1 (omega arith)) (exact 1 (omega arith)))) in
    omega (arith, first.0, second.0, c.if-number-ge-NO_CODE_WORD.true)

pub returns-else-number-ge-NO_CODE_WORD : goal.returns-else-number-ge-NO_CODE_WORD
returns-else-number-ge-NO_CODE_WORD c =
    let small = c.if-number-ge-NO_CODE_WORD.false in
    let first = c.look_up_sent_byte-low.ensures.word (λ e. omega (arith, e, small)) in
    let second = c.look_up_sent_byte-high.ensures.word (λ e. omega (arith, e, small)) in
    let at = byte_is_code_word _ _ c.self.view_is c.self.invariant in
    let low = at 0 _ (omega arith) first in
    let high = at 1 _ (omega arith) second in (
      two_code_words_give_address c.args.self.now low.0 high.0,
      address_from_two_nibbles c.args.self.now _ _ low.1 high.1,
    )
