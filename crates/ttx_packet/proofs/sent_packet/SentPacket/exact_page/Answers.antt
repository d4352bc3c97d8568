-- `exact_page` returns a page number exactly if both bytes of the page number are code words.
use Rattle.std.proofs.Common.{arith}
use Rattle.ttx_packet.proofs.SentWordLemmas.{page_from_two_nibbles, byte_is_no_code_word}
use Rattle.ttx_packet.proofs.SentWordLemmas.{byte_is_code_word}
use Rattle.ttx_packet.proofs.sent_packet.SentPacket.exact_page.Goals as goal

pub returns-in_err-units : goal.returns-in_err-units
returns-in_err-units c =
    rw c.from_residual.ensures (λ exact.
    byte_is_no_code_word _ _ c.self.view_is c.self.invariant 2 (omega arith) c.in_err-units.ensures
    exact.0)

pub returns-in_err-tens : goal.returns-in_err-tens
returns-in_err-tens c =
    rw c.from_residual-in_err-tens.ensures (λ exact.
    byte_is_no_code_word _ _ c.self.view_is c.self.invariant 3 (omega arith) c.in_err-tens.ensures
    exact.1)

pub returns : goal.returns
returns c =
    let at = byte_is_code_word _ _ c.self.view_is c.self.invariant in
    let units = at 2 c.in_ok-units.units (omega arith) c.in_ok-units.ensures in
    let tens = at 3 c.in_ok-tens.tens (omega arith) c.in_ok-tens.ensures in (
      (units.0, tens.0),
      page_from_two_nibbles c.args.self.now _ _ units.1 tens.1,
    )
