-- `exact_header` returns a header exactly if all eight coded bytes are code words.
use Rattle.std.proofs.Common.{arith}
use Rattle.ttx_packet.proofs.SentWordLemmas.{header_from_eight_nibbles}
use Rattle.ttx_packet.proofs.SentWordLemmas.{eight_code_words_give_header}
use Rattle.ttx_packet.proofs.SentWordLemmas.{byte_is_no_code_word}
use Rattle.ttx_packet.proofs.SentWordLemmas.{byte_is_code_word}
use Rattle.ttx_packet.proofs.sent_packet.SentPacket.exact_header.Goals as goal

pub returns-in_err-units : goal.returns-in_err-units
returns-in_err-units c =
    rw c.from_residual.ensures (λ exact.
    byte_is_no_code_word _ _ c.self.view_is c.self.invariant 2 (omega arith) c.in_err-units.ensures
    (exact 2 (omega arith) (omega arith)))

pub returns-in_err-tens : goal.returns-in_err-tens
returns-in_err-tens c =
    rw c.from_residual-in_err-tens.ensures (λ exact.
    byte_is_no_code_word _ _ c.self.view_is c.self.invariant 3 (omega arith) c.in_err-tens.ensures
    (exact 3 (omega arith) (omega arith)))

pub returns-in_err-s1 : goal.returns-in_err-s1
returns-in_err-s1 c =
    rw c.from_residual-in_err-s1.ensures (λ exact.
    byte_is_no_code_word _ _ c.self.view_is c.self.invariant 4 (omega arith) c.in_err-s1.ensures
    (exact 4 (omega arith) (omega arith)))

pub returns-in_err-s2_c4 : goal.returns-in_err-s2_c4
returns-in_err-s2_c4 c =
    rw c.from_residual-in_err-s2_c4.ensures (λ exact.
    byte_is_no_code_word _ _ c.self.view_is c.self.invariant 5 (omega arith) c.in_err-s2_c4.ensures
    (exact 5 (omega arith) (omega arith)))

pub returns-in_err-s3 : goal.returns-in_err-s3
returns-in_err-s3 c =
    rw c.from_residual-in_err-s3.ensures (λ exact.
    byte_is_no_code_word _ _ c.self.view_is c.self.invariant 6 (omega arith) c.in_err-s3.ensures
    (exact 6 (omega arith) (omega arith)))

pub returns-in_err-s4_c6 : goal.returns-in_err-s4_c6
returns-in_err-s4_c6 c =
    rw c.from_residual-in_err-s4_c6.ensures (λ exact.
    byte_is_no_code_word _ _ c.self.view_is c.self.invariant 7 (omega arith) c.in_err-s4_c6.ensures
    (exact 7 (omega arith) (omega arith)))

pub returns-in_err-c7_c10 : goal.returns-in_err-c7_c10
returns-in_err-c7_c10 c =
    rw c.from_residual-in_err-c7_c10.ensures (λ exact.
    byte_is_no_code_word _ _ c.self.view_is c.self.invariant 8 (omega arith) c.in_err-c7_c10.ensures
    (exact 8 (omega arith) (omega arith)))

pub returns-in_err-c11_c14 : goal.returns-in_err-c11_c14
returns-in_err-c11_c14 c =
    rw c.from_residual-in_err-c11_c14.ensures (λ exact.
    byte_is_no_code_word _ _ c.self.view_is c.self.invariant 9 (omega arith)
    c.in_err-c11_c14.ensures
    (exact 9 (omega arith) (omega arith)))

pub returns : goal.returns
returns c =
    let at = byte_is_code_word _ _ c.self.view_is c.self.invariant in
    let units = at 2 c.in_ok-units.units (omega arith) c.in_ok-units.ensures in
    let tens = at 3 c.in_ok-tens.tens (omega arith) c.in_ok-tens.ensures in
    let s1 = at 4 c.in_ok-s1.s1 (omega arith) c.in_ok-s1.ensures in
    let s2_c4 = at 5 c.in_ok-s2_c4.s2_c4 (omega arith) c.in_ok-s2_c4.ensures in
    let s3 = at 6 c.in_ok-s3.s3 (omega arith) c.in_ok-s3.ensures in
    let s4_c6 = at 7 c.in_ok-s4_c6.s4_c6 (omega arith) c.in_ok-s4_c6.ensures in
    let c7_c10 = at 8 c.in_ok-c7_c10.c7_c10 (omega arith) c.in_ok-c7_c10.ensures in
    let c11_c14 = at 9 c.in_ok-c11_c14.c11_c14 (omega arith) c.in_ok-c11_c14.ensures in (
      eight_code_words_give_header c.args.self.now units.0 tens.0 s1.0 s2_c4.0 s3.0 s4_c6.0 c7_c10.0
          c11_c14.0,
      header_from_eight_nibbles c.args.self.now _ _ _ _ _ _ _ _ c.header_from_numbers.result units.1
          tens.1 s1.1
          s2_c4.1 s3.1 s4_c6.1 c7_c10.1 c11_c14.1 c.header_from_numbers.ensures.page
          c.header_from_numbers.ensures.subcode c.header_from_numbers.ensures.control,
    )
