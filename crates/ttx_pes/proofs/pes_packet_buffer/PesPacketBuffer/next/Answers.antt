-- For each result of `next`, the buffer and the answer of the packet's receiver are as specified.
use Rattle.std.proofs.Common.{List, [], ℕ, arith, refl, rules, subst, sym, take}
use Rattle.std.specs.Io.KnownBytes.{Consumes, prepend_known}
use Rattle.ttx_pes.proofs.DataUnitLemmas.{AreBytes-take}
use Rattle.ttx_pes.proofs.PesPacketLemmas.{stated_size_gives_pes_packet}
use Rattle.ttx_pes.specs.PesPackets.{IsPesPacket}
use Rattle.ttx_pes.proofs.PesPacketBufferLemmas.{rest_at_end_is_faulty}
use Rattle.ttx_pes.proofs.PesPacketBufferLemmas.{failed_read_leaves_faulty_rest}
use Rattle.ttx_pes.proofs.PesPacketBufferLemmas.{rest_answer_is_faulty}
use Rattle.ttx_pes.proofs.PesPacketBufferLemmas.{empty_rest_is_faulty, received_packet_is_complete}
use Rattle.ttx_pes.proofs.PesPacketBufferLemmas.{complete_packet_is_consumed}
use Rattle.ttx_pes.proofs.pes_packet_buffer.PesPacketBuffer.next.Goals as goal

pub invariant_of-self : goal.invariant_of-self
invariant_of-self g c = (
  c.read_pes_packet-len.ensures.most,
  rest_at_end_is_faulty _ _ _ _ c.read_pes_packet-len.ensures.reads (search rules),
)

pub invariant_of-self-in-Ok-Rest : goal.invariant_of-self-in-Ok-Rest
invariant_of-self-in-Ok-Rest g c = (
  c.read_pes_packet-len.ensures.most,
  rest_answer_is_faulty _ _ _ _ c.read_pes_packet-len.ensures.reads c.in-Ok-Rest.fault
      (search rules),
)

pub invariant_of-self-in-Err : goal.invariant_of-self-in-Err
invariant_of-self-in-Err g c = (
  c.read_pes_packet-len.ensures.most,
  failed_read_leaves_faulty_rest _ _ _ _ c.read_pes_packet-len.ensures.reads c.in-Err.failed
      (search rules),
)

pub take-answer-requires : goal.take-answer-requires
take-answer-requires g c =
    let b = take c.read_pes_packet-len.result.0 c.read_pes_packet-len.new.room in
    let whole = received_packet_is_complete _ _ b _ c.read_pes_packet-len.ensures.reads
    c.in-Ok-PesPacket.field-0-0
    (search rules) in
    subst IsPesPacket (sym c.first_bytes-pes_packet.ensures.value)
    (stated_size_gives_pes_packet b
    (AreBytes-take _ _ c.first_bytes-pes_packet.ensures.bytes) whole.0 whole.1)

pub invariant_of-self-in-Ok-PesPacket : goal.invariant_of-self-in-Ok-PesPacket
invariant_of-self-in-Ok-PesPacket g c = (omega arith, empty_rest_is_faulty [] refl)

pub returns-in-Ok-PesPacket-clause-received : goal.returns-in-Ok-PesPacket-clause-received
returns-in-Ok-PesPacket-clause-received g c =
    let b = take c.read_pes_packet-len.result.0 c.read_pes_packet-len.new.room in
    let whole = received_packet_is_complete _ _ b _ c.read_pes_packet-len.ensures.reads
    c.in-Ok-PesPacket.field-0-0
    (search rules) in
    let old = g.S.Source.remaining c.args.source.now in
    let new = g.S.Source.remaining c.read_pes_packet-len.new.source in
    let taken = subst (λ (h : List ℕ). Consumes (prepend_known h old) new b) c.self.view_is
    c.read_pes_packet-len.ensures.reads.consumed in (
      complete_packet_is_consumed g.T.TakePesPacket.is_take c.args.taker.now c.args.self.now b old
          new
          c.take-answer.result c.take-answer.new.self taken whole
          (AreBytes-take _ _ c.first_bytes-pes_packet.ensures.bytes)
          (subst (λ (p : List ℕ). g.T.TakePesPacket.is_take c.args.taker.now p c.take-answer.result
          c.take-answer.new.self) c.first_bytes-pes_packet.ensures.value
          c.take-answer.ensures),
      refl,
    )
