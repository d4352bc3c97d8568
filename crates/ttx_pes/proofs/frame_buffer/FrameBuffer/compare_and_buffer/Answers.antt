-- A valid PES packet with another data field replaces the stored packet; a fault removes it.
use Rattle.std.proofs.Common.{◌∙◌, Bool, false, Ok, Result, arith, subst, sym}
use Rattle.std.proofs.lemmas.Bool.{true≢false}
use Rattle.ttx_pes.specs.Accepting.{BuffersPesPacket, FrameBufferValue}
use Rattle.ttx_pes.specs.declared.fault.PesFault.{PesFault}
use Rattle.ttx_pes.proofs.FrameBufferLemmas.{new_packet_is_kept, frame_buffer_value_in}
use Rattle.ttx_pes.proofs.FrameBufferLemmas.{empty_buffer_holds_no_packet}
use Rattle.ttx_pes.proofs.FrameBufferLemmas.{new_packet_changes_data_field}
use Rattle.ttx_pes.proofs.frame_buffer.FrameBuffer.compare_and_buffer.Goals as goal

pub invariant_of-self-in-Ok-false : goal.invariant_of-self-in-Ok-false
invariant_of-self-in-Ok-false c =
    let size = c.pes_packet_body.ensures.size in
    rw (new_packet_changes_data_field c.take.new.self c.put_in_buffer.new.room c.args.pes_packet.now
    c.pes_packet_body.result.now c.pes_packet_body.ensures.value c.put_in_buffer.ensures
    c.in-Ok-false.ensures.count size
    (omega (arith, size, c.pes_packet_body.ensures.short, c.put_in_buffer.array_long)))
    c.in-Ok-false.ensures.known

pub invariant_of-self-in-Err : goal.invariant_of-self-in-Err
invariant_of-self-in-Err c = rw c.clear.ensures empty_buffer_holds_no_packet

pub returns-in-Ok-false : goal.returns-in-Ok-false
returns-in-Ok-false c =
    let size = c.pes_packet_body.ensures.size in
    let same = c.in-Ok-false.ensures.same in
    let there = new_packet_changes_data_field c.take.new.self c.put_in_buffer.new.room
    c.args.pes_packet.now
    c.pes_packet_body.result.now c.pes_packet_body.ensures.value c.put_in_buffer.ensures
    c.in-Ok-false.ensures.count size
    (omega (arith, size, c.pes_packet_body.ensures.short, c.put_in_buffer.array_long)) in
    subst (λ (k : FrameBufferValue). BuffersPesPacket k c.args.pes_packet.now
    (let r : Result Bool PesFault = Ok false in r)
    (frame_buffer_value_in c.take.new.self c.put_in_buffer.new.room)) c.self.view_is
    (new_packet_is_kept c.self.inside.known c.take.new.self c.self.inside.room
    c.put_in_buffer.new.room
    c.args.pes_packet.now c.pes_packet_body.result.now c.pes_packet_body.ensures.value
    c.in-Ok-false.ensures.value
    (λ e. true≢false (sym (same.1 e) ∙ c.in-Ok-false.field-0-test)) there)
