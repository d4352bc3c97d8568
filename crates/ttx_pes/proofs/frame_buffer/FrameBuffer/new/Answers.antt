-- A new frame buffer stores no PES packet.
use Rattle.ttx_pes.proofs.FrameBufferLemmas.{empty_buffer_holds_no_packet}
use Rattle.ttx_pes.proofs.frame_buffer.FrameBuffer.new.Goals as goal

pub invariant_of-result : goal.invariant_of-result
invariant_of-result c = rw c.new.ensures empty_buffer_holds_no_packet
