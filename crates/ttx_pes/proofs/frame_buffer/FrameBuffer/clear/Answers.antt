-- After `clear`, no PES packet is stored.
use Rattle.ttx_pes.proofs.FrameBufferLemmas.{empty_buffer_holds_no_packet}
use Rattle.ttx_pes.proofs.frame_buffer.FrameBuffer.clear.Goals as goal

pub invariant_of-self : goal.invariant_of-self
invariant_of-self c = rw c.clear.ensures empty_buffer_holds_no_packet
