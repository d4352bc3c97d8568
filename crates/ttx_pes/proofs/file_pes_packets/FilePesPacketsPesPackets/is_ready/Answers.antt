-- If a prefix of the borrowed bytes suffices to read the next PES packet, so do all borrowed bytes.
use Rattle.std.proofs.Common.{◌∙◌, sym}
use Rattle.ttx_pes.proofs.BorrowedPacketLemmas.{borrowed_bytes_are_enough}
use Rattle.ttx_pes.proofs.PesPacketBufferLemmas.{enough_bytes_are_borrowed}
use Rattle.ttx_pes.proofs.file_pes_packets.FilePesPacketsPesPackets.is_ready.Goals as goal

pub returns-then-is_empty : goal.returns-then-is_empty
returns-then-is_empty g c = λ yes.
    enough_bytes_are_borrowed _ _ (c.is_empty.ensures c.if-is_empty.true)
    (borrowed_bytes_are_enough _ _ c.buffered.ensures.borrowed (sym c.has_enough_for_packet.ensures
    ∙ yes))
