-- If flushing a buffered sink fails, the unwritten bytes stay in the buffer.
use Rattle.std.proofs.Common.{rules}
use Rattle.sub_io.proofs.BufferLemmas.{buffered-parts, buffered-moved}
use Rattle.sub_io.proofs.buffered_sink.BufferedSinkFlush.flush.Goals as goal

pub returns-in-Err-clause-left : goal.returns-in-Err-clause-left
returns-in-Err-clause-left g c =
    let here = c.self.inside in
    rw (← c.self.view_is) (
      _,
      buffered-parts _ here.room.now _ c.in-Err.taken here.len
          (search rules) (search rules) (search rules) (search rules),
    )

pub returns-in-Err-clause-bytes : goal.returns-in-Err-clause-bytes
returns-in-Err-clause-bytes g c =
    let here = c.self.inside in
    rw (← c.self.view_is)
    (buffered-moved _ _ _ here.room.now _ c.in-Err.taken here.len
    (search rules) (search rules) (search rules) (search rules) (search rules))
