-- The remaining bytes of a buffered source begin with its buffered bytes.
use Rattle.std.proofs.Common.{slice_range}
use Rattle.sub_io.proofs.BufferLemmas.{buffered_bytes_come_next}
use Rattle.sub_io.proofs.buffered_source.BufferedSourceSource.buffered.Goals as goal

pub returns-clause-bytes : goal.returns-clause-bytes
returns-clause-bytes g c =
    let here = c.self.inside in
    rw (← c.self.view_is)
    (buffered_bytes_come_next (slice_range here.room.now here.start here.end)
    (g.S.Source.remaining here.inner))
