-- If the buffer is empty, a pull of at least the buffer's size is a pull of the inner source.
use Rattle.std.proofs.Common.{rules}
use Rattle.sub_io.proofs.BufferLemmas.{Pulls-past}
use Rattle.sub_io.proofs.buffered_source.BufferedSourceSource.pull.Goals as goal

pub returns-then-to-self-clause-bytes : goal.returns-then-to-self-clause-bytes
returns-then-to-self-clause-bytes g c = rw (← c.self.view_is)
    (Pulls-past _ _ _ _ _ _ (search rules) (search rules) c.pull.ensures.bytes)
