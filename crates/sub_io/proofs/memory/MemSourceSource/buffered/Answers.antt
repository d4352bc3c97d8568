-- All remaining bytes of a source over memory can be borrowed.
use Rattle.sub_io.proofs.BufferLemmas.{all_bytes_come_next}
use Rattle.sub_io.proofs.memory.MemSourceSource.buffered.Goals as goal

pub returns-clause-bytes : goal.returns-clause-bytes
returns-clause-bytes c = rw (← c.self.view_is) (all_bytes_come_next c.self.inside.rest.now)
