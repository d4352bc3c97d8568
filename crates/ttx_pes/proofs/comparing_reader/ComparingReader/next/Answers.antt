-- After a comparing reader consumes a valid PES packet, its buffer holds the data field of this
-- packet.
use Rattle.std.proofs.Common.{refl}
use Rattle.ttx_pes.proofs.comparing_reader.ComparingReader.next.Goals as goal

pub returns-in-Ok-Same-clause-taken : goal.returns-in-Ok-Same-clause-taken
returns-in-Ok-Same-clause-taken g c = λ _.
    c.in-Ok-Same.ensures.taken (rw c.in-Ok-Same.field-0-is refl)

pub returns-in-Ok-Other-clause-taken : goal.returns-in-Ok-Other-clause-taken
returns-in-Ok-Other-clause-taken g c = λ _.
    c.in-Ok-Other.ensures.taken (rw c.in-Ok-Other.field-0-is refl)
