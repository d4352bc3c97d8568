-- `give_next` passes the next pending item, the first of the pending bytes, to the receiver.
use Rattle.ts_survey.proofs.pid_packets.give_next.Goals as goal

pub returns : goal.returns
returns g c =
    let first = c.take_next_or_rest-next.ensures.first in
    record {
      next_part = c.taken.result.now;
      joined = rw c.taken.ensures first.0;
      same = first.1;
      some = rw c.taken.ensures first.2;
      taken = c.take.ensures;
    }
