-- Each iteration of `give_ready` passes one pending item to the receiver. The bytes passed on so
-- far and the bytes still pending are together the bytes that were pending at the start.
use Rattle.ts_survey.proofs.FollowingLemmas.{first-taken, same-rest}
use Rattle.ts_survey.proofs.pid_packets.give_ready.Goals as goal

pub items-preserved : goal.items-preserved
items-preserved g c = record {
  same = same-rest c.args.joining.now c.items.joining c.give_next.new.joining _
      c.items.invariant.same c.give_next.ensures.same;
  taken = λ new rest. c.items.invariant.taken new
      (first-taken g.T.TakesPesPackets.is_taken _ _ _ _ new c.give_next.ensures rest);
}
