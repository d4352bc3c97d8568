use Rattle.std.proofs.Common.{◌≡◌, length}
use Rattle.ts_survey.proofs.FollowingLemmas.{CompletesReceivedBytes}
use Rattle.ts_survey.proofs.pid_packets.give_ready.Given as goal

abbrev pub invariant-items : goal.invariant-items
invariant-items g l = record {
  same : l.joining ≡ record l.fn.joining { pending = l.joining.pending };
  taken : CompletesReceivedBytes g.T.TakesPesPackets.is_taken l.fn.to l.fn.joining.pending l.to
      l.joining.pending;
}

abbrev pub decreases-items : goal.decreases-items
decreases-items g l = length l.joining.pending
