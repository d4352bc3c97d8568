use Rattle.std.proofs.Common.{refl, arith}
use Rattle.sub_packets.proofs.ListenerLemmas.{state_of_no_packets}
use Rattle.sub_packets.proofs.listener.Listener.new.Goals as goal

pub returns-clause-knows : goal.returns-clause-knows
returns-clause-knows c last = record {
  knows = state_of_no_packets _ refl refl refl refl refl (grind arith);
  last_is = λ headers e. cc;
  started_eq = λ headers e. cc;
}
