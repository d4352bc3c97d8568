use Rattle.sub_plan.proofs.SendingLemmas.{sending_has_sent_packets}
use Rattle.sub_plan.proofs.laws.law_of_sent_packets.Goals as goal

pub returns : goal.returns
returns c = sending_has_sent_packets
