use Rattle.ttx_packet.proofs.BitOrderLemmas.{mirror-mirror}
use Rattle.ttx_packet.proofs.laws.law_of_mirror.Goals as goal

pub returns : goal.returns
returns c = mirror-mirror
