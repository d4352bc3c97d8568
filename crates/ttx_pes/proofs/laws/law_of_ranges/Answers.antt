use Rattle.ttx_pes.proofs.RangeLemmas.{ranges_select_packets}
use Rattle.ttx_pes.proofs.laws.law_of_ranges.Goals as goal

pub returns : goal.returns
returns c = ranges_select_packets
