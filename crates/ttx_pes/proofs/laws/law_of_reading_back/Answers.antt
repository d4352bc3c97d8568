use Rattle.ttx_pes.proofs.ReadingLemmas.{written_packet_reads_back}
use Rattle.ttx_pes.proofs.laws.law_of_reading_back.Goals as goal

pub returns : goal.returns
returns c = written_packet_reads_back
