use Rattle.ttx_pes.proofs.ReaderLemmas.{reader_answers_are_correct}
use Rattle.ttx_pes.proofs.laws.law_of_reader_answers.Goals as goal

pub returns : goal.returns
returns c = reader_answers_are_correct
