use Rattle.sub_answer.proofs.MemoryLemmas as lemma
use Rattle.sub_answer.proofs.laws.law_of_files_in_memory.Goals as goal

pub returns : goal.returns
returns g c = lemma.law_of_files_in_memory _
