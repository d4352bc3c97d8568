use Rattle.sub_laws.proofs.DelayOfFilesLemmas as lemmas
use Rattle.sub_laws.proofs.laws.law_of_longer_delay_of_files.Goals as goal

pub returns : goal.returns
returns c = lemmas.law_of_longer_delay_of_files
