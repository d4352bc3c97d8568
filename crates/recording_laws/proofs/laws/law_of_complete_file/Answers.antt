use Rattle.recording_laws.proofs.CompleteFileLemmas as lemma
use Rattle.recording_laws.proofs.laws.law_of_complete_file.Goals as goal

pub returns : goal.returns
returns c = lemma.law_of_complete_file
