use Rattle.recording_laws.proofs.ReadingLaw as lemma
use Rattle.recording_laws.proofs.laws.law_of_pace.Goals as goal

pub returns : goal.returns
returns c = lemma.law_of_pace
