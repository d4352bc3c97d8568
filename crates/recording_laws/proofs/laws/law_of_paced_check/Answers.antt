use Rattle.recording_laws.proofs.PacedCheckLaw as lemma
use Rattle.recording_laws.proofs.laws.law_of_paced_check.Goals as goal

pub returns : goal.returns
returns c = lemma.law_of_paced_check
