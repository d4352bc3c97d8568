use Rattle.recording_laws.proofs.ArrivingLaw as lemma
use Rattle.recording_laws.proofs.laws.law_of_neighbours.Goals as goal

pub returns : goal.returns
returns c = lemma.law_of_neighbours
