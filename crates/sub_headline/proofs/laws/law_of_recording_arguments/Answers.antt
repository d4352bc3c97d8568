use Rattle.sub_headline.proofs.ChosenWordLemmas as lemmas
use Rattle.sub_headline.proofs.laws.law_of_recording_arguments.Goals as goal

pub returns : goal.returns
returns c = lemmas.law_of_recording_arguments
