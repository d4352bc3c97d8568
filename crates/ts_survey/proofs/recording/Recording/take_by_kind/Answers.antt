-- Processing the packets of a transport stream does not change the kind of the recording.
use Rattle.ts_survey.proofs.ListedLemmas.{goes-on}
use Rattle.ts_survey.proofs.recording.Recording.take_by_kind.Goals as goal

pub returns-in-Stream-clause-kind : goal.returns-in-Stream-clause-kind
returns-in-Stream-clause-kind c =
    rw c.in-Stream.is (goes-on _ _ _ _ _ _ _ c.take-in-Stream.ensures.all)
