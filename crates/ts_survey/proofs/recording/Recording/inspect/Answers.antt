-- As long as the kind of the recording is unknown, no line of its kind is printed.
use Rattle.std.proofs.Common.{◌∙◌, sym}
use Rattle.ts_survey.proofs.FirstLinesLemmas.{adds-nothing}
use Rattle.ts_survey.proofs.recording.Recording.inspect.Goals as goal

pub returns-in-Some-clause-kept : goal.returns-in-Some-clause-kept
returns-in-Some-clause-kept c = λ unknown enough.
    let e = sym (c.begin.ensures.known enough) ∙ unknown in cc

pub returns-clause-reported : goal.returns-clause-reported
returns-clause-reported c = λ is enough.
    adds-nothing c.args.self.now.kind c.args.first.now is
