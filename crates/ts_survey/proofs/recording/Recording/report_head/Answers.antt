-- The line `head` is printed before the lines of the recording's kind.
use Rattle.std.proofs.Common.{subst}
use Rattle.std.specs.Prelude.{◌++◌, ◌∷◌, [], codes}
use Rattle.ts_survey.specs.FirstLines.{head_texts}
use Rattle.ts_survey.specs.Lines.{AddsTexts}
use Rattle.ts_survey.proofs.TextLemmas.{adds-last, adds-words}
use Rattle.ts_survey.proofs.recording.Recording.report_head.Goals as goal

pub returns-in-Some-clause-reported : goal.returns-in-Some-clause-reported
returns-in-Some-clause-reported c = λ unknown enough.
    let size = codes "size 0\n" ∷ [] in
    subst (λ head. AddsTexts c.args.first.now (head_texts head ++ size) c.put.new.self)
    c.first_bytes_of-head.ensures.bytes
    (adds-words (head_texts c.first_bytes_of-head.result.now) size c.put_head_lines.ensures
    (adds-last c.put.ensures))
