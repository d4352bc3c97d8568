-- `put_head_lines` adds the line `survey 1`, and the line `head` with the first bytes of the
-- recording, to the text.
use Rattle.ts_survey.proofs.TextLemmas.{adds-last, adds-word}
use Rattle.ts_survey.proofs.recording.put_head_lines.Goals as goal

pub returns : goal.returns
returns c =
    adds-word c.put.ensures
    (adds-word (rw c.space_unless_empty.ensures at c.put-2.ensures)
    (adds-word c.hex.ensures
    (adds-last c.put-3.ensures)))
