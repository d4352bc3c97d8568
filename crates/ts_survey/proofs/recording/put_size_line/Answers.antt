-- `put_size_line` adds the line `size`, with the packet size, to the text.
use Rattle.ts_survey.proofs.TextLemmas.{adds-last, adds-word}
use Rattle.ts_survey.proofs.recording.put_size_line.Goals as goal

pub returns : goal.returns
returns c =
    adds-word c.put.ensures
    (adds-word (rw c.bytes.ensures at c.number.ensures)
    (adds-last c.put-2.ensures))
