-- `put_counts_line` adds the line `over`, with the number of bytes that belong to no packet and the
-- number of packets, to the text.
use Rattle.ts_survey.proofs.TextLemmas.{adds-last, adds-word}
use Rattle.ts_survey.proofs.recording.put_counts_line.Goals as goal

pub returns : goal.returns
returns c =
    adds-word c.put.ensures
    (adds-word c.number.ensures
    (adds-word c.number-2.ensures
    (adds-last c.put-2.ensures)))
