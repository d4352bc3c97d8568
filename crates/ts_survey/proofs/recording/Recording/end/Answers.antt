-- The last line has the number of skipped bytes and the number of packets, whatever was printed
-- before.
use Rattle.ts_survey.proofs.ListedLemmas.{ends-reported}
use Rattle.ts_survey.proofs.recording.Recording.end.Goals as goal

pub returns-clause-reported : goal.returns-clause-reported
returns-clause-reported c =
    ends-reported c.args.self.now _ _ _ _ c.report_remaining_lines-skipped.ensures.skipped
    c.report_remaining_lines-skipped.ensures.packets c.put_counts_line.ensures
