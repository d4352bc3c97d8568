-- The first lines are written before the other lines. Flushing does not change the written bytes.
use Rattle.ts_survey.proofs.ListedLemmas.{appends-kept}
use Rattle.ts_survey.proofs.SurveyLemmas.{grows-more}
use Rattle.ts_survey.proofs.reporting.flush_pending.Goals as goal

pub returns-in_err-put_lines-2-clause-grows : goal.returns-in_err-put_lines-2-clause-grows
returns-in_err-put_lines-2-clause-grows g c =
    grows-more _ _ _ c.put_lines.ensures.grows c.put_lines-2.ensures.grows

pub returns-in-Ok-clause-grows : goal.returns-in-Ok-clause-grows
returns-in-Ok-clause-grows g c =
    let grows = grows-more _ _ _ c.put_lines.ensures.grows c.put_lines-2.ensures.grows in
    (grows.0, appends-kept _ _ _ _ grows.1 c.flush.ensures.bytes)

pub returns-in-Err-clause-grows : goal.returns-in-Err-clause-grows
returns-in-Err-clause-grows g c =
    let grows = grows-more _ _ _ c.put_lines.ensures.grows c.put_lines-2.ensures.grows in
    (grows.0, appends-kept _ _ _ _ grows.1 c.flush.ensures.bytes)
