-- `split_first_item` returns the first part of a text that is split at commas, and the shorter text
-- after the first comma, if the text has a comma.
use Rattle.stl_rows.proofs.CutAtLemmas.{split_at_mark-first}
use Rattle.stl_rows.proofs.layout_text.split_first_item.Goals as goal

pub returns-clause-texts : goal.returns-clause-texts
returns-clause-texts c =
    (split_at_mark-first 0x2C c.args.text.now c.split_at_mark.result.0.now c.split_at_mark.result.1
    c.split_at_mark.ensures).0

pub returns-clause-shorter : goal.returns-clause-shorter
returns-clause-shorter c =
    (split_at_mark-first 0x2C c.args.text.now c.split_at_mark.result.0.now c.split_at_mark.result.1
    c.split_at_mark.ensures).1
