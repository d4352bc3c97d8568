-- A row of the page is sent if and only if it is not blank.
use Rattle.sub_plan.proofs.SendingLemmas.{row_is_sent_unless_blank}
use Rattle.sub_plan.proofs.sending.is_sent_row.Goals as goal

pub returns : goal.returns
returns c = row_is_sent_unless_blank c.is_blank.result c.args.codes.now c.told-codes
    c.is_blank.ensures
