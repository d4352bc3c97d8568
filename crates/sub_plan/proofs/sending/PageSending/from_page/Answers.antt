-- `from_page` appends the packets row by row.
use Rattle.std.proofs.Common.{arith, append_assoc, append-nil}
use Rattle.std.proofs.lemmas.Bool.Decides.{nat_tests}
use Rattle.std.proofs.lemmas.List.{length_push}
use Rattle.sub_plan.proofs.SendingSize.{rows_from_splits_at_row, packets_make_the_sending}
use Rattle.sub_plan.proofs.sending.PageSending.from_page.Goals as goal
use Rattle.sub_plan.proofs.sending.PageSending.from_page.Goals.{then-is_sent_row, else-is_sent_row}

pub loop-row-preserved : goal.loop-row-preserved
loop-row-preserved c =
    let i = c.loop-row.invariant in
    let page = c.args.page.now in
    let next = rows_from_splits_at_row c.magazine-magazine.result page c.loop-row.row (omega arith)
    in
    grind (arith, nat_tests, then-is_sent_row, length_push, append_assoc, else-is_sent_row)

pub returns : goal.returns
returns c = grind (arith, nat_tests, packets_make_the_sending, append-nil)
