-- Each row adds its number of cells that are not spaces; a blank row adds none.
use Rattle.std.proofs.Common.{arith}
use Rattle.std.proofs.lemmas.Bool.Decides.{nat_tests}
use Rattle.ttx_page.proofs.DifferingLemmas.{blank-more, equal_columns_do_not_differ}
use Rattle.ttx_page.proofs.page.Page.count_nonblank_cells.Goals as goal

pub loop-row-preserved : goal.loop-row-preserved
loop-row-preserved c =
    let more = blank-more c.loop-row.row c.self.inside.rows (omega arith) in
    grind (arith, nat_tests, equal_columns_do_not_differ)
