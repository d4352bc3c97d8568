use Rattle.std.proofs.Common.{arith}
use Rattle.ttx_page.proofs.PageLemmas.{equal_rows_give_equal_pages}
use Rattle.ttx_page.proofs.page.Page.first_difference.Goals as goal

pub returns : goal.returns
returns c =
    equal_rows_give_equal_pages _ _ _ _ c.self.view_is c.other.view_is c.self.invariant
    c.other.invariant
    (λ i below. c.loop-i.invariant i (omega arith))
