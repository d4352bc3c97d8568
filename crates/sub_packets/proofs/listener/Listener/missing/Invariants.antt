-- In the rows examined so far, `missing` has spaces in each row that was received since the last
-- header of the page; all other rows have the expected codes.
use Rattle.std.proofs.Common.{◌≡◌, ℕ, ◌-◌, ◌<◌, ◌≤◌, cond, false, get_or}
use Rattle.ttx_page.specs.Page.{IsCell, cell, space}
use Rattle.sub_packets.proofs.listener.Listener.missing.Given as goal

abbrev pub invariant-loop-row : goal.invariant-loop-row
invariant-loop-row l = record {
  done :
      (r column : ℕ)
      → IsCell r column
      → r < l.row
      → cell l.missing r column
      ≡ cond (get_or l.self.again (r - 1) false) space (cell l.self.comparison.due r column);
  others :
      (r column : ℕ)
      → IsCell r column
      → l.row ≤ r
      → cell l.missing r column ≡ cell l.self.comparison.due r column;
}
