-- In the rows examined so far, each expected code is replaced by a space; the other rows are
-- unchanged.
use Rattle.std.proofs.Common.{◌≡◌, ℕ, ◌<◌, ◌≤◌}
use Rattle.ttx_page.specs.Page.{IsCell, cell}
use Rattle.sub_packets.specs.UnexpectedCodes.{space_if_due}
use Rattle.sub_packets.proofs.unexpected.blank_due_cells.Given as goal

abbrev pub invariant-loop-row : goal.invariant-loop-row
invariant-loop-row l = record {
  done :
      (r column : ℕ)
      → IsCell r column
      → r < l.row
      → cell l.left r column ≡ space_if_due (cell l.due r column) (cell l.fn.left r column);
  kept :
      (r column : ℕ)
      → IsCell r column
      → l.row ≤ r
      → cell l.left r column ≡ cell l.fn.left r column;
}
