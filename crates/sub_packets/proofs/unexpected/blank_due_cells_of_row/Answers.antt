-- A row of spaces does not change when expected codes are replaced by spaces.
use Rattle.std.proofs.Common.{arith}
use Rattle.std.proofs.lemmas.Bool.Decides.{nat_tests}
use Rattle.sub_packets.proofs.UnexpectedLemmas.{blank_row_is_left_unchanged}
use Rattle.sub_packets.proofs.unexpected.blank_due_cells_of_row.Goals as goal

pub returns-else-count_differing_columns-ne0 : goal.returns-else-count_differing_columns-ne0
returns-else-count_differing_columns-ne0 c r column is =
    let row_is = c.row-shown.ensures.value in
    let spaces_are = c.spaces.ensures in
    let count = c.count_differing_columns.ensures.value in
    let none = c.if-count_differing_columns-ne0.false in
    let stays = blank_row_is_left_unchanged c.args.left.now c.args.row column in
    grind (arith, nat_tests)
