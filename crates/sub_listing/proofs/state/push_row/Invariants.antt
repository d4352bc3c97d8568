-- Loop invariant of `push_row`: the characters of all earlier cells of the row were appended.
use Rattle.std.proofs.Common.{◌≡◌, ◌++◌, ◌+◌, map, take}
use Rattle.arrayvec.specs.ArrayVec.{array_vec_len}
use Rattle.sub_listing.specs.Lines.{printed_character}
use Rattle.sub_listing.proofs.state.push_row.Given as goal

abbrev pub invariant-loop-cell : goal.invariant-loop-cell
invariant-loop-cell l =
    (l.rows.items ≡ l.initial.rows.items ++ map printed_character (take l.cell-index l.cells))
    × (array_vec_len l.rows ≡ array_vec_len l.initial.rows + l.cell-index)
