use Rattle.std.proofs.Common.{◌≡◌, ◌≤◌, ◌*◌}
use Rattle.ttx_page.specs.Differing.{rows_difference}
use Rattle.ttx_page.specs.Page.{blank}
use Rattle.ttx_page.proofs.page.Page.count_nonblank_cells.Given as goal

-- After each iteration, `count` is the number of cells in the rows so far that are not spaces.
abbrev pub invariant-loop-row : goal.invariant-loop-row
invariant-loop-row l =
    (l.count ≤ 40 * l.row) × (l.count ≡ rows_difference l.row blank l.self-inside.rows)
