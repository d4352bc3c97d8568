use Rattle.std.proofs.Common.{◌≡◌, ◌*◌, ◌≤◌}
use Rattle.ttx_page.specs.Differing.{differing_column_count}
use Rattle.ttx_page.proofs.differing.count_differing_columns.Given as goal

-- After each iteration, `count` is the number of differing columns in the blocks so far.
abbrev pub invariant-loop-i : goal.invariant-loop-i
invariant-loop-i l = (l.count ≤ 16 * l.i) × (l.count ≡ differing_column_count (16 * l.i) l.a l.b)
