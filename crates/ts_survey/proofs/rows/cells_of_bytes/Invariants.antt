-- In each iteration of `cells_of_bytes`, the row has forty cells.
use Rattle.std.proofs.Common.{◌≡◌, length}
use Rattle.ts_survey.proofs.rows.cells_of_bytes.Given as goal

abbrev pub invariant-loop-column : goal.invariant-loop-column
invariant-loop-column l = length l.cells ≡ 40
