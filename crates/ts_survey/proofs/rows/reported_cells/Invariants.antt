-- In each iteration of `reported_cells`, the row has forty cells.
use Rattle.std.proofs.Common.{◌≡◌, length}
use Rattle.ts_survey.proofs.rows.reported_cells.Given as goal

abbrev pub invariant-loop-column : goal.invariant-loop-column
invariant-loop-column l = length l.cells ≡ 40
