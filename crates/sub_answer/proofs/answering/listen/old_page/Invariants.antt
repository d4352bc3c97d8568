-- Loop invariant of `old_page`: all earlier rows have 3F in every cell.
use Rattle.std.proofs.Common.{◌≡◌, ◌≤◌, ◌<◌, ℕ}
use Rattle.ttx_page.specs.Page.{IsPage, cell}
use Rattle.sub_answer.proofs.answering.listen.old_page.Given as goal

abbrev pub invariant-loop-row : goal.invariant-loop-row
invariant-loop-row l = record {
  page : IsPage l.page;
  cells :
      (row column : ℕ) → 1 ≤ row → row < l.row → column < 40 → cell l.page row column ≡ 0x3F;
}
