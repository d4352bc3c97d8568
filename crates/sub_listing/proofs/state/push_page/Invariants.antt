-- Loop invariant of `push_page`: the lines of all earlier rows were appended, with at most 50 bytes
-- each.
use Rattle.std.proofs.Common.{◌≡◌, ◌≤◌, ◌<◌, ◌*◌}
use Rattle.arrayvec.specs.ArrayVec.{array_vec_len}
use Rattle.sub_listing.specs.DisplayLines.{rows_text}
use Rattle.ttx_page.specs.Page.{IsPage}
use Rattle.sub_listing.proofs.state.push_page.Given as goal

abbrev pub invariant-loop-i : goal.invariant-loop-i
invariant-loop-i l = record {
  items : l.rows.items ≡ rows_text l.i l.page;
  room : array_vec_len l.rows ≤ 50 * l.i;
  page : 0 < l.i → IsPage l.page;
}
