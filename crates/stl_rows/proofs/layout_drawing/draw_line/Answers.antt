-- A line that has cells and no fault fits in a row of the page.
use Rattle.std.proofs.Common.{arith}
use Rattle.std.proofs.lemmas.Bool.Decides.{nat_tests}
use Rattle.stl_rows.proofs.LaidOutLemmas.{accepted_line_fits_page}
use Rattle.stl_rows.proofs.layout_drawing.draw_line.Goals as goal

pub overflow_sub-row : goal.overflow_sub-row
overflow_sub-row c =
    grind (
      arith,
      nat_tests,
      accepted_line_fits_page c.args.items.now c.args.row_shift c.args.place.now c.args.line.now
          c.requires.sound,
    )

pub overflow_cast-row : goal.overflow_cast-row
overflow_cast-row c =
    grind (
      arith,
      nat_tests,
      accepted_line_fits_page c.args.items.now c.args.row_shift c.args.place.now c.args.line.now
          c.requires.sound,
    )

pub start_column_by_layout-requires : goal.start_column_by_layout-requires
start_column_by_layout-requires c =
    grind (
      arith,
      nat_tests,
      accepted_line_fits_page c.args.items.now c.args.row_shift c.args.place.now c.args.line.now
          c.requires.sound,
    )

pub set_row-requires-clause-row : goal.set_row-requires-clause-row
set_row-requires-clause-row c =
    grind (
      arith,
      nat_tests,
      accepted_line_fits_page c.args.items.now c.args.row_shift c.args.place.now c.args.line.now
          c.requires.sound,
    )
