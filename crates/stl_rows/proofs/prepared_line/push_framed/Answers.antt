-- `push_framed`: with `fit`, only the codes that fit are added; without `fit`, all codes are added.
use Rattle.std.proofs.Common.{arith}
use Rattle.std.proofs.lemmas.Bool.Decides.{nat_tests}
use Rattle.stl_rows.proofs.PreparedLineLemmas.{line_with_layout_codes-all}
use Rattle.stl_rows.proofs.PreparedLineLemmas.{line_with_layout_codes-fits}
use Rattle.stl_rows.proofs.prepared_line.push_framed.Goals as goal

pub returns-then-items : goal.returns-then-items
returns-then-items c =
    grind (
      arith,
      nat_tests,
      line_with_layout_codes-fits c.args.items.now c.args.cells.now,
      line_with_layout_codes-all c.args.items.now c.args.cells.now,
    )
