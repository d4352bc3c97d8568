-- `items_of_text` parses one item after another.
use Rattle.std.proofs.Common.{arith}
use Rattle.std.proofs.lemmas.Bool.Decides.{nat_tests}
use Rattle.std.proofs.lemmas.List.{length-set}
use Rattle.stl_rows.proofs.LayoutTextLemmas.{items_with_all-again, items_with_all-bad}
use Rattle.stl_rows.proofs.LayoutTextLemmas.{items_with_all-end}
use Rattle.stl_rows.proofs.LayoutTextLemmas.{items_with_all-more}
use Rattle.stl_rows.proofs.layout_text.items_of_text.Goals as goal

pub returns-in_err-number : goal.returns-in_err-number
returns-in_err-number c =
    grind (
      arith,
      nat_tests,
      items_with_all-bad c.texts.items c.texts.received c.split_first_item.result.0.now,
    )

pub returns-then-received-number : goal.returns-then-received-number
returns-then-received-number c =
    grind (
      arith,
      nat_tests,
      items_with_all-again c.texts.items c.set_item.new.items c.texts.received c.in_ok-number.number
          c.split_first_item.result.0.now,
    )

pub texts-preserved : goal.texts-preserved
texts-preserved c =
    grind (
      arith,
      nat_tests,
      length-set c.texts.received,
      items_with_all-more c.texts.items c.set_item.new.items c.texts.received c.in_ok-number.number
          c.split_first_item.result.0.now,
    )

pub returns-in-None : goal.returns-in-None
returns-in-None c =
    grind (
      arith,
      nat_tests,
      items_with_all-end,
      items_with_all-more c.texts.items c.set_item.new.items c.texts.received c.in_ok-number.number
          c.split_first_item.result.0.now,
    )
