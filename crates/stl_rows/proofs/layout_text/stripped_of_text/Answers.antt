-- `stripped_of_text` parses one pair of digits after another.
use Rattle.std.proofs.Common.{arith}
use Rattle.std.proofs.lemmas.Bool.Decides.{nat_tests}
use Rattle.std.proofs.lemmas.List.{length-set}
use Rattle.stl_rows.proofs.LayoutTextLemmas.{strip_with_bytes-again, strip_with_bytes-bad}
use Rattle.stl_rows.proofs.LayoutTextLemmas.{strip_with_bytes-end, strip_with_bytes-more}
use Rattle.stl_rows.proofs.LayoutTextLemmas.{strip_with_bytes-odd}
use Rattle.stl_rows.proofs.layout_text.stripped_of_text.Goals as goal

pub returns-then-at-text : goal.returns-then-at-text
returns-then-at-text c =
    grind (arith, nat_tests, strip_with_bytes-odd c.args.text.now c.loop-at.at c.loop-at.strip)

pub returns-in_err-code : goal.returns-in_err-code
returns-in_err-code c =
    grind (arith, nat_tests, strip_with_bytes-bad c.args.text.now c.loop-at.at c.loop-at.strip)

pub returns-then-code-ge32 : goal.returns-then-code-ge32
returns-then-code-ge32 c =
    grind (
      arith,
      nat_tests,
      strip_with_bytes-again c.args.text.now c.loop-at.at c.loop-at.strip c.in_ok-code.code,
    )

pub loop-at-preserved : goal.loop-at-preserved
loop-at-preserved c =
    grind (
      arith,
      nat_tests,
      length-set c.loop-at.strip,
      strip_with_bytes-more c.args.text.now c.loop-at.at c.loop-at.strip c.in_ok-code.code,
    )

pub returns : goal.returns
returns c =
    grind (arith, nat_tests, strip_with_bytes-end c.args.text.now c.loop-at.at c.loop-at.strip)
