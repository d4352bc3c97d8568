-- `codes_of_text` parses one pair of digits after another.
use Rattle.std.proofs.Common.{arith, Some}
use Rattle.std.proofs.lemmas.Bool.Decides.{nat_tests}
use Rattle.std.proofs.lemmas.List.{length-set}
use Rattle.stl_rows.proofs.LayoutTextLemmas.{places_with_codes-end, places_with_codes-odd}
use Rattle.stl_rows.proofs.LayoutTextLemmas.{places_with_codes-step}
use Rattle.stl_rows.proofs.layout_text.codes_of_text.Goals as goal

pub returns-then-at-text : goal.returns-then-at-text
returns-then-at-text g c =
    grind (
      arith,
      nat_tests,
      places_with_codes-odd c.args.text.now c.loop-at.at c.loop-at.places c.loop-at.filled,
    )

pub returns-in_err-code : goal.returns-in_err-code
returns-in_err-code g c =
    grind (
      arith,
      nat_tests,
      places_with_codes-step c.args.text.now c.loop-at.at c.loop-at.places c.loop-at.filled,
    )

pub returns-in_err-attribute : goal.returns-in_err-attribute
returns-in_err-attribute g c =
    grind (
      arith,
      nat_tests,
      places_with_codes-step c.args.text.now c.loop-at.at c.loop-at.places c.loop-at.filled,
    )

pub returns-then-filled : goal.returns-then-filled
returns-then-filled g c =
    grind (
      arith,
      nat_tests,
      places_with_codes-step c.args.text.now c.loop-at.at c.loop-at.places c.loop-at.filled,
    )

pub loop-at-preserved : goal.loop-at-preserved
loop-at-preserved g c =
    grind (
      arith,
      nat_tests,
      length-set c.loop-at.places c.loop-at.filled (Some c.in_ok-attribute.attribute),
      places_with_codes-step c.args.text.now c.loop-at.at c.loop-at.places c.loop-at.filled,
    )

pub returns : goal.returns
returns g c =
    grind (
      arith,
      nat_tests,
      places_with_codes-end c.args.text.now c.loop-at.at c.loop-at.places c.loop-at.filled,
    )
