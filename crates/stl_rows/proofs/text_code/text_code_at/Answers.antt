-- `text_code_at` reads one or two bytes as a text code, whose cell is below 128.
use Rattle.std.proofs.Common.{arith, subst, sym}
use Rattle.std.proofs.lemmas.Bool.Decides.{nat_tests}
use Rattle.std.specs.Prelude.{IfSome}
use Rattle.ttx_page.specs.Page.{IsCode}
use Rattle.stl_rows.specs.TextCode.{HasSevenBits}
use Rattle.stl_rows.proofs.TextCodeLemmas.{cell_of-small, cell_of_pair-small, other-small}
use Rattle.stl_rows.proofs.TextCodeLemmas.{text_codes-common, text_codes-pair}
use Rattle.stl_rows.proofs.text_code.text_code_at.Goals as goal

pub returns-then-is_common-clause-step : goal.returns-then-is_common-clause-step
returns-then-is_common-clause-step c = grind (arith, nat_tests, text_codes-common)

pub returns-in-Some-clause-step : goal.returns-in-Some-clause-step
returns-in-Some-clause-step c = grind (arith, nat_tests, text_codes-pair)

pub returns-in-Some-clause-small : goal.returns-in-Some-clause-small
returns-in-Some-clause-small c =
    subst (λ o. IfSome o IsCode) (sym c.in-Some.ensures.value)
    (cell_of_pair-small c.args.national _ _)

pub returns-in-Some-cell_of-clause-small : goal.returns-in-Some-cell_of-clause-small
returns-in-Some-cell_of-clause-small c =
    subst (λ o. IfSome o IsCode) (sym c.in-Some-cell_of.ensures) (cell_of-small c.args.national _)

pub returns-in-None-cell_of-clause-small : goal.returns-in-None-cell_of-clause-small
returns-in-None-cell_of-clause-small c =
    subst HasSevenBits (sym c.code_without_cell.ensures) (other-small _)
