-- If the source does not fail, the bytes of the file determine the result of `read_gsi`. No file
-- begins with a rejected GSI block.
use Rattle.std.proofs.Common.{arith, rules}
use Rattle.std.proofs.lemmas.Grind.{common_steps}
use Rattle.stl_file.proofs.OpeningLemmas.{invalid_gsi_refuses_opening, if_err_of_every_error}
use Rattle.stl_file.proofs.OpeningLemmas.{if_ok_of_constant, opening_leaves_the_body}
use Rattle.stl_file.proofs.OpeningLemmas.{short_file_is_truncated}
use Rattle.stl_file.proofs.OpeningLemmas.{complete_gsi_is_checked}
use Rattle.stl_file.proofs.reader.read_gsi.Goals as goal

pub returns-then-read_count-lt1024-clause-exact : goal.returns-then-read_count-lt1024-clause-exact
returns-then-read_count-lt1024-clause-exact g c = λ bytes told _.
    short_file_is_truncated (c.in_ok-read_count.ensures.told bytes told)
    c.in_ok-read_count.ensures.bound (search rules)
    c.args.scope.takes_open c.if-read_count-lt1024.true

pub returns-then-read_count-lt1024-clause-refused :
    goal.returns-then-read_count-lt1024-clause-refused
returns-then-read_count-lt1024-clause-refused g c = grind (arith, common_steps)

pub returns-clause-exact : goal.returns-clause-exact
returns-clause-exact g c = λ bytes told _.
    complete_gsi_is_checked (c.in_ok-read_count.ensures.told bytes told)
    c.in_ok-read_count.ensures.bound (search rules)
    c.args.scope.takes_open _ c.if-read_count-lt1024.false
    (rw c.read.ensures at c.validate.ensures.exact)

pub returns-clause-left : goal.returns-clause-left
returns-clause-left g c = λ bytes told.
    if_ok_of_constant c.validate.result
    (opening_leaves_the_body (c.in_ok-read_count.ensures.told bytes told)
    c.in_ok-read_count.ensures.bound (search rules)
    c.if-read_count-lt1024.false)

pub returns-clause-refused : goal.returns-clause-refused
returns-clause-refused g c =
    if_err_of_every_error c.validate.result _ (λ x is _.
    invalid_gsi_refuses_opening c.in_ok-read_count.ensures.fills (search rules) c.args.scope x
    c.if-read_count-lt1024.false
    (rw (c.read.ensures, is) at c.validate.ensures.exact))
