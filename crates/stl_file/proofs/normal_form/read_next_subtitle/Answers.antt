-- A source in memory never fails, so the remaining bytes determine the result of
-- `read_next_subtitle`.
use Rattle.std.proofs.Common.{arith}
use Rattle.std.proofs.lemmas.Bool.Decides.{nat_tests}
use Rattle.stl_file.proofs.NormalCountsLemmas.{call_splits_the_outcome, same_count_means_no_failure}
use Rattle.stl_file.proofs.NormalCountsLemmas.{respelled_blocks_fit}
use Rattle.stl_file.proofs.normal_form.read_next_subtitle.Goals as goal

pub returns-clause-exact : goal.returns-clause-exact
returns-clause-exact c = grind
    (arith, nat_tests, call_splits_the_outcome, same_count_means_no_failure)

pub returns-clause-room : goal.returns-clause-room
returns-clause-room c = λ is. respelled_blocks_fit
    _ _ _ _ _ (rw is at (c.next_into.ensures.taken c.requires))
