-- `schedule`: a programme without subtitles has no first TCI; otherwise the first TCI is before the
-- last TCO.
use Rattle.std.proofs.Common.{arith, refl}
use Rattle.std.proofs.lemmas.Bool.Decides.{nat_tests}
use Rattle.sub_plan.proofs.ProgrammeLemmas.{no_first_tci_means_empty, no_last_tco_means_empty}
use Rattle.sub_plan.proofs.ProgrammeLemmas.{span-rises}
use Rattle.sub_plan.proofs.scheduling.schedule.Goals as goal

pub returns-in_default-clause-empty : goal.returns-in_default-clause-empty
returns-in_default-clause-empty g c = (
  λ e. no_first_tci_means_empty _ c.in_default.ensures.value,
  λ e. refl,
)

pub returns-in_default-last_tco-clause-empty : goal.returns-in_default-last_tco-clause-empty
returns-in_default-last_tco-clause-empty g c = grind (arith, nat_tests, no_last_tco_means_empty)

pub send_all-requires-clause-order : goal.send_all-requires-clause-order
send_all-requires-clause-order g c =
    (span-rises _ _ _ _ c.in-Some.ensures.programme c.in-Some.ensures.value
    c.in-Some-last_tco.ensures.value).rises

pub send_all-requires-clause-day : goal.send_all-requires-clause-day
send_all-requires-clause-day g c =
    (span-rises _ _ _ _ c.in-Some.ensures.programme c.in-Some.ensures.value
    c.in-Some-last_tco.ensures.value).in_day
