-- If n is not 0 and the numbers of the first n frames increase, the greatest of these numbers is
-- the last one.
use Rattle.std.proofs.lemmas.Bool.Decides.{nat_tests}
use Rattle.std.proofs.Common.{◌≡◌, ℕ, zero, suc, ◌-◌, ◌<◌, arith}
use Rattle.sub_rules.specs.Events.{latest_frame}
use Rattle.sub_rules.specs.FrameRules.{frame_at}
use Rattle.sub_rules.specs.Transmission.{Transmission}
use Rattle.sub_laws.proofs.PrefixLemmas.{RiseTo}

pub latest_at :
    (frames : Transmission) (n : ℕ)
    → RiseTo frames n
    → 0 < n
    → latest_frame frames n ≡ frame_at frames (n - 1)
unfolding latest_frame
latest_at frames zero rises some = grind (arith, nat_tests)
latest_at frames (suc zero) rises some = grind (arith, nat_tests)
latest_at frames (suc (suc m)) rises some = grind (arith, nat_tests, (latest_at frames (suc m)))
