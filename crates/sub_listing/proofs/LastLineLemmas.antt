-- If the source of a listing failed, all lines before the line about the failure were flushed.
use Rattle.std.proofs.lemmas.Bool.Decides.{nat_tests}
use Rattle.std.proofs.Common.{◌≡◌, ℕ, ◌+◌, ◌<◌, Bool, true, false, if◌then◌else◌, List, Option}
use Rattle.std.proofs.Common.{arith, refl}
use Rattle.sub_listing.specs.LastLine.{BuffersLastLineOnly, IsOnlyFaultLine, PutsLine}

pub raised_count_means_failure : (old new : ℕ) (fails : Bool)
    → old < new
    → new ≡ old + (if fails then 1 else 0)
    → fails ≡ true
raised_count_means_failure old new true risen counted = refl
raised_count_means_failure old new false risen counted = absurd (omega (arith, risen, counted))

pub only_last_line_is_buffered : {K : Type 0} (contents : K → Option (List ℕ)) (buffered : K → ℕ)
    (IsPush : K → List ℕ → Option ℕ → K → Type 0) (before new : K) (text put : List ℕ)
    → IsOnlyFaultLine (buffered before) text
    → put ≡ text
    → PutsLine contents IsPush before put new
    → BuffersLastLineOnly contents buffered IsPush new
only_last_line_is_buffered contents buffered IsPush before new text put alone same line = grind
    (arith, nat_tests)
