-- A PES packet that arrives adds its bytes to the output, after a gap marker if data was lost since
-- the one before it. A PES packet that does not arrive adds nothing.
use Rattle.std.proofs.lemmas.Bool.Decides.{nat_tests}
use Rattle.std.proofs.Common.{arith, ◌≡◌, ℕ, Bool, true, false, ◌&&◌, ◌||◌, List, [], ◌∷◌, ◌++◌}
use Rattle.std.proofs.Common.{append_assoc}
use Rattle.std.specs.List.{list_any}
use Rattle.mpeg_ts.specs.CarriedPackets.{gap_marker_where}
use Rattle.recording_laws.specs.Losses.{SentUnit, any_unit_damaged, arrives, arriving_bytes}
use Rattle.recording_laws.specs.Losses.{is_damaged_after}
use Rattle.recording_laws.specs.Losses.{units_before_copy}
use Rattle.recording_laws.specs.Multiplex.{SentPes}
use Rattle.recording_laws.proofs.LossyNoteLemmas.{or-true}

-- The bytes are those of the PES packets that arrive, with their gap markers (`arriving_bytes`).
-- One more gap marker may be at the end, if a PES packet arrived before it.
pub record CarriesArriving (given gap : Bool) (sent : List (SentPes SentUnit)) (bytes : List ℕ) :
    Type 0 where
  pub has_gap_marker : Bool
  pub marker_follows_packet : has_gap_marker ≡ true → (given || list_any arrives sent) ≡ true
  pub bytes_are_equal : bytes ≡ arriving_bytes given gap sent ++ gap_marker_where has_gap_marker

pub carries_arriving-gone : (given gap : Bool) (s : SentPes SentUnit)
    (more : List (SentPes SentUnit))
    (bytes : List ℕ)
    → arrives s ≡ false
    → CarriesArriving given true more bytes
    → CarriesArriving given gap (s ∷ more) bytes
unfolding arriving_bytes
carries_arriving-gone given gap s more bytes h1 h2 = grind (arith, nat_tests)

pub carries_arriving-there : (given gap : Bool) (s : SentPes SentUnit)
    (more : List (SentPes SentUnit))
    (bytes inner : List ℕ)
    → arrives s ≡ true
    → bytes ≡ gap_marker_where (given && (gap || any_unit_damaged (units_before_copy s.first))) ++
    (s.bytes ++ inner)
    → CarriesArriving true (is_damaged_after s) more inner
    → CarriesArriving given gap (s ∷ more) bytes
unfolding arriving_bytes
carries_arriving-there given gap s more bytes inner h1 h2 h3 =
    grind (arith, nat_tests, or-true, append_assoc)

pub carries_arriving-first_gap_is_not_marked : (a b : Bool) (sent : List (SentPes SentUnit))
    (bytes : List ℕ)
    → CarriesArriving false a sent bytes
    → CarriesArriving false b sent bytes
unfolding arriving_bytes
carries_arriving-first_gap_is_not_marked a b [] bytes h = grind (arith, nat_tests)
carries_arriving-first_gap_is_not_marked a b (s ∷ more) bytes h = grind (arith, nat_tests)
