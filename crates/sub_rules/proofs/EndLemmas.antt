-- Except for the first entry of a transmission, the active faults before a frame are those at the
-- previous frame end, and the gap before an entry begins after the latest frame.
use Rattle.std.proofs.lemmas.Bool.Decides.{nat_tests}
use Rattle.std.proofs.Common.{◌≡◌, ℕ, ◌+◌, ◌-◌, ◌<◌, arith}
use Rattle.sub_rules.specs.Events.{previous_end_frame, gap_length, latest_frame, active_faults_at}
use Rattle.sub_rules.specs.Events.{active_faults_before}
use Rattle.sub_rules.specs.FrameRules.{Criteria, frame_at}
use Rattle.sub_rules.specs.Transmission.{Transmission}

pub gap_length-is :
    (frames : Transmission) (n : ℕ)
    → 0 < n
    → gap_length frames n ≡ frame_at frames n - (latest_frame frames n + 1)
unfolding gap_length
gap_length-is frames n h1 = grind (arith, nat_tests)

pub active_faults_before_eq :
    (g : Criteria) (frames : Transmission) (n f : ℕ)
    → 0 < n
    → active_faults_before g frames n f ≡ active_faults_at g frames n (previous_end_frame frames n
    f)
unfolding active_faults_before
active_faults_before_eq g frames n f h1 = grind (arith, nat_tests)
