-- A transmission has no fault if it has frames, none of them has a fault, the entire file was read,
-- and after its last frame no subtitle ends and no unfinished page may still become correct.
use Rattle.std.proofs.Common.{◌≡◌, ℕ, ◌+◌, ◌-◌, ◌<◌, ◌≤◌, ◌⊎◌, length, Some, None, IsFalse}
use Rattle.sub_rules.specs.Events.{is_pending, no_active_faults, active_faults_at}
use Rattle.sub_rules.specs.FrameRules.{Criteria, HasHeader, end_frame, frame_at, packets_of_frame}
use Rattle.sub_rules.specs.PacketRules.{KeepsAllRules}
use Rattle.sub_rules.specs.Transmission.{Transmission}
use Rattle.sub_laws.proofs.PrefixLemmas.{IsInGap, before, packet_at}

-- No fault is active at the end of frame f, after n frames of the transmission.
abbrev pub IsFaultFree : Criteria → Transmission → ℕ → ℕ → Type 0
IsFaultFree g frames n f = active_faults_at g frames n f ≡ no_active_faults

pub record HasOrderAt (g : Criteria) (frames : Transmission) (i : ℕ) : Type 0 where
  pub start : i ≡ 0 → (first : ℕ) → g.first_tci ≡ Some first → frame_at frames 0 ≤ first
  pub rises : 0 < i → frame_at frames (i - 1) < frame_at frames i

abbrev pub HasCleanPacketsAt : Criteria → Transmission → ℕ → ℕ → Type 0
HasCleanPacketsAt g frames i k =
    (j : ℕ) → j < k → KeepsAllRules g.watched (before frames i j) (packet_at frames i j)

-- Frame i of the transmission has no fault: in its number, the frames without packets before it,
-- its packets, its header, and at its end.
pub record IsFrameGood (g : Criteria) (frames : Transmission) (i : ℕ) : Type 0 where
  pub order : HasOrderAt g frames i
  pub gap : (f : ℕ) → IsInGap frames i f → IsFaultFree g frames i f
  pub packets : HasCleanPacketsAt g frames i (length (packets_of_frame frames i))
  pub header : i ≡ 0 → HasHeader g frames 0
  pub end : IsFaultFree g frames (i + 1) (frame_at frames i)

-- The first n frames of the transmission have no fault.
abbrev pub MeetRequirements : Criteria → Transmission → ℕ → Type 0
MeetRequirements g frames n = (j : ℕ) → j < n → IsFrameGood g frames j

-- The transmission has no fault.
pub record MeetsRequirements (g : Criteria) (frames : Transmission) : Type 0 where
  pub each : MeetRequirements g frames (length frames)
  pub unread : g.unread ≡ None
  pub some : 0 < length frames
  pub late : (last : ℕ) → g.last_tco ≡ Some last → last ≤ end_frame frames
  pub whole : IsFalse (is_pending g frames)

-- Frame f is the last of the first n frames of the transmission, or comes after it and before the
-- next. These n frames have rising numbers and packets that keep all rules; the first has a header.
pub record IsReadTo (g : Criteria) (frames : Transmission) (n f : ℕ) : Type 0 where
  pub some : 0 < n
  pub fits : n ≤ length frames
  pub rises : (i : ℕ) → 0 < i → i < n → frame_at frames (i - 1) < frame_at frames i
  pub up_to : frame_at frames (n - 1) ≤ f
  pub next : n < length frames → (frame_at frames (n - 1) ≡ f) ⊎ (f < frame_at frames n)
  pub packets : (i : ℕ) → i < n → HasCleanPacketsAt g frames i (length (packets_of_frame frames i))
  pub header : HasHeader g frames 0
