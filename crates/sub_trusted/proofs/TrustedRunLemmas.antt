-- A run of fault-free frames begins with a header that erases the page, and has no fault that
-- affects receivers.
use Rattle.std.proofs.Common.{◌≡◌, ℕ, ◌+◌, ◌-◌, ◌<◌, ◌≤◌, ◌⊎◌, true, false, length}
use Rattle.sub_rules.specs.Events.{active_faults_at}
use Rattle.sub_rules.specs.FrameRules.{Criteria, end_frame, frame_at, packets_of_frame}
use Rattle.sub_rules.specs.PacketTests.{breaks}
use Rattle.sub_rules.specs.Transmission.{Transmission}
use Rattle.sub_rules.specs.declared.packet_rule.PacketRule.{PacketRule}
use Rattle.sub_laws.specs.CleanStretch.{IsEnd, is_needed_by_receivers}
use Rattle.sub_laws.proofs.PrefixLemmas.{RiseTo, before, packet_at}
use Rattle.sub_rules.specs.Trusted.{has_no_active_faults}
use Rattle.sub_trusted.specs.TrustedFrames.{BeginsText}

module _ (g : Criteria) (frames : Transmission) where
  -- No fault is active at any frame end from frame `from` up to, but not including, frame x, after
  -- at most n frames of the transmission.
  abbrev pub EndsFaultFree : ℕ → ℕ → ℕ → Type 0
  EndsFaultFree n from x =
      (m f : ℕ)
      → IsEnd frames m f
      → m ≤ n
      → from ≤ f
      → f < x
      → has_no_active_faults (active_faults_at g frames m f) ≡ true

  -- Frames j to n - 1 of the transmission break no rule that affects receivers.
  abbrev pub PacketsFaultFree : ℕ → ℕ → Type 0
  PacketsFaultFree n j =
      (r : PacketRule) (i k : ℕ)
      → is_needed_by_receivers r ≡ true
      → j ≤ i
      → i < n
      → k < length (packets_of_frame frames i)
      → breaks r g.watched (before frames i k) (packet_at frames i k) ≡ false

  -- The frames from `from` to frame n - 1 of the transmission are a run of fault-free frames: the
  -- first has a header that erases the page, frame numbers increase up to the last, no packet
  -- breaks a rule that affects receivers, and no fault is active at the end of any of these frames.
  pub record IsRun (n from : ℕ) : Type 0 where
    pub j : ℕ
    pub below : j < n
    pub at : frame_at frames j ≡ from
    pub header : BeginsText g frames j
    pub rises : RiseTo frames n
    pub packets : PacketsFaultFree n j
    pub ends : EndsFaultFree n from (frame_at frames (n - 1) + 1)

  -- The frames from `from` up to, but not including, x belong to a run.
  pub record Stays (from x : ℕ) : Type 0 where
    pub n : ℕ
    pub within : n ≤ length frames
    pub run : IsRun n from
    pub before : from < x
    pub ends : EndsFaultFree n from x
    pub next :
        n < length frames
        → ((frame_at frames (n - 1) < frame_at frames n) × (x ≤ frame_at frames n))
        ⊎ (x ≤ frame_at frames (n - 1))
    pub last : n ≡ length frames → x ≤ end_frame frames + 1

  abbrev pub RunLastsTo : ℕ → ℕ → Type 0
  RunLastsTo from to = Stays from (to + 1)
