-- A range of frames without faults that affect receivers.
use Rattle.std.specs.Prelude.{Bool, None, Option, IsFalse, IsTrue}
use Rattle.std.specs.Prelude.{◌≡◌, ℕ, ◌-◌, ◌<◌, ◌≤◌, ◌⊎◌, List, [], ◌++◌, length, take}
use Rattle.std.specs.Prelude.{slice_index_or}
use Rattle.stl_rows.specs.Programme.{ProgrammeValue}
use Rattle.sub_plan.specs.Options.{OptionsValue}
use Rattle.sub_rules.specs.Events.{packet_fault, active_faults_at}
use Rattle.sub_rules.specs.Fault.{fault_row}
use Rattle.sub_rules.specs.FrameRules.{Criteria, UnreadReason, criteria_of, frame_at}
use Rattle.sub_rules.specs.FrameRules.{packets_before}
use Rattle.sub_rules.specs.FrameRules.{packets_of_frame}
use Rattle.sub_rules.specs.PacketTests.{breaks}
use Rattle.sub_rules.specs.Transmission.{IsRising, Transmission, first_frame, last_frame}
use Rattle.sub_rules.specs.declared.packet_rule.PacketRule.{PacketRule}
use Rattle.sub_laws.specs.OnScreen.{CompleteWithin}
use Rattle.sub_laws.specs.Sufficient.{IsSufficient}

-- ---- packets and frame ends in a range of frames

-- A property holds for each packet of the frames from a to b, given all packets that were sent
-- before it.
abbrev pub HoldsAtPackets :
    (List (List ℕ) → List ℕ → Type 0) → Transmission → ℕ → ℕ → Type 0
HoldsAtPackets Holds frames a b =
    (i k : ℕ)
    → i < length frames
    → k < length (packets_of_frame frames i)
    → a ≤ frame_at frames i
    → frame_at frames i ≤ b
    → Holds (packets_before frames i ++ take k (packets_of_frame frames i))
    (slice_index_or (packets_of_frame frames i) k [])

-- Frame f ends after the first n frames of the transmission. It is the last of them, or a later
-- frame without packets before the next frame of the transmission.
abbrev pub IsEnd : Transmission → ℕ → ℕ → Type 0
IsEnd frames n f =
    (0 < n)
    × (n ≤ length frames)
    × ((f ≡ frame_at frames (n - 1))
    ⊎ ((n < length frames)
    × (f < frame_at frames n)
    × ((i : ℕ) → i < n → frame_at frames i < f)))

-- A property holds at the end of each frame from a to b, given the number of transmission frames up
-- to it.
abbrev pub HoldsAtFrameEnds : (ℕ → ℕ → Type 0) → Transmission → ℕ → ℕ → Type 0
HoldsAtFrameEnds Holds frames a b = (n f : ℕ) → IsEnd frames n f → a ≤ f → f ≤ b → Holds n f

-- The frames from a to b lie within the transmission.
pub record IsWithinTransmission (frames : Transmission) (a b : ℕ) : Type 0 where
  pub not_empty : 0 < length frames
  pub from : first_frame frames ≤ a
  pub in_order : a ≤ b
  pub to : b ≤ last_frame frames

-- ---- faults in a range of frames

-- A packet that breaks this rule affects receivers.
abbrev pub is_needed_by_receivers : PacketRule → Bool
is_needed_by_receivers r = (fault_row (packet_fault r 0 0)).invalidates

-- The range of frames has none of the faults that affect receivers, apart from `Incomplete`,
-- `Silent`, `Pes` and `OffFrame`, which it may have: frame numbers increase in the entire
-- transmission; no packet of the range breaks a rule that affects receivers; no wrong cell or
-- missing header is active at the end of any of its frames; and the expected page of each frame,
-- and of the `within` frames of the transmission before it, is known.
pub record HasNoReceiverFault (g : Criteria) (frames : Transmission) (a b : ℕ) : Type 0 where
  pub stretch : IsWithinTransmission frames a b
  pub rising : IsRising frames
  pub packets :
      (r : PacketRule)
      → IsTrue (is_needed_by_receivers r)
      → HoldsAtPackets (λ before p. IsFalse (breaks r g.watched before p)) frames a b
  pub content : HoldsAtFrameEnds (λ n f. (active_faults_at g frames n f).content ≡ None) frames a b
  pub gap : HoldsAtFrameEnds (λ n f. IsFalse (active_faults_at g frames n f).gap) frames a b
  pub undecided : HoldsAtFrameEnds (λ n f. IsFalse (active_faults_at g frames n f).undecided) frames
      a b

-- The fault `Incomplete` is not active at the end of any frame from a to b.
abbrev pub HasNoOpenEnd : Criteria → Transmission → ℕ → ℕ → Type 0
HasNoOpenEnd g frames a b =
    HoldsAtFrameEnds (λ n f. IsFalse (active_faults_at g frames n f).incomplete) frames a b

-- The criteria for these subtitles and options, if there may also be unreliable subtitles.
-- `undecided` are the frames with an unknown expected page.
abbrev pub criteria_if_unreliable :
    ProgrammeValue → OptionsValue → Option UnreadReason → Bool → (ℕ → Bool) → Criteria
criteria_if_unreliable programme options unread any_unreliable undecided =
    record (criteria_of programme options unread)
    { any_unreliable = any_unreliable; undecided = undecided }

-- If each header must have C4 (erase page) set, `within` is 0 and the frame numbers of the
-- transmission increase, a range of frames without faults that affect receivers
-- (`HasNoReceiverFault`) meets the sufficient conditions (`IsSufficient`). If complete pages are
-- required, and `Incomplete` is not active at the end of any of its frames, its pages are complete.
-- So the report on a rejected transmission with increasing frame numbers shows which part of it is
-- correct for receivers.
abbrev pub LawOfUnreportedStretch : Type 0
LawOfUnreportedStretch =
    (programme : ProgrammeValue) (transmission : Transmission) (options : OptionsValue)
    → (unread : Option UnreadReason) (any_unreliable : Bool) (undecided : ℕ → Bool) (a b : ℕ)
    → IsFalse options.keeps
    → options.within ≡ 0
    → HasNoReceiverFault (criteria_if_unreliable programme options unread any_unreliable undecided)
    transmission a b
    → IsSufficient programme transmission options a b
    × (IsTrue options.asks_complete
    → HasNoOpenEnd (criteria_if_unreliable programme options unread any_unreliable undecided)
    transmission a b
    → CompleteWithin transmission options a b)
