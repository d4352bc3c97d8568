-- The guarantees for trusted frames, and the conditions under which frames are reported as trusted.
use Rattle.std.specs.Prelude.{◌≡◌, ◌≢◌, ℕ, zero, suc, ◌+◌, ◌<◌, ◌≤◌, ◌==◌, ◌&&◌, nat_lt, Bool}
use Rattle.std.specs.Prelude.{List, [], ◌∷◌, ◌++◌, ◌⊎◌, Contains, length, take, Option, Some}
use Rattle.std.specs.Prelude.{IsFalse, IsTrue, if◌then◌else◌, true}
use Rattle.ttx_page.specs.PacketKind.{kind}
use Rattle.ttx_page.specs.Span.{has_text_beginning}
use Rattle.stl_rows.specs.Programme.{ProgrammeValue}
use Rattle.sub_plan.specs.Options.{OptionsValue}
use Rattle.sub_rules.specs.Events.{is_unfinished, active_faults_at}
use Rattle.sub_rules.specs.FrameRules.{Criteria, UnreadReason, frame_at, packets_of_frame}
use Rattle.sub_rules.specs.Good.{HoldsHeader}
use Rattle.sub_rules.specs.PesPacketEvents.{all_events_of_pes_packets, sent_by_pes_packets}
use Rattle.sub_rules.specs.PesPackets.{PesPacket}
use Rattle.sub_rules.specs.PesPackets.PesPacket.{Skipped}
use Rattle.sub_rules.specs.Transmission.{IsRising, Transmission, first_frame, last_frame}
use Rattle.sub_rules.specs.Transmission.{packets_of}
use Rattle.sub_rules.specs.Trusted.{has_no_active_faults}
use Rattle.sub_rules.specs.declared.event.Event.TheVariants.{Trusted}
use Rattle.sub_laws.specs.CleanStretch.{HoldsAtFrameEnds, HasNoReceiverFault}
use Rattle.sub_laws.specs.CleanStretch.{criteria_if_unreliable}
use Rattle.sub_laws.specs.OnScreen.{CompleteWithin}
use Rattle.sub_laws.specs.Stretch.{MayBeTrusted}

-- ---- the frames before a fault in the frame order

-- Frame n of the transmission is its first frame, or is after the frame before it.
unfoldable pub is_rising_at : Transmission → ℕ → Bool
is_rising_at frames zero = true
is_rising_at frames (suc i) = nat_lt (frame_at frames i) (frame_at frames (suc i))

-- The number of frames, of the first n of the transmission, before the first frame that is not
-- after the one before it.
unfoldable pub rising_count : Transmission → ℕ → ℕ
rising_count frames zero = 0
rising_count frames (suc n) =
    if (rising_count frames n == n) && is_rising_at frames n then suc n else rising_count frames n

-- The frames of the transmission before the first frame that is not after the one before it.
abbrev pub rising_part : Transmission → Transmission
rising_part frames = take (rising_count frames (length frames)) frames

-- The frames of the PES packets before the first frame that is not after the one before it.
abbrev pub rising_frames_of : Criteria → List PesPacket → Transmission
rising_frames_of g pes_packets = rising_part (sent_by_pes_packets g pes_packets)

-- Frame i of the transmission has a header that erases the page. If C4 (erase page) must always be
-- set, any header of the page counts.
abbrev pub BeginsText : Criteria → Transmission → ℕ → Type 0
BeginsText g frames i =
    has_text_beginning g.watched.keeps (kind g.watched.page) (packets_of_frame frames i) ≡ true

-- ---- packets on air before and after trusted frames

-- The packets on air in the frames `from` to `to` are those that were read. Frame numbers on air
-- increase, and the first is not after the first that was read. Before and after these frames,
-- anything may be on air.
pub record MatchesReadPackets (read on_air : Transmission) (from to : ℕ) : Type 0 where
  pub rising : IsRising on_air
  pub first : first_frame on_air ≤ first_frame read
  pub same : (f : ℕ) → from ≤ f → f ≤ to → packets_of on_air f ≡ packets_of read f

-- No skipped PES packet comes directly after one of the frames `from` to `to`: the last frame that
-- was read before a skipped packet, to which that packet may belong, is not one of these frames.
-- Skipped packets before the first frame, or after a frame number that does not increase, do not
-- count.
abbrev pub IsSkippedOutside : Criteria → List PesPacket → ℕ → ℕ → Type 0
IsSkippedOutside g pes_packets from to =
    (earlier later : List PesPacket) (u : UnreadReason)
    → pes_packets ≡ earlier ++ Skipped u ∷ later
    → 0 < length (sent_by_pes_packets g earlier)
    → length (sent_by_pes_packets g earlier) ≤ length (rising_frames_of g pes_packets)
    → (last_frame (sent_by_pes_packets g earlier) < from) ⊎
    (to < last_frame (sent_by_pes_packets g earlier))

-- No skipped PES packet comes directly after one of the frames `from` to `to`, and a property holds
-- for any transmission that matches the packets that were read in these frames
-- (`MatchesReadPackets`), whatever is on air before and after them.
pub record StaysAsReadFromFile
    (g : Criteria) (pes_packets : List PesPacket) (from to : ℕ) (Stays : Transmission → Type 0)
    : Type 0 where
  -- No skipped PES packet comes directly after one of these frames.
  pub skipped : IsSkippedOutside g pes_packets from to
  pub stays : (on_air : Transmission) → MatchesReadPackets (rising_frames_of g pes_packets) on_air
      from to → Stays
      on_air

-- ---- guarantees for trusted frames

-- The guarantees for the frames `from` to `to`. Frame `from` has a header of the page, so a
-- receiver that is tuned in at its beginning recovers; one that is tuned in later recovers from the
-- next header in these frames. If complete pages are required, the pages of these frames are
-- complete, so the expected page is on screens.
pub record MayStay
    (programme : ProgrammeValue) (transmission : Transmission) (options : OptionsValue)
    (from to : ℕ)
    : Type 0 where
  pub header : HoldsHeader options.page transmission from
  pub trusted : MayBeTrusted programme transmission options from to
  pub complete : IsTrue options.asks_complete → CompleteWithin transmission options from to

-- If each header must have C4 (erase page) set and `within` is 0, the guarantees hold for trusted
-- frames of a PES file, whatever is on air before and after them. So these frames need no repair.
-- If there are unreliable subtitles, this holds for the reliable ones.
abbrev pub LawOfTrustedFrames : Type 0
LawOfTrustedFrames =
    (programme : ProgrammeValue) (options : OptionsValue) (unread : Option UnreadReason)
    → (any_unreliable : Bool) (undecided : ℕ → Bool) (pes_packets : List PesPacket) (from to : ℕ)
    → IsFalse options.keeps
    → options.within ≡ 0
    → Contains (all_events_of_pes_packets (criteria_if_unreliable programme options unread
    any_unreliable undecided)
    pes_packets)
    (Trusted from to)
    → StaysAsReadFromFile (criteria_if_unreliable programme options unread any_unreliable undecided)
    pes_packets from
    to
    (λ on_air. MayStay programme on_air options from to)

-- The expected page of each trusted frame is known, and so are the expected pages of the `within`
-- frames before it, from the first frame that was read.
abbrev pub LawOfKnownPages : Type 0
LawOfKnownPages =
    (g : Criteria) (pes_packets : List PesPacket) (from to : ℕ)
    → Contains (all_events_of_pes_packets g pes_packets) (Trusted from to)
    → (f : ℕ)
    → first_frame (rising_frames_of g pes_packets) ≤ f
    → f ≤ to
    → from ≤ f + g.within
    → IsFalse (g.undecided f)

-- ---- the frames that are reported as trusted

-- The frames a to b could be reported as trusted: they have no fault that affects receivers, no
-- fault is active at any of their ends, no skipped PES packet comes directly after one of them, and
-- if `within` is not 0, frame b is finished. They exclude the last frame before a frame number that
-- does not increase or before unreadable bytes.
pub record MayBeReportedAsTrusted (g : Criteria) (pes_packets : List PesPacket) (a b : ℕ) : Type 0
  where
    pub unreported : HasNoReceiverFault g (rising_frames_of g pes_packets) a b
    pub fault_free :
        HoldsAtFrameEnds (λ n f. IsTrue
        (has_no_active_faults (active_faults_at g (rising_frames_of g pes_packets) n f)))
        (rising_frames_of g pes_packets) a b
    pub finished :
        0 < g.within
        → HoldsAtFrameEnds (λ n f. IsFalse (is_unfinished g (rising_frames_of g pes_packets) n f))
        (rising_frames_of g pes_packets) b b
    pub skipped : IsSkippedOutside g pes_packets a b
    pub run_ends_before_falling_frame :
        length (rising_frames_of g pes_packets) < length (sent_by_pes_packets g pes_packets)
        → b < last_frame (rising_frames_of g pes_packets)
    pub run_ends_before_unread_bytes : (u : UnreadReason) → g.unread ≡ Some u → b < last_frame
        (rising_frames_of g pes_packets)

-- The PES file has any event, or the subtitle file has unreliable subtitles.
abbrev pub IsAnythingReported : Criteria → List PesPacket → Type 0
IsAnythingReported g pes_packets = (all_events_of_pes_packets g pes_packets ≢ []) ⊎ IsTrue
    g.any_unreliable

-- If the PES file has any event, or the subtitle file has unreliable subtitles, each range of
-- frames that could be trusted is reported as trusted, in one event, from its first header that
-- erases the page on. Frames that have the guarantees without meeting the conditions of
-- `MayBeReportedAsTrusted` need not be reported.
abbrev pub LawOfAllTrusted : Type 0
LawOfAllTrusted =
    (g : Criteria) (pes_packets : List PesPacket) (a b i : ℕ)
    → MayBeReportedAsTrusted g pes_packets a b
    → i < length (rising_frames_of g pes_packets)
    → a ≤ frame_at (rising_frames_of g pes_packets) i
    → frame_at (rising_frames_of g pes_packets) i ≤ b
    → BeginsText g (rising_frames_of g pes_packets) i
    → IsAnythingReported g pes_packets
    → (from : ℕ)
    × (to : ℕ)
    × (from ≤ frame_at (rising_frames_of g pes_packets) i)
    × (b ≤ to)
    × Contains (all_events_of_pes_packets g pes_packets) (Trusted from to)
