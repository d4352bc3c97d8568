-- How `listen` receives PES packets: the frames up to the time TIME, the reason why reception ends,
-- and the state of the receiver.
--
-- The list of frames has one entry for each PES packet before the first that can't be read or
-- belongs to no frame. If `within` is not 0, consecutive PES packets may belong to one frame.
use Rattle.std.specs.Prelude.{◌≡◌, ℕ, zero, suc, ◌+◌, ◌<◌, ◌≤◌, ◌⊎◌, ◌&&◌, ◌==◌, Bool, false, not}
use Rattle.std.specs.Prelude.{if◌then◌else◌, length, Option, Some, None, Result, option_map}
use Rattle.std.specs.Prelude.{List, MatchResult}
use Rattle.sub_io.specs.Reading.{IfKnown}
use Rattle.ttx_packet.specs.PageId.{PageIdValue}
use Rattle.ttx_page.specs.Screen.{Display}
use Rattle.ttx_pes.specs.Reader.{FailsAfterValidPackets, TakesValidPesPackets}
use Rattle.ttx_pes.specs.declared.fault.PesFault.TheVariants.{Read}
use Rattle.sub_plan.specs.FrameTime.{clock_of}
use Rattle.sub_rules.specs.Fault.{is_pes_read_failure, is_subtitle_fault}
use Rattle.sub_rules.specs.Events.{unread_fault}
use Rattle.sub_rules.specs.FrameRules.{UnreadReason, frame_at, packets_before, packets_of_frame}
use Rattle.sub_rules.specs.PesReading.{ReadsAs}
use Rattle.sub_rules.specs.Transmission.{Transmission}
use Rattle.sub_rules.specs.declared.fault.CheckFault.TheVariants as check
use Rattle.sub_listen.specs.Reception.{ReceivesPackets, packets_used_by, first_forbidden_loss}
use Rattle.sub_listen.specs.Reception.{reception_of}
use Rattle.sub_listen.specs.declared.listening.ListenFault.{ListenFault}
use Rattle.sub_listen.specs.declared.listening.ListenFault.TheVariants as fault
use Rattle.sub_request.specs.declared.listening.Listening.{Listening}

-- ---- faults of a failed read

-- The fault is a failed read of the source.
abbrev pub is_failed_read : ListenFault → Bool
is_failed_read (fault.File f) = is_pes_read_failure f
is_failed_read (fault.LostHeader frame packet) = false

-- The fault is one of a subtitle file (`Subtitles`), which `listen` does not read.
abbrev pub is_stl_fault : ListenFault → Bool
is_stl_fault (fault.File f) = is_subtitle_fault f
is_stl_fault (fault.LostHeader frame packet) = false

-- ---- the frames that are received

-- The earliest frame to which the PES packet after one of frame `frame` may belong: the next frame
-- if `within` is 0, otherwise the same frame.
abbrev pub least_frame_after : ℕ → ℕ → ℕ
least_frame_after within frame = if within == 0 then frame + 1 else frame

-- The earliest frame to which PES packet i of the list may belong.
abbrev pub least_frame : ℕ → Transmission → ℕ → ℕ
least_frame within frames zero = 0
least_frame within frames (suc i) = least_frame_after within (frame_at frames i)

-- PES packet i of the list belongs to the same frame as the PES packet before it, and `within` is
-- not 0.
abbrev pub joins_previous_frame : ℕ → Transmission → ℕ → Bool
joins_previous_frame within frames zero = false
joins_previous_frame within frames (suc i) =
    not (within == 0) && (frame_at frames (suc i) == frame_at frames i)

-- The number of Teletext packets in PES packet n - 1 and, if it joins the frame of the PES packet
-- before it (`joins_previous_frame`), in the PES packets of that frame directly before it; 0 if n
-- is 0.
abbrev pub sent_in_frame : ℕ → Transmission → ℕ → ℕ
sent_in_frame within frames zero = 0
sent_in_frame within frames (suc i) =
    (if joins_previous_frame within frames i then sent_in_frame within frames i else 0)
    + length (packets_of_frame frames i)

-- The index, within its frame, of the first Teletext packet of PES packet i; 0 if `within` is 0.
abbrev pub first_in_frame : ℕ → Transmission → ℕ → ℕ
first_in_frame within frames i =
    if joins_previous_frame within frames i then sent_in_frame within frames i else 0

-- The index, within the whole source, of the first Teletext packet of PES packet i.
abbrev pub first_packet_number : Transmission → ℕ → ℕ
first_packet_number frames i = length (packets_before frames i)

-- The index, within its frame, of the first Teletext packet of PES packet i that is lost
-- (`is_lost_packet`) but must not be lost; `None` if there is none.
abbrev pub forbidden_loss : Listening → Transmission → ℕ → Option ℕ
forbidden_loss l frames i =
    option_map (λ place. first_in_frame l.options.within frames i + place)
    (first_forbidden_loss (reception_of l) (first_packet_number frames i)
    (packets_of_frame frames i))

-- PES packet i is received: its frame is after the frame of the PES packet before it (or the same
-- frame, if `within` is not 0) and not after TIME, and none of its packets is lost
-- (`is_lost_packet`) but must not be lost.
pub record IsReceivedPesPacket (l : Listening) (frames : Transmission) (i : ℕ) : Type 0 where
  pub there : i < length frames
  pub rises : least_frame l.options.within frames i ≤ frame_at frames i
  pub in_time : frame_at frames i ≤ l.at
  pub no_forbidden_loss :
      first_forbidden_loss (reception_of l) (first_packet_number frames i)
      (packets_of_frame frames i)
      ≡ None

-- The first n PES packets of the list are received.
abbrev pub AreReceivedPesPackets : Listening → Transmission → ℕ → Type 0
AreReceivedPesPackets l frames n = (i : ℕ) → i < n → IsReceivedPesPacket l frames i

-- Reception ends after n PES packets: the source ends without a fault, or the frame of the next PES
-- packet is not too early (`least_frame`) and is after TIME.
abbrev pub EndsAfterPesPacket : Listening → Transmission → Option UnreadReason → ℕ → Type 0
EndsAfterPesPacket l frames unread n =
    ((n ≡ length frames) × (unread ≡ None))
    ⊎ ((n < length frames) × (least_frame l.options.within frames n ≤ frame_at frames n)
    × (l.at < frame_at frames n))

-- Reception fails after n PES packets: the next PES packet can't be read or belongs to no frame,
-- its frame is not after the frame before (or is before it, if `within` is not 0), or its frame is
-- not after TIME and one of its packets is lost (`is_lost_packet`) but must not be lost.
abbrev pub RefusesAfterPesPacket : Listening → Transmission → Option UnreadReason → ℕ → ListenFault
    → Type 0
RefusesAfterPesPacket l frames unread n (fault.File (check.Order index)) =
    (index ≡ n) × (n < length frames)
    × (frame_at frames n < least_frame l.options.within frames n)
RefusesAfterPesPacket l frames unread n (fault.LostHeader frame packet) =
    (n < length frames)
    × (frame_at frames n ≡ frame)
    × (least_frame l.options.within frames n ≤ frame)
    × (frame ≤ l.at)
    × (forbidden_loss l frames n ≡ Some packet)
RefusesAfterPesPacket l frames unread n f =
    (u : UnreadReason) × (n ≡ length frames) × (unread ≡ Some u)
    × (f ≡ fault.File (unread_fault n (Some u)))

-- The source failed while a PES packet was read. The PES packets before it were consumed and
-- received.
pub record FailsListening (l : Listening) (known left : Option (List ℕ)) (f : ListenFault) : Type 0
  where
    pub index : ℕ
    pub is : f ≡ fault.File (check.Pes index Read)
    pub place : FailsAfterValidPackets index known left
    pub heard :
        (frames : Transmission) (unread : Option UnreadReason)
        → IfKnown known (λ bytes.
        ReadsAs (clock_of l.options) 0 bytes frames unread → AreReceivedPesPackets l frames index)

-- ---- the run of a receiver

-- The effect of reception on the receiver: it uses the packets that arrive, without the rows that
-- it drops, up to TIME, the end of the source, or the PES packet at which reception fails. For a
-- byte of even parity it stores `leaves` of the old code.
pub record RunsPesPackets
    (leaves : ℕ → ℕ) (l : Listening) (frames : Transmission) (unread : Option UnreadReason)
    (w : PageIdValue) (old new : Display) (result : Result (Unit {0}) ListenFault)
    : Type 0 where
  pub n : ℕ
  pub heard : AreReceivedPesPackets l frames n
  pub run :
      ReceivesPackets l leaves w old
      (packets_used_by l 0 (packets_before frames n)) new
  pub ends :
      MatchResult result (λ _. EndsAfterPesPacket l frames unread n) (RefusesAfterPesPacket l frames
      unread n)

-- The effect of reception on the receiver and on the source, which has the bytes `known` before and
-- `left` afterwards.
pub record ReceivesFile
    (leaves : ℕ → ℕ) (l : Listening) (frames : Transmission) (unread : Option UnreadReason)
    (known left : Option (List ℕ)) (w : PageIdValue) (old new : Display)
    (result : Result (Unit {0}) ListenFault)
    : Type 0 where
  pub runs : RunsPesPackets leaves l frames unread w old new result
  -- If the PES packet after the received ones has a frame, nothing was read after it.
  pub stops : runs.n < length frames → TakesValidPesPackets (runs.n + 1) known left
