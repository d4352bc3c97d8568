-- Time distances of the PES packets of a PID, as they were sent and as they were read, for the law
-- of pace. Continuity counters alone do not show every loss, since they repeat after 16 packets
-- (ISO/IEC 13818-1, continuity_counter).
use Rattle.std.specs.Prelude.{ℕ, ◌+◌, ◌<◌, ◌≤◌, List, [], ◌∷◌, length, take, ⊤}
use Rattle.mpeg_ts.specs.TransportPacket.{payload}
use Rattle.recording_laws.specs.Losses.{SentUnit, sent_packet}
use Rattle.recording_laws.specs.Multiplex.{SentPes, carriers_of_pes}

-- The bytes of a PES packet up to its PTS, which ends with byte 13, counted from 0.
abbrev pub up_to_pts : List ℕ → List ℕ
up_to_pts packet = take 14 packet

-- The frame of a PES packet, computed by `frame_of` from the bytes up to its PTS.
abbrev pub frame_up_to_pts : (List ℕ → ℕ) → List ℕ → ℕ
frame_up_to_pts frame_of packet = frame_of (up_to_pts packet)

-- The first TS packet of a PES packet contains its PTS.
--
-- Without this assumption, a PES packet that was never sent could be read: nine bytes of a PES
-- packet arrive in its first TS packet, 16 packets of the PID with payload are lost, and the next
-- such packet is from the middle of another PES packet. Its bytes are then read as a PTS, whose
-- frame may happen to fit.
abbrev pub FirstPacketContainsPts : ℕ → SentPes SentUnit → Type 0
FirstPacketContainsPts distance s = 14 ≤ length (payload (sent_packet distance s.first.packet))

-- ---- distances of PES packets as sent

-- `between` TS packets with payload, without their repeats, come between the start of a PES packet
-- with this frame and that of the first of these PES packets. Those with 16 or more between the
-- starts are more than `pace` frames later.
abbrev pub AreFarFrom : (List ℕ → ℕ) → ℕ → ℕ → ℕ → List (SentPes SentUnit) → Type 0
AreFarFrom frame_of pace frame between [] = ⊤
AreFarFrom frame_of pace frame between (s ∷ more) =
    (16 ≤ between → frame + pace < frame_up_to_pts frame_of s.bytes)
    × AreFarFrom frame_of pace frame (between + length (carriers_of_pes s)) more

-- Any two PES packets with 16 or more TS packets with payload, without their repeats, between their
-- starts are more than `pace` frames apart, in rising order.
abbrev pub AreFarApart : (List ℕ → ℕ) → ℕ → List (SentPes SentUnit) → Type 0
AreFarApart frame_of pace [] = ⊤
AreFarApart frame_of pace (s ∷ more) =
    AreFarFrom frame_of pace (frame_up_to_pts frame_of s.bytes) (length s.others) more
    × AreFarApart frame_of pace more

-- ---- distances of PES packets as read

-- Each PES packet is at most `pace` frames later than the PES packet before it, and the first is at
-- most `pace` frames later than `frame`.
abbrev pub KeepPaceFrom : (List ℕ → ℕ) → ℕ → ℕ → List (List ℕ) → Type 0
KeepPaceFrom frame_of pace frame [] = ⊤
KeepPaceFrom frame_of pace frame (p ∷ more) =
    (frame_up_to_pts frame_of p ≤ frame + pace)
    × KeepPaceFrom frame_of pace (frame_up_to_pts frame_of p) more

-- Each PES packet is at most `pace` frames later than the PES packet before it.
abbrev pub KeepPace : (List ℕ → ℕ) → ℕ → List (List ℕ) → Type 0
KeepPace frame_of pace [] = ⊤
KeepPace frame_of pace (p ∷ more) = KeepPaceFrom frame_of pace (frame_up_to_pts frame_of p) more
