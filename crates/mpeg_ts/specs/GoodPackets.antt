-- The good transport packets of a PID, each with its link to the good packet before it. A good
-- packet is usable, has a payload, and is not the first repeat of the good packet before it
-- (ISO/IEC 13818-1, 2.4.3.3: continuity_counter, by which a packet may be sent twice; 2.4.3.5:
-- discontinuity_indicator).
use Rattle.std.specs.Prelude.{ℕ, ◌+◌, ◌*◌, ◌%◌, ◌==◌, ◌&&◌, ◌||◌, not, Bool, true, false}
use Rattle.std.specs.Prelude.{if◌then◌else◌, List, [], ◌∷◌, Option, Some, None, bytes_eq}
use Rattle.mpeg_ts.specs.PacketsInStep.{Item, Packet, Skipped}
use Rattle.mpeg_ts.specs.TransportPacket.{pid, is_unusable, has_payload, announces_jump, counter}
use Rattle.mpeg_ts.specs.TransportPacket.{packet_header, payload}

-- ---- events of a PID

-- An event of a PID: a usable transport packet, an unusable transport packet, or a loss. A loss
-- means that so many consecutive bytes were skipped that packets of the PID may be missing although
-- its continuity_counter goes on.
pub data PidEvent : Type 0 where
  Valid : List ℕ → PidEvent
  Wrong : PidEvent
  Loss : PidEvent

-- The number of skipped bytes that counts as a loss: 15 times the packet distance. After 15 lost
-- packets of a PID, its continuity_counter has the same value again, as in a repeat.
abbrev pub loss_size : ℕ → ℕ
loss_size distance = 15 * distance

-- The event of a transport packet of the PID: usable or unusable.
abbrev pub event_of_packet : List ℕ → PidEvent
event_of_packet p = if is_unusable p then Wrong else Valid p

-- The events of a PID in a list of items, if `run` consecutive bytes were skipped before the items.
-- A loss is an event of the byte with which the skipped bytes become a loss.
unfoldable pub pid_events : ℕ → ℕ → ℕ → List Item → List PidEvent
pid_events distance number run [] = []
pid_events distance number run (Packet p ∷ items) =
    if pid p == number then event_of_packet p ∷ pid_events distance number 0 items
    else pid_events distance number 0 items
pid_events distance number run (Skipped ∷ items) =
    if run + 1 == loss_size distance then Loss ∷ pid_events distance number (run + 1) items
    else pid_events distance number (run + 1) items

-- ---- good transport packets

-- The link of a good transport packet to the good packet before it: there is none before it
-- (`First`); by its continuity_counter, it follows that packet directly; it, or a packet without a
-- payload between them, announced a discontinuity, and no data is known to be lost (`Seam`); or
-- data counts as lost (`Break`).
pub data PacketLink : Type 0 where
  First : PacketLink
  Follows : PacketLink
  Seam : PacketLink
  Break : PacketLink

-- A good transport packet and its link to the good packet before it.
pub record GoodPacket : Type 0 where
  pub link : PacketLink
  pub packet : List ℕ

-- The last good transport packet (`None` before the first), and the events since then: it was
-- repeated, a usable packet without a payload announced a discontinuity, an unusable packet came,
-- or a loss.
pub record PacketHistory : Type 0 where
  pub good : Option (List ℕ)
  pub has_repeat : Bool
  pub has_jump : Bool
  pub has_unusable_packet : Bool
  pub has_loss : Bool

-- The history with this last good transport packet (`None` before the first) and no event since.
abbrev pub empty_history : Option (List ℕ) → PacketHistory
empty_history good = record {
  good = good;
  has_repeat = false;
  has_jump = false;
  has_unusable_packet = false;
  has_loss = false;
}

-- The two transport packets have equal bytes 0 to 3 and equal payloads.
abbrev pub has_same_header_and_payload : List ℕ → List ℕ → Bool
has_same_header_and_payload p q =
    bytes_eq (packet_header p) (packet_header q) && bytes_eq (payload p) (payload q)

-- The transport packet repeats a good packet: both have equal bytes 0 to 3 and equal payloads, and
-- this is the first repeat. No discontinuity was announced between them, and the repeat announces
-- one only if the good packet did.
abbrev pub is_repeat_of : Option (List ℕ) → PacketHistory → List ℕ → Bool
is_repeat_of None history p = false
is_repeat_of (Some q) history p =
    has_same_header_and_payload q p && not history.has_repeat && not history.has_jump
    && (not (announces_jump p) || announces_jump q)

-- The transport packet is the first repeat of the last good packet (`is_repeat_of`).
abbrev pub is_repeat : PacketHistory → List ℕ → Bool
is_repeat history p = is_repeat_of history.good history p

-- The continuity_counter of packet q is that of packet p plus one, modulo 16.
abbrev pub counter_is_next : List ℕ → List ℕ → Bool
counter_is_next p q = counter q == (counter p + 1) % 0x10

-- The link of a good transport packet to the good packet before it; `First` if there is none.
abbrev pub link_from : Option (List ℕ) → PacketHistory → List ℕ → PacketLink
link_from None history p = First
link_from (Some q) history p =
    if history.has_unusable_packet || history.has_loss then Break
    else if history.has_jump || announces_jump p then Seam
    else if counter_is_next q p then Follows
    else Break

-- A good transport packet with its link to the good packet before it.
abbrev pub linked_packet : PacketHistory → List ℕ → GoodPacket
linked_packet history p = record { link = link_from history.good history p; packet = p }

-- Good transport packets in order, and whether an unusable packet of the PID comes after all of
-- them.
pub record GoodPackets : Type 0 where
  pub packets : List GoodPacket
  pub wrong_after : Bool

-- A list of good transport packets with one more packet at its front.
abbrev pub with_good_packet : GoodPacket → GoodPackets → GoodPackets
with_good_packet g more = record { packets = g ∷ more.packets; wrong_after = more.wrong_after }

-- The good transport packets among further events of the PID, after the events of this history.
unfoldable pub good_packets_after : PacketHistory → List PidEvent → GoodPackets
good_packets_after history [] = record { packets = []; wrong_after = history.has_unusable_packet }
good_packets_after history (Wrong ∷ pid_events) = good_packets_after
    (record history { has_unusable_packet = true }) pid_events
good_packets_after history (Loss ∷ pid_events) = good_packets_after
    (record history { has_loss = true }) pid_events
good_packets_after history (Valid p ∷ pid_events) =
    if not (has_payload p) then
    good_packets_after (record history { has_jump = history.has_jump || announces_jump p })
    pid_events
    else if is_repeat history p then good_packets_after (record history { has_repeat = true })
    pid_events
    else with_good_packet (linked_packet history p) (good_packets_after (empty_history (Some p))
    pid_events)

-- The good transport packets of a PID in a recording with these items.
abbrev pub good_packets : ℕ → ℕ → List Item → GoodPackets
good_packets distance number items =
    good_packets_after (empty_history None) (pid_events distance number 0 items)
