-- A PES file as a list of PES packets (not defined by a standard). A PES packet is sent if it
-- carries a frame of the day. It is skipped if it is not valid or its PTS belongs to no frame of
-- the day.
use Rattle.std.specs.Prelude.{◌≡◌, ℕ, ◌+◌, ◌==◌, ◌&&◌, Bool, false, not, if◌then◌else◌, List, []}
use Rattle.std.specs.Prelude.{◌∷◌, ◌++◌, length, map, Option, Some, None, Result, Ok, Err, IfOk}
use Rattle.std.specs.Prelude.{IsSome}
use Rattle.std.specs.Io.KnownBytes.{Consumes}
use Rattle.std.specs.List.{AllByRecursion, concat}
use Rattle.ttx_pes.specs.declared.fault.PesFault.{PesFault}
use Rattle.ttx_pes.specs.PesGrammar.{PesValue}
use Rattle.ttx_pes.specs.PesPackets.{IsPesPacket, PesPacketsValue, rest_after_pes_packet}
use Rattle.ttx_pes.specs.PesPackets.{pes_packets_after}
use Rattle.ttx_pes.specs.Reader.{FailsWithinPacket}
use Rattle.ttx_pes.specs.SentUnits.{packets_of_units}
use Rattle.sub_plan.specs.FrameTime.{Clock}
use Rattle.sub_rules.specs.Events.{unread_fault}
use Rattle.sub_rules.specs.FrameRules.{UnreadReason, end_frame}
use Rattle.sub_rules.specs.FrameRules.UnreadReason.{BadPacket, NoFrame}
use Rattle.sub_rules.specs.Transmission.{SentFrame, Transmission}
use Rattle.sub_rules.specs.declared.fault.CheckFault.{CheckFault}
use Rattle.sub_rules.specs.declared.pes_packet.NextPesPacket.{NextPesPacket}
use Rattle.sub_rules.specs.declared.pes_packet.NextPesPacket.TheVariants as next
use Rattle.sub_rules.specs.declared.valid_pes_packet.ValidPesPacket.{ValidPesPacket}

-- A PES packet of a file: it carries a frame, or is skipped for this reason.
pub data PesPacket : Type 0 where
  Sent : SentFrame → PesPacket
  Skipped : UnreadReason → PesPacket

-- The contents of a PES file: its PES packets, and why the rest of the file cannot be read, if it
-- cannot.
pub record PesPacketFileValue : Type 0 where
  pub pes_packets : List PesPacket
  pub unread : Option UnreadReason

-- The PES packet with this frame and these Teletext packets. It is skipped if its PTS belongs to no
-- frame.
abbrev pub pes_packet_at_frame : Option ℕ → List (List ℕ) → PesPacket
pes_packet_at_frame None packets = Skipped NoFrame
pes_packet_at_frame (Some frame) packets = Sent (record { frame = frame; packets = packets })

-- The PES packet for a result of the reader. `clock` converts the PTS to a frame.
unfoldable pub pes_packet_of : Clock → Result PesValue PesFault → PesPacket
pes_packet_of clock (Ok v) = pes_packet_at_frame (clock v.pts) (packets_of_units v.units)
pes_packet_of clock (Err f) = Skipped (BadPacket f)

-- Why the rest of the file cannot be read, given the reader's fault; `None` if the entire file was
-- read.
abbrev pub unread_reason_of : Option PesFault → Option UnreadReason
unread_reason_of None = None
unread_reason_of (Some f) = Some (BadPacket f)

-- The contents of a PES file with these PES packets.
abbrev pub file_of_pes_packets : Clock → PesPacketsValue → PesPacketFileValue
file_of_pes_packets clock value = record {
  pes_packets = map (pes_packet_of clock) value.pes_packets;
  unread = unread_reason_of value.left;
}

-- The contents of a PES file after its first `given` packets.
unfoldable pub pes_packets_at : Clock → ℕ → List ℕ → PesPacketFileValue
pes_packets_at clock given bytes = file_of_pes_packets clock (pes_packets_after given bytes)

-- The contents of a PES file. Reading continues after a skipped packet.
abbrev pub pes_packet_file_of : Clock → List ℕ → PesPacketFileValue
pes_packet_file_of clock bytes = pes_packets_at clock 0 bytes

-- The bytes after `given` PES packets are exactly `pes_packets`, followed by the unread rest, if
-- there is one.
abbrev pub ReadsPesPackets : Clock → ℕ → List ℕ → List PesPacket → Option UnreadReason → Type 0
ReadsPesPackets clock given bytes pes_packets unread =
    pes_packets_at clock given bytes ≡ record { pes_packets = pes_packets; unread = unread }

-- `pes_packet` is the first of `pes_packets`. The bytes after the first PES packet are exactly the
-- others, followed by the unread rest, if there is one.
pub record ReadsPesPacket
    (clock : Clock) (n : ℕ) (bytes : List ℕ) (pes_packets : List PesPacket)
    (unread : Option UnreadReason)
    (pes_packet : PesPacket)
    : Type 0 where
  pub more : List PesPacket
  pub first : pes_packets ≡ pes_packet ∷ more
  pub left : ReadsPesPackets clock (n + 1) (rest_after_pes_packet bytes) more unread

-- The property `IsSo` holds if the result is a PES packet.
abbrev pub OnPesPacket : Result (Option NextPesPacket) CheckFault → Type 0 → Type 0
OnPesPacket answer IsSo = IfOk answer (λ pes_packet. IsSome pes_packet → IsSo)

-- The property `IsSo` holds for the PES packet of the result, if the result is a PES packet that
-- was sent (`Sent`).
abbrev pub IfSent : Result (Option NextPesPacket) CheckFault → (ValidPesPacket → Type 0) → Type 0
IfSent answer IsSo =
    (sending : ValidPesPacket) → answer ≡ Ok (Some (next.Sent sending)) → IsSo sending

-- A result of `next_pes_packet` agrees with the bytes after n PES packets: it is the first of
-- `pes_packets`, with the value v if that packet is sent; or no packet is left, and the result is
-- the fault for the reason `unread`, or `None` without such a reason.
abbrev pub ReportsPesPacket : Clock → ℕ → List ℕ → List PesPacket → Option UnreadReason → PesValue
    → Result (Option NextPesPacket) CheckFault → Type 0
ReportsPesPacket clock n bytes pes_packets unread v (Ok None) = (pes_packets ≡ []) × (unread ≡ None)
ReportsPesPacket clock n bytes pes_packets unread v (Ok (Some (next.Sent s))) =
    ReadsPesPacket clock n bytes pes_packets unread
    (Sent (record { frame = s.frame; packets = packets_of_units v.units }))
    × (clock v.pts ≡ Some s.frame)
ReportsPesPacket clock n bytes pes_packets unread v (Ok (Some (next.Skipped f))) =
    (u : UnreadReason)
    × (f ≡ unread_fault n (Some u))
    × ReadsPesPacket clock n bytes pes_packets unread (Skipped u)
ReportsPesPacket clock n bytes pes_packets unread v (Err f) =
    (pes_packets ≡ []) × (u : UnreadReason) × (unread ≡ Some u) × (f ≡ unread_fault n (Some u))

-- The call consumed exactly one PES packet.
pub record TakesOnePesPacket (old new : Option (List ℕ)) : Type 0 where
  pub bytes : List ℕ
  pub is_pes_packet : IsPesPacket bytes
  pub consumed : Consumes old new bytes

-- The call consumed exactly n PES packets.
pub record TakesPesPackets (n : ℕ) (old new : Option (List ℕ)) : Type 0 where
  pub pes_packets : List (List ℕ)
  pub number : length pes_packets ≡ n
  pub each : AllByRecursion IsPesPacket pes_packets
  pub consumed : Consumes old new (concat pes_packets)

-- The consumed bytes are n PES packets, and then too few bytes for another. Contracts state this if
-- the source failed while PES packet n, counted from 0, was read; the failure itself is not part of
-- this definition.
pub record FailsAtPesPacket (n : ℕ) (old new : Option (List ℕ)) : Type 0 where
  pub following : Option (List ℕ)
  pub before : TakesPesPackets n old following
  pub within : FailsWithinPacket following new

-- The frames of the PES packets that are sent; skipped packets have none.
unfoldable pub frames_of : List PesPacket → Transmission
frames_of [] = []
frames_of (Sent s ∷ pes_packets) = s ∷ frames_of pes_packets
frames_of (Skipped u ∷ pes_packets) = frames_of pes_packets

-- Appends Teletext packets to the last frame of a transmission, if it has a frame.
unfoldable pub with_packets : List (List ℕ) → Transmission → Transmission
with_packets packets [] = []
with_packets packets (s ∷ []) =
    record { frame = s.frame; packets = s.packets ++ packets } ∷ []
with_packets packets (s ∷ next ∷ frames) = s ∷ with_packets packets (next ∷ frames)

-- The PES packet continues the last frame: it has the same frame number, and `within` is not 0.
abbrev pub continues_with : ℕ → Transmission → SentFrame → Bool
continues_with within [] s = false
continues_with within (first ∷ sent) s =
    not (within == 0) && (end_frame (first ∷ sent) == s.frame)

-- The transmission after one more PES packet.
abbrev pub sent_after : ℕ → Transmission → SentFrame → Transmission
sent_after within sent s =
    if continues_with within sent s then with_packets s.packets sent else sent ++ s ∷ []

-- The transmission after more PES packets.
unfoldable pub joined_after : ℕ → Transmission → Transmission → Transmission
joined_after within sent [] = sent
joined_after within sent (s ∷ frames) = joined_after within (sent_after within sent s) frames

-- The frames of a list of PES packets that are sent. If `within` is not 0, consecutive ones of one
-- frame are merged; otherwise each is a frame.
abbrev pub joined : ℕ → Transmission → Transmission
joined within frames = joined_after within [] frames

-- The frames of a PES file, and why the rest of the file cannot be read, if it cannot.
pub record PesFileValue : Type 0 where
  pub frames : Transmission
  pub unread : Option UnreadReason

-- The frames of the PES packets before the first skipped one, and why it is skipped; without a
-- skipped packet, all frames and `unread`.
unfoldable pub read_until_skipped : List PesPacket → Option UnreadReason → PesFileValue
read_until_skipped [] unread = record { frames = []; unread = unread }
read_until_skipped (Sent s ∷ pes_packets) unread =
    let rest = read_until_skipped pes_packets unread in
    record { frames = s ∷ rest.frames; unread = rest.unread }
read_until_skipped (Skipped u ∷ pes_packets) unread = record { frames = []; unread = Some u }

-- The frames of a PES file before its first skipped packet, and why the rest is not read; `None` if
-- the entire file is read.
abbrev pub file_until_first_skipped : PesPacketFileValue → PesFileValue
file_until_first_skipped file = read_until_skipped file.pes_packets file.unread
