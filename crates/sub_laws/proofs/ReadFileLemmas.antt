-- Each Teletext packet that is read from a PES file has 42 bytes, and no PES packet of it is
-- skipped because a device failed.
use Rattle.std.proofs.lemmas.Bool.Decides.{nat_tests}
use Rattle.std.proofs.Common.{◌≡◌, ℕ, zero, suc, ◌+◌, ◌-◌, ◌*◌, ◌/◌, ◌<◌, ◌≤◌, false}
use Rattle.std.proofs.Common.{List, [], ◌∷◌, length, map, take, drop, slice_index, Option}
use Rattle.std.proofs.Common.{Some, Result, Ok, Err, MatchResult, IfSome}
use Rattle.std.proofs.Common.{◌∙◌, refl, arith, length-take, length-drop}
use Rattle.std.proofs.lemmas.List.{length-map}
use Rattle.std.specs.List.{AllByRecursion}
use Rattle.std.specs.Prelude.{⊤}
use Rattle.ttx_packet.specs.BitOrder.{mirror}
use Rattle.ttx_packet.specs.PacketAddress.{IsPacket}
use Rattle.ttx_pes.specs.DataUnit.{UnitValue}
use Rattle.ttx_pes.specs.Fault.{is_read_fault, is_write_fault}
use Rattle.ttx_pes.specs.PesGrammar.{PesValue}
use Rattle.ttx_pes.specs.PesPackets.{PesPacketsValue, rest_after_pes_packet}
use Rattle.ttx_pes.specs.PesPackets.{prepend_pes_packet_answer}
use Rattle.ttx_pes.specs.PesPackets.{pes_packets_from}
use Rattle.ttx_pes.specs.Reading.{answer_at, max_pes_packets, packet_at, pts_at, size_at}
use Rattle.ttx_pes.specs.Reading.{teletext_at, unit_at, unit_of, units_at, value_at}
use Rattle.ttx_pes.specs.declared.fault.PesFault.{PesFault}
use Rattle.sub_plan.specs.FrameTime.{Clock}
use Rattle.sub_rules.specs.FrameRules.{UnreadReason}
use Rattle.sub_rules.specs.FrameRules.UnreadReason.{BadPacket, NoFrame}
use Rattle.sub_rules.specs.PacketRules.{packets_of_units}
use Rattle.sub_rules.specs.PesReading.{file_at}
use Rattle.sub_rules.specs.PesPackets.{PesPacket, PesPacketFileValue, file_of_pes_packets}
use Rattle.sub_rules.specs.PesPackets.{frames_of, pes_packet_of}
use Rattle.sub_rules.specs.PesPackets.{pes_packets_at, read_until_skipped}
use Rattle.sub_rules.specs.PesPackets.PesPacket.{Skipped, Sent}
use Rattle.sub_rules.specs.Transmission.{SentFrame}
use Rattle.sub_rules.proofs.PacketLists.{Each-push}

-- The fault was caused by the bytes that were read, not by a failure of a device.
pub record IsCausedByBytes (f : PesFault) : Type 0 where
  pub no_source : is_read_fault f ≡ false
  pub no_sink : is_write_fault f ≡ false

record HoldsOrBadBytes {A : Type 0} (P : A → Type 0) (r : Result A PesFault) : Type 0 where
  pub is : MatchResult r P IsCausedByBytes

small : (bytes : List ℕ) (place : ℕ) → slice_index (map mirror bytes) place < 0x100
unfolding mirror
small [] place = omega arith
small (b ∷ bytes) zero = omega arith
small (b ∷ bytes) (suc k) = small bytes k

unit_has_complete_packet : (b : List ℕ) → length b ≡ 46 → IsPacket (unit_of b).packet
unit_has_complete_packet b long = grind (arith, nat_tests, length-map, length-drop, small)

abbrev AreCompleteUnits : List UnitValue → Type 0
AreCompleteUnits units = AllByRecursion (λ (u : UnitValue). IsPacket u.packet) units

read_unit_is_complete : (prefix : List UnitValue) (b : List ℕ) → length b ≡ 46 → AreCompleteUnits
    prefix
    → HoldsOrBadBytes AreCompleteUnits (unit_at prefix b)
unfolding unit_at teletext_at
read_unit_is_complete prefix b long before =
    let one = unit_has_complete_packet b long in grind (arith, nat_tests, Each-push)

read_units_are_complete : (n : ℕ) (prefix : List UnitValue) (b : List ℕ) → 46 * n ≤ length b
    → AreCompleteUnits prefix → HoldsOrBadBytes AreCompleteUnits (units_at n prefix b)
unfolding units_at
read_units_are_complete zero prefix b long before = record { is = before }
read_units_are_complete (suc n) prefix b long before =
    let size : length (take 46 b) ≡ 46 = length-take 46 b ∙ omega arith in
    let left : 46 * n ≤ length (drop 46 b) = omega (arith, length-drop 46 b) in
    let one = read_unit_is_complete prefix (take 46 b) size before in
    grind (arith, nat_tests, read_units_are_complete n)

read_value_is_complete : (b : List ℕ) → HoldsOrBadBytes (λ (v : PesValue). AreCompleteUnits v.units)
    (value_at b)
unfolding value_at pts_at
read_value_is_complete b =
    let units = read_units_are_complete (length (drop 40 b) / 46) [] (drop 40 b) (omega arith) tt in
    grind (arith, nat_tests)

read_size_is_sound : (b : List ℕ) → HoldsOrBadBytes (λ n. ⊤) (size_at b)
unfolding size_at
read_size_is_sound b = grind (arith, nat_tests)

read_packet_is_complete : (b : List ℕ) → HoldsOrBadBytes (λ p. AreCompleteUnits p.0.units)
    (packet_at b)
unfolding packet_at
read_packet_is_complete b = go (size_at (take 6 b)) refl
  where
    go : (r : Result ℕ PesFault) → size_at (take 6 b) ≡ r
        → HoldsOrBadBytes (λ p. AreCompleteUnits p.0.units) (packet_at b)
    go (Err f) is = let size = read_size_is_sound (take 6 b) in grind (arith, nat_tests)
    go (Ok size) is =
        let value = read_value_is_complete (take (size - 6) (drop 6 b)) in grind (arith, nat_tests)

abbrev IsCompleteAnswer : Option PesValue → Type 0
IsCompleteAnswer o = IfSome o (λ v. AreCompleteUnits v.units)

answer_is_complete : (given : ℕ) (b : List ℕ) → HoldsOrBadBytes IsCompleteAnswer (answer_at given b)
unfolding answer_at
answer_is_complete given [] = record { is = tt }
answer_is_complete given (x ∷ b) =
    let read = read_packet_is_complete (x ∷ b) in grind (arith, nat_tests)

complete_units_have_complete_packets : (units : List UnitValue) → AreCompleteUnits units
    → AllByRecursion IsPacket (packets_of_units units)
complete_units_have_complete_packets [] h = tt
complete_units_have_complete_packets (u ∷ units) h = (
  h.0,
  complete_units_have_complete_packets
      units h.1,
)

-- The Teletext packets of a PES packet that is sent have 42 bytes. A PES packet is never skipped
-- because of a failure of a device.
abbrev pub IsSoundPesPacket : PesPacket → Type 0
IsSoundPesPacket (Sent s) = AllByRecursion IsPacket s.packets
IsSoundPesPacket (Skipped (BadPacket f)) = IsCausedByBytes f
IsSoundPesPacket (Skipped NoFrame) = ⊤

pub record ArePesPacketsSound (file : PesPacketFileValue) : Type 0 where
  pub each : AllByRecursion IsSoundPesPacket file.pes_packets
  pub fault : (f : PesFault) → file.unread ≡ Some (BadPacket f) → IsCausedByBytes f

next_packet_keeps_file_sound : (clock : Clock) (r : Result (Option PesValue) PesFault)
    (more : PesPacketsValue)
    → HoldsOrBadBytes IsCompleteAnswer r
    → ArePesPacketsSound (file_of_pes_packets clock more)
    → ArePesPacketsSound (file_of_pes_packets clock (prepend_pes_packet_answer r more))
unfolding pes_packet_of
next_packet_keeps_file_sound clock r more h sound = grind
    (arith, nat_tests, complete_units_have_complete_packets)

packets_from_bytes_are_sound : (clock : Clock) (room given : ℕ) (b : List ℕ)
    → ArePesPacketsSound (file_of_pes_packets clock (pes_packets_from room given b))
unfolding pes_packets_from
packets_from_bytes_are_sound clock zero given [] = grind (arith, nat_tests)
packets_from_bytes_are_sound clock zero given (x ∷ b) = grind (arith, nat_tests)
packets_from_bytes_are_sound clock (suc room) given b =
    next_packet_keeps_file_sound clock (answer_at given b) _ (answer_is_complete given b)
    (packets_from_bytes_are_sound clock room (given + 1) (rest_after_pes_packet b))

pub file_pes_packets_sound : (clock : Clock) (given : ℕ) (b : List ℕ)
    → ArePesPacketsSound (pes_packets_at clock given b)
unfolding pes_packets_at
file_pes_packets_sound clock given b = packets_from_bytes_are_sound clock (max_pes_packets - given)
    given b

pub sent_frames_are_complete : (pes_packets : List PesPacket) → AllByRecursion IsSoundPesPacket
    pes_packets
    → AllByRecursion (λ (s : SentFrame). AllByRecursion IsPacket s.packets) (frames_of pes_packets)
unfolding frames_of
sent_frames_are_complete [] sound = tt
sent_frames_are_complete (Sent s ∷ pes_packets) sound = (
  sound.0,
  sent_frames_are_complete
      pes_packets sound.1,
)
sent_frames_are_complete (Skipped u ∷ pes_packets) sound = sent_frames_are_complete pes_packets
    sound.1

read_to_the_end : (pes_packets : List PesPacket) (unread : Option UnreadReason) → AllByRecursion
    IsSoundPesPacket pes_packets
    → AllByRecursion (λ (s : SentFrame). AllByRecursion IsPacket s.packets)
    (read_until_skipped pes_packets unread).frames
unfolding read_until_skipped
read_to_the_end [] unread sound = tt
read_to_the_end (Sent s ∷ pes_packets) unread sound = (
  sound.0,
  read_to_the_end pes_packets unread
      sound.1,
)
read_to_the_end (Skipped u ∷ pes_packets) unread sound = tt

pub file_frames_are_complete : (clock : Clock) (given : ℕ) (b : List ℕ)
    → AllByRecursion (λ (s : SentFrame). AllByRecursion IsPacket s.packets)
    (file_at clock given b).frames
unfolding file_at
file_frames_are_complete clock given b = grind
    (arith, nat_tests, read_to_the_end, file_pes_packets_sound)
