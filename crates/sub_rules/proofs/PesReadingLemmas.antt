-- For a file that ends at its first skipped PES packet, the reader's next result is the next frame,
-- the end of the file, or the fault at which the file ends.
use Rattle.std.proofs.lemmas.Bool.Decides.{nat_tests}
use Rattle.std.proofs.Common.{◌≡◌, ℕ, suc, ◌+◌, ◌<◌, ◌≤◌, List, [], ◌∷◌, length, drop, get_or}
use Rattle.std.proofs.Common.{Option, Some, None, Result, Ok, Err, refl, ap, arith}
use Rattle.std.proofs.lemmas.List.{get_or-map, get_or-drop, length-drop, drop-drop}
use Rattle.ttx_pes.specs.PesGrammar.{PesValue}
use Rattle.ttx_pes.specs.PesPackets.{rest_after_pes_packet}
use Rattle.ttx_pes.specs.Reading.{answer_at, rest_after, max_pes_packets}
use Rattle.ttx_pes.specs.SentUnits.{packets_of_units}
use Rattle.sub_plan.specs.FrameTime.{Clock}
use Rattle.sub_rules.specs.Events.{unread_fault}
use Rattle.sub_rules.specs.FrameRules.{UnreadReason}
use Rattle.sub_rules.specs.PesFrames.{IsReadAs}
use Rattle.sub_rules.specs.PesReading.{ReadsAs, file_at}
use Rattle.sub_rules.specs.PesPackets.{PesPacket, ReadsPesPackets, ReportsPesPacket, pes_packets_at}
use Rattle.sub_rules.specs.PesPackets.{read_until_skipped}
use Rattle.sub_rules.specs.Sendings.{IsSentFrame}
use Rattle.sub_rules.specs.Transmission.{SentFrame, Transmission}
use Rattle.sub_rules.specs.declared.fault.CheckFault.{CheckFault}
use Rattle.sub_rules.specs.declared.pes_packet.NextPesPacket.{NextPesPacket}
use Rattle.sub_rules.specs.declared.pes_packet.NextPesPacket.TheVariants as next
use Rattle.sub_rules.specs.declared.valid_pes_packet.ValidPesPacket.{ValidPesPacket}
use Rattle.sub_rules.proofs.PesPacketFileLemmas.{file_at-next}

appended_frame_is_sent :
    (frames : Transmission) (n : ℕ) (s : SentFrame) (others : Transmission)
    → drop n frames ≡ s ∷ others
    → IsSentFrame frames n s.frame s.packets
appended_frame_is_sent frames n s others e =
    let size : length (drop n frames) ≡ suc (length others) = ap length e in
    let l : n < length frames = omega (arith, length-drop n frames) in
    let at : get_or frames n s ≡ s = grind (arith, nat_tests, get_or-drop n frames 0 s) in
    grind (arith, nat_tests, get_or-map)

pub reads_ended :
    (clock : Clock) (given : ℕ) (bytes : List ℕ)
    → given ≤ max_pes_packets
    → answer_at given bytes ≡ Ok None
    → ReadsAs clock given bytes [] None
reads_ended clock given bytes few ends = grind (arith, nat_tests, file_at-next)

pub reads_more :
    (clock : Clock) (given : ℕ) (bytes : List ℕ) (v : PesValue) (s : SentFrame)
    (frames : Transmission) (unread : Option UnreadReason)
    → given ≤ max_pes_packets
    → answer_at given bytes ≡ Ok (Some v)
    → IsReadAs clock v s
    → ReadsAs clock (given + 1) (rest_after bytes) frames unread
    → ReadsAs clock given bytes (s ∷ frames) unread
reads_more clock given bytes v s frames unread few is sent reads =
    grind (arith, nat_tests, file_at-next)

abbrev pub ReportsNext :
    Clock → ℕ → List ℕ → PesValue → Result (Option NextPesPacket) CheckFault → Type 0
ReportsNext clock n bytes v answer =
    (pes_packets : List PesPacket) (unread : Option UnreadReason)
    → ReadsPesPackets clock n bytes pes_packets unread
    → ReportsPesPacket clock n bytes pes_packets unread v answer

abbrev pub reported_fault : Result (Option NextPesPacket) CheckFault → Option CheckFault
reported_fault (Ok (Some (next.Skipped f))) = Some f
reported_fault (Err f) = Some f
reported_fault _ = None

-- The PES packet with the value v is entry n of the transmission, in this frame, and the remaining
-- bytes are read as the later entries.
pub record ReadsNext
    (clock : Clock) (n : ℕ) (bytes : List ℕ) (frames : Transmission) (unread : Option UnreadReason)
    (v : PesValue) (frame : ℕ)
    : Type 0 where
  pub sent : IsSentFrame frames n frame (packets_of_units v.units)
  pub left : ReadsAs clock (n + 1) (rest_after_pes_packet bytes) (drop (n + 1) frames) unread

pub reads_next :
    (clock : Clock) (n : ℕ) (bytes : List ℕ) (frames : Transmission) (unread : Option UnreadReason)
    (v : PesValue) (sending : ValidPesPacket)
    → ReadsAs clock n bytes (drop n frames) unread
    → ReportsNext clock n bytes v (Ok (Some (next.Sent sending)))
    → ReadsNext clock n bytes frames unread v sending.frame
unfolding file_at read_until_skipped
reads_next clock n bytes frames unread v sending reads reports =
    let file = pes_packets_at clock n bytes in
    let rest = file_at clock (n + 1) (rest_after_pes_packet bytes) in
    let s : SentFrame = record { frame = sending.frame; packets = packets_of_units v.units } in
    let is = (reports file.pes_packets file.unread refl).0 in
    let first = is.first in
    let left = is.left in
    grind (arith, nat_tests, drop-drop 1 n frames, appended_frame_is_sent frames n s rest.frames)

pub reads_end :
    (clock : Clock) (n : ℕ) (bytes : List ℕ) (frames : Transmission) (unread : Option UnreadReason)
    (v : PesValue)
    → ReadsAs clock n bytes (drop n frames) unread
    → ReportsNext clock n bytes v (Ok None)
    → (length frames ≤ n) × (unread ≡ None)
unfolding file_at read_until_skipped
reads_end clock n bytes frames unread v reads reports =
    let file = pes_packets_at clock n bytes in
    let is = reports file.pes_packets file.unread refl in
    grind (arith, nat_tests, length-drop n frames)

pub reads_unread :
    (clock : Clock) (n : ℕ) (bytes : List ℕ) (frames : Transmission) (unread : Option UnreadReason)
    (v : PesValue) (answer : Result (Option NextPesPacket) CheckFault) (f : CheckFault)
    → ReadsAs clock n bytes (drop n frames) unread
    → ReportsNext clock n bytes v answer
    → reported_fault answer ≡ Some f
    → (length frames ≤ n) × (u : UnreadReason) × (unread ≡ Some u) × (f ≡ unread_fault n (Some u))
unfolding file_at read_until_skipped
reads_unread clock n bytes frames unread v answer f reads reports of =
    let file = pes_packets_at clock n bytes in
    let is = reports file.pes_packets file.unread refl in
    grind (arith, nat_tests, length-drop n frames)
