-- If the reader returns a PES packet, the PES packets of a file are this packet and those of the
-- remaining bytes. A packet is skipped if its PTS belongs to no frame or its contents have a fault.
use Rattle.std.proofs.lemmas.Bool.Decides.{nat_tests}
use Rattle.std.proofs.Common.{◌≡◌, ℕ, zero, suc, ◌+◌, ◌<◌, ◌≤◌, true, false, List, []}
use Rattle.std.proofs.Common.{◌∷◌, ◌++◌, length-append, Option, Some, None, Result, Ok, Err, refl}
use Rattle.std.proofs.Common.{ap, ◌∙◌, arith, cond}
use Rattle.std.proofs.KnownBytes.{Consumes-nil, Consumes-trans}
use Rattle.std.proofs.lemmas.List.{append-nil}
use Rattle.std.proofs.lemmas.List.Folds.{concat-append}
use Rattle.std.specs.List.{AllByRecursion, concat}
use Rattle.ttx_pes.proofs.PesHeaderLemmas.{valid_body_decodes, packet_is_header_and_body}
use Rattle.ttx_pes.proofs.PesPacketListLemmas.{value_leaves_rest, pes_packets_after-next}
use Rattle.ttx_pes.specs.Comparing.{TakesDataField}
use Rattle.ttx_pes.specs.Fault.{is_packet_content_fault, is_read_fault}
use Rattle.ttx_pes.specs.PesGrammar.{PesValue, IsValidPesPacket}
use Rattle.ttx_pes.specs.PesPackets.{IsPesPacket, PesPacketsValue, rest_after_pes_packet}
use Rattle.ttx_pes.specs.PesPackets.{prepend_pes_packet_answer}
use Rattle.ttx_pes.specs.PesPackets.{pes_packets_after}
use Rattle.ttx_pes.specs.Reading.{answer_at, max_pes_packets, rest_after}
use Rattle.ttx_pes.specs.SentUnits.{packets_of_units}
use Rattle.ttx_pes.specs.declared.fault.PesFault.{PesFault}
use Rattle.stl_file.specs.TimeCode.{day}
use Rattle.sub_plan.proofs.ClockLemmas.{found_below}
use Rattle.sub_plan.specs.FrameTime.{Clock, clock, clock_of, frame_with_tolerance}
use Rattle.sub_plan.specs.Options.{OptionsValue}
use Rattle.sub_rules.specs.FrameRules.{UnreadReason}
use Rattle.sub_rules.specs.FrameRules.UnreadReason.{BadPacket, NoFrame}
use Rattle.sub_rules.specs.PesReading.{file_at}
use Rattle.sub_rules.specs.PesPackets.{PesFileValue, PesPacket, PesPacketFileValue, ReadsPesPacket}
use Rattle.sub_rules.specs.PesPackets.{ReadsPesPackets}
use Rattle.sub_rules.specs.PesPackets.{TakesOnePesPacket, TakesPesPackets, file_of_pes_packets}
use Rattle.sub_rules.specs.PesPackets.{pes_packet_of}
use Rattle.sub_rules.specs.PesPackets.{pes_packets_at, read_until_skipped}
use Rattle.sub_rules.specs.PesPackets.{file_until_first_skipped}
use Rattle.sub_rules.specs.PesPackets.PesPacket.{Skipped, Sent}

-- A clock converts each PTS to a frame of the day, or to none.
clock-below :
    (within origin pts frame : ℕ) → clock within origin pts ≡ Some frame → frame < day
unfolding clock frame_with_tolerance
clock-below zero origin pts frame is = (found_below origin pts day (Some frame) is).0
clock-below (suc n) origin pts frame is = grind (arith, nat_tests)

pub clock_in_day :
    (o : OptionsValue) (pts frame : ℕ) → clock_of o pts ≡ Some frame → frame < day
clock_in_day o pts frame is = clock-below o.within o.origin pts frame is

abbrev pub before : PesPacket → PesPacketFileValue → PesPacketFileValue
before pes_packet rest = record
    { pes_packets = pes_packet ∷ rest.pes_packets; unread = rest.unread }

abbrev pub pes_packets_after_answer : Clock → Result (Option PesValue) PesFault → PesPacketFileValue
    →
    PesPacketFileValue
pes_packets_after_answer clock (Ok (Some v)) rest = before (pes_packet_of clock (Ok v)) rest
pes_packets_after_answer clock (Ok None) rest = record { pes_packets = []; unread = None }
pes_packets_after_answer clock (Err f) rest =
    cond (is_packet_content_fault f) (before (pes_packet_of clock (Err f)) rest)
    (record { pes_packets = []; unread = Some (BadPacket f) })

file_of-then : (clock : Clock) (answer : Result (Option PesValue) PesFault) (more : PesPacketsValue)
    → file_of_pes_packets clock (prepend_pes_packet_answer answer more)
    ≡ pes_packets_after_answer clock answer (file_of_pes_packets clock more)
file_of-then clock answer more = grind (arith, nat_tests)

-- If the reader's next result is a PES packet, valid or with a fault in its contents, the contents
-- of a PES file are this packet and the contents of the remaining bytes. Otherwise no PES packet is
-- left.
pub pes_packets_at-next : (clock : Clock) (given : ℕ) (bytes : List ℕ)
    (answer : Result (Option PesValue) PesFault)
    → given ≤ max_pes_packets
    → answer_at given bytes ≡ answer
    → pes_packets_at clock given bytes
    ≡ pes_packets_after_answer clock answer
    (pes_packets_at clock (given + 1) (rest_after_pes_packet bytes))
unfolding pes_packets_at
pes_packets_at-next clock given bytes answer few is =
    ap (file_of_pes_packets clock) (pes_packets_after-next given bytes answer few is)
    ∙ file_of-then clock answer (pes_packets_after (given + 1) (rest_after_pes_packet bytes))

-- If the reader's result gives a PES packet, this packet is the next packet of the remaining bytes.
answer_reads_pes_packet : (clock : Clock) (n : ℕ) (bytes : List ℕ) (pes_packets : List PesPacket)
    (unread : Option UnreadReason) (pes_packet : PesPacket) (answer : Result (Option PesValue)
    PesFault)
    → n ≤ max_pes_packets
    → ReadsPesPackets clock n bytes pes_packets unread
    → answer_at n bytes ≡ answer
    → ((rest : PesPacketFileValue) → pes_packets_after_answer clock answer rest ≡ before pes_packet
    rest)
    → ReadsPesPacket clock n bytes pes_packets unread pes_packet
answer_reads_pes_packet clock n bytes pes_packets unread pes_packet answer few reads is by =
    grind (arith, nat_tests, pes_packets_at-next clock n bytes answer few is)

-- A valid PES packet whose PTS belongs to a frame is read as sent in that frame.
pub valid_answer_reads_sent_packet : (clock : Clock) (n : ℕ) (bytes : List ℕ)
    (pes_packets : List PesPacket)
    (unread : Option UnreadReason) (v : PesValue) (frame : ℕ)
    → n ≤ max_pes_packets
    → ReadsPesPackets clock n bytes pes_packets unread
    → answer_at n bytes ≡ Ok (Some v)
    → clock v.pts ≡ Some frame
    → ReadsPesPacket clock n bytes pes_packets unread
    (Sent (record { frame = frame; packets = packets_of_units v.units }))
unfolding pes_packet_of
valid_answer_reads_sent_packet clock n bytes pes_packets unread v frame few reads is of =
    grind (arith, nat_tests, answer_reads_pes_packet)

-- A valid PES packet is skipped if its PTS belongs to no frame.
pub off_frame_answer_reads_skipped_packet : (clock : Clock) (n : ℕ) (bytes : List ℕ)
    (pes_packets : List PesPacket)
    (unread : Option UnreadReason) (v : PesValue)
    → n ≤ max_pes_packets
    → ReadsPesPackets clock n bytes pes_packets unread
    → answer_at n bytes ≡ Ok (Some v)
    → clock v.pts ≡ None
    → ReadsPesPacket clock n bytes pes_packets unread (Skipped NoFrame)
unfolding pes_packet_of
off_frame_answer_reads_skipped_packet clock n bytes pes_packets unread v few reads is none =
    grind (arith, nat_tests, answer_reads_pes_packet)

-- A PES packet with a fault in its contents is skipped.
pub bad_answer_reads_skipped_packet : (clock : Clock) (n : ℕ) (bytes : List ℕ)
    (pes_packets : List PesPacket)
    (unread : Option UnreadReason) (f : PesFault)
    → n ≤ max_pes_packets
    → ReadsPesPackets clock n bytes pes_packets unread
    → answer_at n bytes ≡ Err f
    → is_packet_content_fault f ≡ true
    → ReadsPesPacket clock n bytes pes_packets unread (Skipped (BadPacket f))
unfolding pes_packet_of
bad_answer_reads_skipped_packet clock n bytes pes_packets unread f few reads is kind = grind
    (arith, nat_tests, answer_reads_pes_packet)

pub end_answer_leaves_no_packets : (clock : Clock) (n : ℕ) (bytes : List ℕ)
    (pes_packets : List PesPacket)
    (unread : Option UnreadReason)
    → n ≤ max_pes_packets
    → ReadsPesPackets clock n bytes pes_packets unread
    → answer_at n bytes ≡ Ok None
    → (pes_packets ≡ []) × (unread ≡ None)
end_answer_leaves_no_packets clock n bytes pes_packets unread few reads is =
    grind (arith, nat_tests, pes_packets_at-next clock n bytes (Ok None) few is)

-- If the reader returns a fault that is not in the contents of a PES packet, no packet is left, and
-- `unread` has the fault.
pub failed_answer_leaves_no_packets : (clock : Clock) (n : ℕ) (bytes : List ℕ)
    (pes_packets : List PesPacket)
    (unread : Option UnreadReason) (f : PesFault)
    → n ≤ max_pes_packets
    → ReadsPesPackets clock n bytes pes_packets unread
    → answer_at n bytes ≡ Err f
    → is_packet_content_fault f ≡ false
    → (pes_packets ≡ []) × (unread ≡ Some (BadPacket f))
failed_answer_leaves_no_packets clock n bytes pes_packets unread f few reads is kind =
    grind (arith, nat_tests, pes_packets_at-next clock n bytes (Err f) few is)

-- A fault in the contents of a PES packet is never a failure of the source.
pub packet_fault_is_no_read_failure : (f : PesFault) → is_packet_content_fault f ≡ true →
    is_read_fault f ≡ false
packet_fault_is_no_read_failure f kind = grind (arith, nat_tests)

abbrev pub file_with : Option ℕ → List (List ℕ) → PesFileValue → PesFileValue
file_with None packets rest = record { frames = []; unread = Some NoFrame }
file_with (Some frame) packets rest = record {
  frames = record { frame = frame; packets = packets } ∷ rest.frames;
  unread = rest.unread;
}

abbrev pub file_after_answer : Clock → Result (Option PesValue) PesFault → PesFileValue →
    PesFileValue
file_after_answer clock (Err f) rest = record { frames = []; unread = Some (BadPacket f) }
file_after_answer clock (Ok None) rest = record { frames = []; unread = None }
file_after_answer clock (Ok (Some v)) rest =
    file_with (clock v.pts) (packets_of_units v.units) rest

-- The frames before the first skipped PES packet are the frame of the reader's next PES packet,
-- followed by those of the remaining file; there are none if the next packet is skipped or no
-- packet is left.
reading_until_skipped_follows_answer : (clock : Clock) (answer : Result (Option PesValue) PesFault)
    (rest : PesPacketFileValue)
    → file_until_first_skipped (pes_packets_after_answer clock answer rest)
    ≡ file_after_answer clock answer (file_until_first_skipped rest)
unfolding read_until_skipped pes_packet_of
reading_until_skipped_follows_answer clock answer rest = grind (arith, nat_tests)

pub file_until_skipped_follows_answer : (clock : Clock) (answer : Result (Option PesValue) PesFault)
    (more : PesPacketsValue)
    → file_until_first_skipped (file_of_pes_packets clock (prepend_pes_packet_answer answer more))
    ≡ file_after_answer clock answer (file_until_first_skipped (file_of_pes_packets clock more))
file_until_skipped_follows_answer clock answer more =
    ap file_until_first_skipped (file_of-then clock answer more)
    ∙ reading_until_skipped_follows_answer clock answer (file_of_pes_packets clock more)

-- After any result of the reader, the frames before the first skipped packet are the same whether
-- the remaining bytes are determined by the length field or by the parser.
both_rests_give_the_same_file : (clock : Clock) (given : ℕ) (bytes : List ℕ)
    (answer : Result (Option PesValue) PesFault)
    → answer_at given bytes ≡ answer
    → file_after_answer clock answer (file_at clock (given + 1) (rest_after_pes_packet bytes))
    ≡ file_after_answer clock answer (file_at clock (given + 1) (rest_after bytes))
both_rests_give_the_same_file clock given bytes answer is = grind
    (arith, nat_tests, value_leaves_rest)

-- The frames of a file up to its first skipped packet are the frame of the reader's next PES
-- packet, followed by those of the remaining bytes; there are none if the next packet is skipped or
-- no packet is left.
pub file_at-next :
    (clock : Clock) (given : ℕ) (bytes : List ℕ)
    → given ≤ max_pes_packets
    → file_at clock given bytes
    ≡ file_after_answer clock (answer_at given bytes) (file_at clock (given + 1) (rest_after bytes))
unfolding file_at pes_packets_at
file_at-next clock given bytes few =
    ap (λ (p : PesPacketsValue). file_until_first_skipped (file_of_pes_packets clock p))
    (pes_packets_after-next given bytes (answer_at given bytes) few refl)
    ∙ file_until_skipped_follows_answer clock (answer_at given bytes)
    (pes_packets_after (given + 1) (rest_after_pes_packet bytes))
    ∙ both_rests_give_the_same_file clock given bytes (answer_at given bytes) refl

pub packet_is_pes_packet : (v : PesValue) (b : List ℕ) → IsValidPesPacket v b → IsPesPacket b
packet_is_pes_packet v b h =
    grind (
      arith,
      nat_tests,
      packet_is_header_and_body v b h,
      valid_body_decodes v b h,
      length-append,
    )

-- A call that consumes a valid PES packet consumes exactly one PES packet.
pub taking_data_field_takes_packet : (old new : Option (List ℕ)) (v : PesValue) (field : List ℕ)
    → TakesDataField old new v field
    → TakesOnePesPacket old new
taking_data_field_takes_packet old new v field t =
    grind (arith, nat_tests, packet_is_pes_packet v t.packet.bytes t.packet.is_packet)

appending_keeps_pes_packets : (pes_packets : List (List ℕ)) (b : List ℕ)
    → AllByRecursion IsPesPacket pes_packets
    → IsPesPacket b
    → AllByRecursion IsPesPacket (pes_packets ++ b ∷ [])
appending_keeps_pes_packets [] b h p = (p, tt)
appending_keeps_pes_packets (x ∷ pes_packets) b h p = (
  h.0,
  appending_keeps_pes_packets pes_packets
      b h.1 p,
)

pub takes_no_pes_packets : (old : Option (List ℕ)) → TakesPesPackets 0 old old
takes_no_pes_packets old = grind (arith, nat_tests, Consumes-nil)

pub takes_more_pes_packets : (n : ℕ) (old mid new : Option (List ℕ))
    → TakesPesPackets n old mid
    → TakesOnePesPacket mid new
    → TakesPesPackets (n + 1) old new
takes_more_pes_packets n old mid new h t =
    let joined : concat (h.pes_packets ++ t.bytes ∷ []) ≡ concat h.pes_packets ++ t.bytes =
    grind (arith, nat_tests, concat-append, append-nil) in
    grind (
      arith,
      nat_tests,
      concat-append,
      append-nil,
      length-append,
      appending_keeps_pes_packets,
      Consumes-trans,
    )
