-- A PES file is read one PES packet at a time. If the source fails, the packets before the failure
-- were consumed.
use Rattle.std.proofs.lemmas.Bool.Decides.{nat_tests}
use Rattle.std.proofs.Common.{◌≡◌, ℕ, ◌+◌, ◌≤◌, List, [], ◌∷◌, ◌++◌, length, Option, Some, refl}
use Rattle.std.proofs.Common.{sym, ap, subst, ◌∙◌, append_assoc, arith, length-append, Result, Err}
use Rattle.std.proofs.lemmas.List.{append-nil}
use Rattle.sub_rules.specs.FrameRules.{UnreadReason}
use Rattle.sub_rules.specs.PesPackets.{PesPacket, ReadsPesPacket, ReadsPesPackets, frames_of}
use Rattle.sub_rules.specs.PesPackets.PesPacket.{Skipped, Sent}
use Rattle.sub_plan.specs.FrameTime.{Clock, clock_of}
use Rattle.sub_plan.specs.Options.{OptionsValue}
use Rattle.ttx_pes.specs.PesPackets.{rest_after_pes_packet}
use Rattle.sub_rules.specs.Transmission.{SentFrame, Transmission}
use Rattle.sub_rules.specs.declared.fault.CheckFault.{CheckFault}
use Rattle.sub_rules.proofs.JoinedLemmas.{frames_of-append}
use Rattle.sub_checker.specs.ReadCounts.{CarryFrames, HaveCompletePackets}
use Rattle.std.proofs.lemmas.List.Elements.{All-from_recursion}
use Rattle.std.proofs.lemmas.Slice.Zip.{AllZip-long, all_zipped_more}
use Rattle.std.specs.List.{AllByRecursion, AllZip}
use Rattle.ttx_pes.specs.declared.fault.PesFault.TheVariants.{Read}
use Rattle.sub_rules.specs.declared.fault.CheckFault.TheVariants as fault
use Rattle.std.proofs.lemmas.List.Folds.{concat-append}
use Rattle.ttx_pes.specs.PesGrammar.{IsValidPesPacket, IsPesValue, PesValue}
use Rattle.ttx_pes.specs.Reader.{TakesValidPesPackets, TakesValidPesPacket}
use Rattle.sub_rules.proofs.PacketLists.{Each-push}
use Rattle.sub_rules.specs.PacketRules.{packets_of_units}
use Rattle.sub_rules.specs.PesFrames.{IsReadAs}
use Rattle.sub_checker.specs.declared.accepted.Accepted.{Accepted}
use Rattle.ttx_pes.specs.DataUnit.{IsUnit, UnitValue}

pub complete_units :
    (units : List UnitValue)
    → AllByRecursion IsUnit units
    → AllByRecursion (λ packet. length packet ≡ 42) (packets_of_units units)
complete_units [] h = tt
complete_units (u ∷ units) h = (h.0.packet.size, complete_units units h.1)

-- The first `pes` PES packets of the file, `done`, were read; the other PES packets, `ahead`, are
-- in the remaining bytes, `rest`.
pub record ReadsRemainingBytes
    (options : OptionsValue) (bytes : List ℕ) (all : List PesPacket) (unread : Option UnreadReason)
    (remaining : Option (List ℕ)) (pes : ℕ) (done : List PesPacket)
    : Type 0 where
  pub ahead : List PesPacket
  pub parts : all ≡ done ++ ahead
  pub count : length done ≡ pes
  pub rest : List ℕ
  pub rest_eq : remaining ≡ Some rest
  pub left : ReadsPesPackets (clock_of options) pes rest ahead unread
  pub taken :
      length (frames_of done) ≡ length done
      → CarryFrames (clock_of options) bytes (frames_of done) rest
  pub whole : HaveCompletePackets (frames_of done)

pub reading_starts_at_all_bytes : (options : OptionsValue) (all : List PesPacket)
    (unread : Option UnreadReason)
    (remaining : Option (List ℕ)) (bytes : List ℕ)
    → remaining ≡ Some bytes
    → ReadsPesPackets (clock_of options) 0 bytes all unread
    → ReadsRemainingBytes options bytes all unread remaining 0 []
unfolding frames_of
reading_starts_at_all_bytes options all unread remaining bytes reported reads = record {
  ahead = all;
  parts = refl;
  count = refl;
  rest = bytes;
  rest_eq = reported;
  left = reads;
  taken = λ e. record { values = []; packets = []; each = tt; read = tt; joined = refl };
  whole = tt;
}

pub frames_are_at_most_packets : (pes_packets : List PesPacket) → length (frames_of pes_packets) ≤
    length
    pes_packets
unfolding frames_of
frames_are_at_most_packets [] = omega arith
frames_are_at_most_packets (Sent s ∷ pes_packets) = let l = frames_are_at_most_packets pes_packets
    in omega arith
frames_are_at_most_packets (Skipped u ∷ pes_packets) = let l = frames_are_at_most_packets
    pes_packets in omega arith

taken_packet_carries_frame : (clock : Clock) (bytes rest : List ℕ) (frames : Transmission)
    (v : PesValue)
    (frame : ℕ) (old new : Option (List ℕ))
    → CarryFrames clock bytes frames rest
    → old ≡ Some rest
    → new ≡ Some (rest_after_pes_packet rest)
    → TakesValidPesPacket old new v
    → clock v.pts ≡ Some frame
    → CarryFrames clock bytes
    (frames ++ record { frame = frame; packets = packets_of_units v.units } ∷ [])
    (rest_after_pes_packet rest)
taken_packet_carries_frame clock bytes rest frames v frame old new taken was is takes of =
    let parts : rest ≡ takes.bytes ++ rest_after_pes_packet rest = rw (was, is) at takes.consumed in
    record {
      values = taken.values ++ v ∷ [];
      packets = taken.packets ++ takes.bytes ∷ [];
      each = all_zipped_more IsValidPesPacket taken.values taken.packets v takes.bytes taken.each
          takes.is_packet;
      read = all_zipped_more (IsReadAs clock) taken.values frames v _ taken.read (record {
        frame = of;
        packets = refl;
      });
      joined = grind (arith, concat-append, append_assoc);
    }

values_have_valid_packets : (values : List PesValue) (packets : List (List ℕ))
    → AllZip IsValidPesPacket values packets
    → AllByRecursion (λ b. (v : PesValue) × IsValidPesPacket v b) packets
values_have_valid_packets [] [] each = tt
values_have_valid_packets (v ∷ values) (b ∷ packets) each = (
  (v, each.0),
  values_have_valid_packets
      values packets each.1,
)
values_have_valid_packets [] (b ∷ packets) each = elim each [ ]
values_have_valid_packets (v ∷ values) [] each = elim each [ ]

pub carried_packets_are_taken : {clock : Clock} (bytes : List ℕ) (frames : Transmission)
    (rest : List ℕ) (n : ℕ)
    (old new : Option (List ℕ))
    → CarryFrames clock bytes frames rest
    → length frames ≡ n
    → old ≡ Some bytes
    → new ≡ Some rest
    → TakesValidPesPackets n old new
carried_packets_are_taken {clock} bytes frames rest n old new taken number was is = record {
  packets = taken.packets;
  number =
      AllZip-long IsValidPesPacket taken.values taken.packets taken.each
      ∙ sym (AllZip-long (IsReadAs clock) taken.values frames taken.read) ∙ number;
  each = values_have_valid_packets taken.values taken.packets taken.each;
  consumed = rw (was, is) taken.joined;
}

pub read_fault_names_pes_packet : (f : CheckFault) (n pes : ℕ)
    → f ≡ fault.Pes n Read
    → (let r : Result (Option Accepted) CheckFault = Err f in r) ≡ Err (fault.Pes pes Read)
    → pes ≡ n
read_fault_names_pes_packet f n pes here is = let same = sym here in cc

has_complete_packets : (frames : Transmission) (v : PesValue) (frame : ℕ)
    → HaveCompletePackets frames
    → IsPesValue v
    → HaveCompletePackets
    (frames ++ record { frame = frame; packets = packets_of_units v.units } ∷ [])
has_complete_packets frames v frame before is =
    let whole = complete_units v.units is.each in
    grind (arith, nat_tests, Each-push, All-from_recursion)

module _ (options : OptionsValue) (bytes : List ℕ) (all : List PesPacket)
    (unread : Option UnreadReason)
    (before after : Option (List ℕ)) (pes : ℕ) (done : List PesPacket)
    (at : ReadsRemainingBytes options bytes all unread before pes done)
    (left : after ≡ Some (rest_after_pes_packet at.rest))
  where
    reading_continues_after_packet : (p : PesPacket)
        → ReadsPesPacket (clock_of options) pes at.rest at.ahead unread p
        → (length (frames_of (done ++ p ∷ [])) ≡ length (done ++ p ∷ [])
        → CarryFrames (clock_of options) bytes (frames_of (done ++ p ∷ []))
        (rest_after_pes_packet at.rest))
        → HaveCompletePackets (frames_of (done ++ p ∷ []))
        → ReadsRemainingBytes options bytes all unread after (pes + 1) (done ++ p ∷ [])
    reading_continues_after_packet p next taken whole = record {
      ahead = next.more;
      parts =
          at.parts ∙ ap (λ (l : List PesPacket). done ++ l) next.first
          ∙ sym (append_assoc done (p ∷ []) next.more);
      count = length-append done (p ∷ []) ∙ ap (λ (k : ℕ). k + 1) at.count;
      rest = rest_after_pes_packet at.rest;
      rest_eq = left;
      left = next.left;
      taken = taken;
      whole = whole;
    }

    pub reading_continues_after_sent_packet : (v : PesValue) (frame : ℕ)
        → ReadsPesPacket (clock_of options) pes at.rest at.ahead unread
        (Sent (record { frame = frame; packets = packets_of_units v.units }))
        → clock_of options v.pts ≡ Some frame
        → TakesValidPesPacket before after v
        → IsPesValue v
        → ReadsRemainingBytes options bytes all unread after (pes + 1)
        (done ++ Sent (record { frame = frame; packets = packets_of_units v.units }) ∷ [])
    unfolding frames_of
    reading_continues_after_sent_packet v frame next of takes value =
        let s : SentFrame = record { frame = frame; packets = packets_of_units v.units } in
        let list : frames_of (done ++ Sent s ∷ []) ≡ frames_of done ++ s ∷ [] =
        frames_of-append done (Sent s ∷ []) in
        reading_continues_after_packet (Sent s) next
        (λ e.
        subst (λ (fs : Transmission). CarryFrames (clock_of options) bytes fs
        (rest_after_pes_packet at.rest))
        (sym list)
        (taken_packet_carries_frame (clock_of options) bytes at.rest (frames_of done) v frame before
        after
        (at.taken (omega (
          arith,
          e,
          ap length list,
          length-append (frames_of done) (s ∷ []),
          length-append done (Sent s ∷ []),
        ))) at.rest_eq left takes of))
        (subst HaveCompletePackets (sym list)
        (has_complete_packets (frames_of done) v frame at.whole
        value))

    pub reading_continues_after_skipped_packet : (u : UnreadReason)
        → ReadsPesPacket (clock_of options) pes at.rest at.ahead unread (Skipped u)
        → ReadsRemainingBytes options bytes all unread after (pes + 1) (done ++ Skipped u ∷ [])
    unfolding frames_of
    reading_continues_after_skipped_packet u next =
        let list : frames_of (done ++ Skipped u ∷ []) ≡ frames_of done =
        frames_of-append done (Skipped u ∷ []) ∙ append-nil (frames_of done) in
        let few = frames_are_at_most_packets done in
        reading_continues_after_packet (Skipped u) next
        (λ e. absurd (omega (arith, e, few, ap length list, length-append done (Skipped u ∷ []))))
        (subst HaveCompletePackets (sym list) at.whole)
