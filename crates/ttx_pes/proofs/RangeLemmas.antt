-- The bytes of a range are the PES packets with the indices in the range.
use Rattle.std.proofs.lemmas.Bool.Decides.{nat_tests}
use Rattle.std.proofs.Common.{◌≡◌, ℕ, zero, suc, ◌+◌, ◌-◌, ◌*◌, ◌≤◌, List, [], ◌∷◌, ◌++◌, cond}
use Rattle.std.proofs.Common.{length, take, drop, Option, Some, None, Ok, refl, sym, ap, ◌∙◌, arith}
use Rattle.std.proofs.Common.{append_assoc, length-append, length-drop, ltb}
use Rattle.std.proofs.Common.{take-append-drop, leb, min}
use Rattle.std.proofs.lemmas.Bool.{le-leb, le-ltb, lt-ltb, lt-leb}
use Rattle.std.proofs.lemmas.List.{take_at, drop_at, take-take}
use Rattle.std.proofs.lemmas.List.{length-take-le}
use Rattle.std.specs.Int.{bytes_high_first}
use Rattle.std.specs.List.{AllByRecursion, concat}
use Rattle.sub_io.specs.Reading.{AreBytes}
use Rattle.ttx_pes.specs.Laws.{LawOfRanges}
use Rattle.ttx_pes.specs.PesGrammar.{packet_length, packet_start}
use Rattle.ttx_pes.specs.PesPacketRange.{StartsWithoutPesPacket, rest_after_pes_packets}
use Rattle.ttx_pes.specs.PesPacketRange.{count_pes_packets, first_index}
use Rattle.ttx_pes.specs.PesPacketRange.{first_pes_packets, range_bytes, pes_packet_size}
use Rattle.ttx_pes.specs.PesPacketRange.{stated_packet_size}
use Rattle.ttx_pes.specs.PesPackets.{IsPesPacket}
use Rattle.ttx_pes.specs.Reading.{size_at}
use Rattle.ttx_pes.proofs.DataUnitLemmas.{AreBytes-take}
use Rattle.ttx_pes.proofs.PesHeaderLemmas.{valid_header_decodes, first_six_bytes}
use Rattle.ttx_pes.proofs.PesPacketLemmas.{stated_size_gives_pes_packet}
use Rattle.ttx_pes.proofs.PesPacketRangeLemmas.{no_packet_leaves_all_bytes}
use Rattle.ttx_pes.proofs.PesPacketRangeLemmas.{rest_after_pes_packets_suc}
use Rattle.ttx_pes.proofs.PesPacketRangeLemmas.{no_packet_counts_zero}
use Rattle.ttx_pes.proofs.PesPacketRangeLemmas.{count_pes_packets_suc}
use Rattle.ttx_pes.proofs.PesPacketRangeLemmas.{no_packet_takes_all_bytes, first_pes_packets_suc}
use Rattle.ttx_pes.proofs.PesPacketRangeLemmas.{pes_packet_size_is_decoded, whole}

pes_packet_has_its_length : (p rest : List ℕ) → IsPesPacket p → pes_packet_size (p ++ rest) ≡ Some
    (length p)
unfolding stated_packet_size
pes_packet_has_its_length p rest h =
    let parts : p ≡ first_six_bytes h.n ++ h.body =
    h.bytes ∙ sym (append_assoc packet_start (bytes_high_first 2 (packet_length h.n)) h.body) in
    let all : p ++ rest ≡ first_six_bytes h.n ++ (h.body ++ rest) =
    ap (λ l. l ++ rest) parts ∙ append_assoc (first_six_bytes h.n) h.body rest in
    let long = h.long in
    let lo = h.size.0 in
    let size = length-append p rest in
    let head : take 6 (p ++ rest) ≡ first_six_bytes h.n =
    ap (take 6) all ∙ take_at (first_six_bytes h.n) (h.body ++ rest) 6 refl in
    let reported : stated_packet_size (p ++ rest) ≡ Some (184 * h.n) =
    rw (
      le-ltb (length (p ++ rest)) 6 (omega (arith, size, long, lo)),
      head,
      valid_header_decodes h.n h.size.0 h.size.1,
    ) refl in
    whole (p ++ rest) (length p) (reported ∙ ap Some (sym long)) (omega (arith, size))

complete_size_gives_pes_packet : (b : List ℕ) (size : ℕ)
    → AreBytes b
    → pes_packet_size b ≡ Some size
    → IsPesPacket (take size b)
complete_size_gives_pes_packet b size fit e =
    let reported = pes_packet_size_is_decoded b size e in
    let len = length-take-le size b reported.2 in
    let head : take 6 (take size b) ≡ take 6 b = take-take 6 size b reported.0 in
    stated_size_gives_pes_packet (take size b) (AreBytes-take size b fit)
    (omega (arith, len, reported.0))
    (ap size_at head ∙ reported.1 ∙ ap Ok (sym len))

rest_has_no_packet_size : (rest : List ℕ) → AreBytes rest → StartsWithoutPesPacket rest →
    pes_packet_size rest ≡ None
rest_has_no_packet_size rest fit none = rest_size_cases (pes_packet_size rest) refl
  where
    rest_size_cases : (r : Option ℕ) → pes_packet_size rest ≡ r → pes_packet_size rest ≡ None
    rest_size_cases None e = e
    rest_size_cases (Some size) e =
        absurd (none (take size rest) (drop size rest) (complete_size_gives_pes_packet rest size fit
        e)
        (sym (take-append-drop size rest)))

leb_suc : (a b : ℕ) → leb (suc a) (suc b) ≡ leb a b
leb_suc a b = grind (arith, nat_tests, lt-leb, le-leb)

module _ (rest : List ℕ) (end : pes_packet_size rest ≡ None) where
  packets_leave_rest : (n : ℕ) (ps : List (List ℕ))
      → AllByRecursion IsPesPacket ps
      → rest_after_pes_packets n (concat ps ++ rest) ≡ concat (drop n ps) ++ rest
  unfolding rest_after_pes_packets
  packets_leave_rest zero ps each = refl
  packets_leave_rest (suc n) [] each = no_packet_leaves_all_bytes (suc n) rest end
  packets_leave_rest (suc n) (p ∷ ps) each =
      let joined = append_assoc p (concat ps) rest in
      ap (rest_after_pes_packets (suc n)) joined
      ∙ rest_after_pes_packets_suc n (p ++ (concat ps ++ rest)) (length p)
      (pes_packet_has_its_length p (concat ps ++ rest)
      each.0)
      ∙ ap (rest_after_pes_packets n) (drop_at p (concat ps ++ rest) (length p) refl)
      ∙ packets_leave_rest n ps each.1

  packets_are_counted : (n : ℕ) (ps : List (List ℕ))
      → AllByRecursion IsPesPacket ps
      → count_pes_packets n (concat ps ++ rest) ≡ min n (length ps)
  unfolding count_pes_packets
  packets_are_counted zero ps each = omega arith
  packets_are_counted (suc n) [] each = no_packet_counts_zero (suc n) rest end ∙ omega arith
  packets_are_counted (suc n) (p ∷ ps) each =
      let joined = append_assoc p (concat ps) rest in
      let more = packets_are_counted n ps each.1 in
      ap (count_pes_packets (suc n)) joined
      ∙ count_pes_packets_suc n (p ++ (concat ps ++ rest)) (length p)
      (pes_packet_has_its_length p (concat ps ++ rest)
      each.0)
      ∙ ap (λ b. suc (count_pes_packets n b)) (drop_at p (concat ps ++ rest) (length p) refl)
      ∙ omega (arith, more)

  packets_come_first : (n : ℕ) (ps : List (List ℕ))
      → AllByRecursion IsPesPacket ps
      → first_pes_packets n (concat ps ++ rest)
      ≡ concat (take n ps) ++ cond (leb n (length ps)) [] rest
  unfolding first_pes_packets
  packets_come_first zero ps each = grind (arith, nat_tests, le-leb)
  packets_come_first (suc n) [] each = grind (arith, nat_tests, lt-leb, no_packet_takes_all_bytes)
  packets_come_first (suc n) (p ∷ ps) each =
      grind (
        arith,
        nat_tests,
        append_assoc,
        first_pes_packets_suc,
        pes_packet_has_its_length,
        take_at,
        drop_at,
        leb_suc,
        (packets_come_first n ps each.1),
      )

remaining_packets_are_valid : (n : ℕ) (ps : List (List ℕ))
    → AllByRecursion IsPesPacket ps
    → AllByRecursion IsPesPacket (drop n ps)
remaining_packets_are_valid zero ps each = each
remaining_packets_are_valid (suc n) [] each = each
remaining_packets_are_valid (suc n) (p ∷ ps) each = remaining_packets_are_valid n ps each.1

range_end_is_reached : (first last count : ℕ)
    → first ≤ last
    → leb (last + 1 - first) (count - first) ≡ ltb last count
range_end_is_reached first last count h1 = grind (arith, nat_tests, le-leb, lt-ltb, lt-leb, le-ltb)

pub ranges_select_packets : LawOfRanges
unfolding range_bytes first_index
ranges_select_packets first None ps rest le each fit none =
    let end = rest_has_no_packet_size rest fit none in
    (packets_leave_rest rest end first ps each, packets_are_counted rest end first ps each)
ranges_select_packets first (Some last) ps rest le each fit none =
    let end = rest_has_no_packet_size rest fit none in (
      ap (first_pes_packets (last + 1 - first)) (packets_leave_rest rest end first ps each)
          ∙ packets_come_first rest end (last + 1 - first) (drop first ps)
          (remaining_packets_are_valid first ps each)
          ∙ ap (λ (k : ℕ). concat (take (last + 1 - first) (drop first ps))
          ++ cond (leb (last + 1 - first) k) [] rest) (length-drop first ps)
          ∙ ap (λ c. concat (take (last + 1 - first) (drop first ps)) ++ cond c [] rest)
          (range_end_is_reached first last (length ps) le),
      packets_are_counted rest end first ps each,
    )
