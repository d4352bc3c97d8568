-- Each PES packet that is read lowers the limit of a reader by one; at limit 0, its bytes end.
use Rattle.std.proofs.Common.{◌≡◌, ℕ, zero, suc, ◌+◌, ◌-◌, ◌*◌, ◌≤◌, ◌<◌, List, [], ◌++◌, true}
use Rattle.std.proofs.Common.{false, length, take, drop, Option, Some, None, Result, Ok, Err, refl}
use Rattle.std.proofs.Common.{sym, ap, ◌∙◌, subst, inl, inr, arith, append_assoc, length-append}
use Rattle.std.proofs.lemmas.Bool.{cases_lt, le-ltb, lt-ltb, true≢false}
use Rattle.std.proofs.lemmas.Bool.Decides.{nat_tests}
use Rattle.std.proofs.lemmas.List.{take_at, drop_at}
use Rattle.std.specs.Prelude.{option_map}
use Rattle.std.specs.Result.{result_ok}
use Rattle.std.specs.Int.{bytes_high_first}
use Rattle.std.specs.Io.KnownBytes.{Consumes, IsAtEnd, Keeps}
use Rattle.sub_io.specs.Reading.{IfKnown}
use Rattle.ttx_pes.specs.PesGrammar.{packet_length, packet_start}
use Rattle.ttx_pes.specs.PesPacketRange.{rest_after_pes_packets, count_pes_packets}
use Rattle.ttx_pes.specs.PesPacketRange.{first_pes_packets, size_if_complete, limited_bytes}
use Rattle.ttx_pes.specs.PesPacketRange.{pes_packet_size, stated_packet_size}
use Rattle.ttx_pes.specs.PesPackets.{IsPesPacket}
use Rattle.ttx_pes.specs.Reading.{size_at}
use Rattle.ttx_pes.specs.declared.fault.PesFault.{PesFault}
use Rattle.ttx_pes.proofs.PesHeaderLemmas.{valid_header_decodes, first_six_bytes}
use Rattle.ttx_pes.proofs.PesPacketRangeLemmas.{no_packet_leaves_all_bytes}
use Rattle.ttx_pes.proofs.PesPacketRangeLemmas.{rest_after_pes_packets_suc}
use Rattle.ttx_pes.proofs.PesPacketRangeLemmas.{no_packet_counts_zero}
use Rattle.ttx_pes.proofs.PesPacketRangeLemmas.{count_pes_packets_suc}
use Rattle.ttx_pes.proofs.PesPacketRangeLemmas.{no_packet_takes_all_bytes, first_pes_packets_suc}
use Rattle.ttx_pes.proofs.PesPacketRangeLemmas.{whole}
use Rattle.ttx_pes.specs.Advancing.{Advances, HasSkipped, IsReportedRest, SkipsPesPackets}
use Rattle.ttx_pes.specs.Advancing.{fault_of_size, is_finished}
use Rattle.ttx_pes.specs.Advancing.{limit_after, left_within_limit, limited_known_bytes, rest_fault}
use Rattle.ttx_pes.specs.declared.pes_packets.Received.{Received}
use Rattle.ttx_pes.specs.declared.pes_packets.Received.TheVariants.{End, PesPacket, Rest}

Keeps-refl : (a : Option (List ℕ)) → Keeps a a
Keeps-refl None = tt
Keeps-refl (Some x) = refl

pub pes_packet_has_its_length : (p rest : List ℕ) → IsPesPacket p → pes_packet_size (p ++ rest) ≡
    Some
    (length p)
unfolding stated_packet_size
pes_packet_has_its_length p rest h =
    let parts : p ≡ first_six_bytes h.n ++ h.body =
    h.bytes ∙ sym (append_assoc packet_start (bytes_high_first 2 (packet_length h.n)) h.body) in
    let all : p ++ rest ≡ first_six_bytes h.n ++ (h.body ++ rest) =
    ap (λ l. l ++ rest) parts ∙ append_assoc (first_six_bytes h.n) h.body rest in
    let long = h.long in
    let lo = h.size.0 in
    let size = length-append p rest in
    let head : take 6 (p ++ rest) ≡ first_six_bytes h.n =
    ap (take 6) all ∙ take_at (first_six_bytes h.n) (h.body ++ rest) 6 refl in
    let reported : stated_packet_size (p ++ rest) ≡ Some (184 * h.n) =
    rw (
      le-ltb (length (p ++ rest)) 6 (omega (arith, size, long, lo)),
      head,
      valid_header_decodes h.n h.size.0 h.size.1,
    ) refl in
    whole (p ++ rest) (length p) (reported ∙ ap Some (sym long)) (omega (arith, size))

limit_counts_first_packet : (n : ℕ) (p rest : List ℕ) → IsPesPacket p
    → limited_bytes (Some (suc n)) (p ++ rest) ≡ p ++ limited_bytes (Some n) rest
limit_counts_first_packet n p rest is =
    first_pes_packets_suc n (p ++ rest) (length p) (pes_packet_has_its_length p rest is)
    ∙ rw (take_at p rest (length p) refl, drop_at p rest (length p) refl) refl

size_fault_means_no_packet : (count : ℕ) (r : Result ℕ PesFault) (f : PesFault) → fault_of_size
    count r ≡ Some f
    → size_if_complete count (result_ok r) ≡ None
size_fault_means_no_packet count (Ok size) f e = grind (arith, nat_tests)
size_fault_means_no_packet count (Err g) f e = refl

pub faulty_rest_has_no_packet : (b : List ℕ) (f : PesFault) → rest_fault b ≡ Some f →
    pes_packet_size b ≡ None
unfolding rest_fault pes_packet_size stated_packet_size
faulty_rest_has_no_packet b f e = elim (cases_lt (length b) 6) [
  | inl lt ↦ rw (lt-ltb (length b) 6 lt) refl
  | inr le ↦
      let long = le-ltb (length b) 6 le in
      rw (long) (size_fault_means_no_packet (length b) (size_at (take 6 b)) f (rw (long) at e))
]

pub reported_rest_is_faulty : (old following : Option (List ℕ)) (f : PesFault) → IsReportedRest old
    following f
    → IfKnown old (λ all. rest_fault all ≡ Some f)
reported_rest_is_faulty None following f r all reported = absurd cc
reported_rest_is_faulty (Some x) None f r all reported = absurd r.consumed
reported_rest_is_faulty (Some x) (Some y) f r all reported =
    let same : x ≡ all = cc in
    ap rest_fault (sym same ∙ r.consumed) ∙ r.shows.all y (λ end. end)

limit_keeps_faulty_rest : (n : ℕ) (b : List ℕ) → pes_packet_size b ≡ None → limited_bytes
    (Some (suc n)) b ≡ b
limit_keeps_faulty_rest n b none = no_packet_takes_all_bytes (suc n) b (omega arith) none

pub empty_bytes_have_no_packet : pes_packet_size [] ≡ None
unfolding pes_packet_size stated_packet_size
empty_bytes_have_no_packet = refl

Keeps-map : (f : List ℕ → List ℕ) (old new : Option (List ℕ)) → Keeps old new
    → Keeps (option_map f old) (option_map f new)
Keeps-map f None new k = tt
Keeps-map f (Some x) None k = absurd k
Keeps-map f (Some x) (Some y) k = ap f k

zero_limit_is_end : (reported : Option (List ℕ)) → IsAtEnd (option_map (limited_bytes (Some 0))
    reported)
unfolding first_pes_packets
zero_limit_is_end None = tt
zero_limit_is_end (Some x) = refl

module _ {T A : Type 0} (E : Type 0) (is_take : T → List ℕ → A → T → Type 0) (taker : T) where
  pub reader_stops_at_limit : (left : Option ℕ) (reported following : Option (List ℕ))
      → is_finished left ≡ true
      → Advances (limited_known_bytes left reported) (limited_known_bytes left reported)
      (left_within_limit left reported following) is_take taker taker
      (let r : Result (Received A) E = Ok End in r)
  reader_stops_at_limit None reported following over = absurd (true≢false (sym over))
  reader_stops_at_limit (Some (suc n)) reported following over = absurd (true≢false (sym over))
  reader_stops_at_limit (Some zero) reported following over = (
    Keeps-map (limited_bytes (Some 0)) reported reported (Keeps-refl reported),
    refl,
    zero_limit_is_end
        reported,
    refl,
  )

limit_falls_with_packet : (n : ℕ) (old new : Option (List ℕ)) (p : List ℕ)
    → IsPesPacket p
    → Consumes old new p
    → Consumes (option_map (limited_bytes (Some (suc n))) old) (option_map (limited_bytes (Some n))
    new) p
limit_falls_with_packet n None new p is took = tt
limit_falls_with_packet n (Some x) None p is took = absurd took
limit_falls_with_packet n (Some x) (Some y) p is took =
    ap (limited_bytes (Some (suc n))) took ∙ limit_counts_first_packet n p y is

limited_end_is_end : (n : ℕ) (old : Option (List ℕ)) → IsAtEnd old
    → IsAtEnd (option_map (limited_bytes (Some (suc n))) old)
limited_end_is_end n None end = tt
limited_end_is_end n (Some x) end = ap (limited_bytes (Some (suc n))) end ∙ limit_keeps_faulty_rest
    n [] empty_bytes_have_no_packet

reading_keeps_faulty_rest : (n : ℕ) (old new : Option (List ℕ)) (f : PesFault)
    → IfKnown old (λ all. rest_fault all ≡ Some f)
    → Keeps old new
    → Keeps (option_map (limited_bytes (Some (suc n))) old) new
reading_keeps_faulty_rest n None new f none k = tt
reading_keeps_faulty_rest n (Some x) None f none k = absurd k
reading_keeps_faulty_rest n (Some x) (Some y) f none k = k ∙ sym (limit_keeps_faulty_rest n x
    (faulty_rest_has_no_packet x f (none x refl)))

limiting_keeps_faulty_rest : (n : ℕ) (old : Option (List ℕ)) (f : PesFault)
    → IfKnown old (λ all. rest_fault all ≡ Some f)
    → option_map (limited_bytes (Some (suc n))) old ≡ old
limiting_keeps_faulty_rest n None f none = refl
limiting_keeps_faulty_rest n (Some x) f none =
    ap (λ (b : List ℕ). Some b)
    (limit_keeps_faulty_rest n x (faulty_rest_has_no_packet x f (none x refl)))

module _ {T A : Type 0} (E : Type 0) (is_take : T → List ℕ → A → T → Type 0) (before after : T)
    (old new following : Option (List ℕ))
  where
    pub limited_reader_advances : (left : Option ℕ) (received : Received A) → is_finished left ≡
        false
        → Advances old new following is_take before after (let r : Result (Received A) E = Ok
        received in r)
        → Advances (limited_known_bytes left old) (limited_known_bytes (limit_after left received)
        new)
        (left_within_limit (limit_after left received) new following) is_take before after
        (let r : Result (Received A) E = Ok received in r)
    limited_reader_advances None End some on = on
    limited_reader_advances None (PesPacket answer) some on = on
    limited_reader_advances None (Rest f) some on = on
    limited_reader_advances (Some zero) received some on = absurd (true≢false some)
    limited_reader_advances (Some (suc n)) End some on = (
      Keeps-map (limited_bytes (Some (suc n))) old new on.0,
      refl,
      limited_end_is_end n new on.2,
      on.3,
    )
    limited_reader_advances (Some (suc n)) (PesPacket answer) some on =
        let t = on.0 in (
          record {
            bytes = t.bytes;
            is_pes_packet = t.is_pes_packet;
            fit = t.fit;
            consumed = limit_falls_with_packet n old new t.bytes t.is_pes_packet t.consumed;
            takes = t.takes;
          },
          refl,
        )
    limited_reader_advances (Some (suc n)) (Rest f) some on = (
      reading_keeps_faulty_rest n old new f (reported_rest_is_faulty old following f on.1) on.0,
      subst (λ (o : Option (List ℕ)). IsReportedRest o following f)
          (sym (limiting_keeps_faulty_rest n old f (reported_rest_is_faulty old following f on.1)))
          on.1,
      on.2,
    )

consumed_bytes_are_prefix : (mid new : Option (List ℕ)) (b p : List ℕ) → mid ≡ Some b → Consumes mid
    new p
    → (rest : List ℕ) × (new ≡ Some rest) × (b ≡ p ++ rest)
consumed_bytes_are_prefix None new b p reported took = absurd cc
consumed_bytes_are_prefix (Some x) None b p reported took = absurd took
consumed_bytes_are_prefix (Some x) (Some y) b p reported took = (y, refl, cc)

kept_bytes_are_equal : (mid new : Option (List ℕ)) (b : List ℕ) → mid ≡ Some b → Keeps mid new → new
    ≡ Some
    b
kept_bytes_are_equal None new b reported kept = absurd cc
kept_bytes_are_equal (Some x) None b reported kept = absurd kept
kept_bytes_are_equal (Some x) (Some y) b reported kept = cc

no_bytes_remain_at_end : (mid : Option (List ℕ)) (b : List ℕ) → IsAtEnd mid → mid ≡ Some b → b ≡ []
no_bytes_remain_at_end None b end reported = absurd cc
no_bytes_remain_at_end (Some x) b end reported = cc

pub skipping_counts_packet : (n k : ℕ) (old mid new : Option (List ℕ)) (p : List ℕ) → k < n
    → HasSkipped n k old mid
    → IsPesPacket p
    → Consumes mid new p
    → HasSkipped n (k + 1) old new
skipping_counts_packet n k old mid new p more so_far is took b reported =
    let at = so_far b reported in
    let next = consumed_bytes_are_prefix mid new at.0 p at.1 took in
    let size : pes_packet_size at.0 ≡ Some (length p) = ap pes_packet_size next.2 ∙
    pes_packet_has_its_length p
    next.0 is in
    let dropped : drop (length p) at.0 ≡ next.0 =
    ap (drop (length p)) next.2 ∙ drop_at p next.0 (length p) refl in
    let here : n - k ≡ suc (n - (k + 1)) = omega (arith, more) in
    let following : rest_after_pes_packets (n - k) at.0 ≡ rest_after_pes_packets (n - (k + 1))
    next.0 =
    ap (λ m. rest_after_pes_packets m at.0) here
    ∙ rest_after_pes_packets_suc (n - (k + 1)) at.0 (length p) size
    ∙ ap (rest_after_pes_packets (n - (k + 1))) dropped in
    let count : count_pes_packets (n - k) at.0 ≡ suc (count_pes_packets (n - (k + 1)) next.0) =
    ap (λ m. count_pes_packets m at.0) here
    ∙ count_pes_packets_suc (n - (k + 1)) at.0 (length p) size
    ∙ ap (λ l. suc (count_pes_packets (n - (k + 1)) l)) dropped in
    let sum = at.3 in (
      next.0,
      next.1,
      at.2 ∙ following,
      omega (arith, sum, count),
    )

pub skipping_ignores_kept_bytes : (n k : ℕ) (old mid new : Option (List ℕ)) → HasSkipped n k old mid
    → Keeps mid new
    → HasSkipped n k old new
skipping_ignores_kept_bytes n k old mid new so_far kept b reported =
    let at = so_far b reported in (at.0, kept_bytes_are_equal mid new at.0 at.1 kept, at.2, at.3)

skipping_stops_without_packet : (n k : ℕ) (old mid new : Option (List ℕ))
    → HasSkipped n k old mid
    → Keeps mid new
    → IfKnown mid (λ b. pes_packet_size b ≡ None)
    → SkipsPesPackets n old new k
skipping_stops_without_packet n k old mid new so_far kept none b reported =
    let at = so_far b reported in
    let no = none at.0 at.1 in
    let count = at.3 in
    let zero_more = no_packet_counts_zero (n - k) at.0 no in (
      kept_bytes_are_equal mid new at.0 at.1 kept ∙ ap Some
          (sym (at.2 ∙ no_packet_leaves_all_bytes (n - k) at.0 no)),
      omega (arith, count, zero_more),
    )

pub skipping_stops_at_count : (n k : ℕ) (old new : Option (List ℕ)) → n ≤ k
    → HasSkipped n k old new
    → SkipsPesPackets n old new k
unfolding rest_after_pes_packets count_pes_packets
skipping_stops_at_count n k old new all so_far b reported =
    let at = so_far b reported in
    let none : n - k ≡ 0 = omega (arith, all) in
    let count = at.3 ∙ ap (λ m. k + count_pes_packets m at.0) none in (
      at.1 ∙ ap Some (sym (at.2 ∙ ap (λ m. rest_after_pes_packets m at.0) none)),
      omega (arith, count),
    )

module _ {T A : Type 0} (E : Type 0) (is_take : T → List ℕ → A → T → Type 0) (before after : T)
    (n k : ℕ) (old mid new following : Option (List ℕ))
  where
    pub skipping_stops_at_rest : (received : Received A)
        → ((a : A) → received ≡ PesPacket a → ⊥)
        → HasSkipped n k old mid
        → Advances mid new following is_take before after (let r : Result (Received A) E = Ok
        received in r)
        → SkipsPesPackets n old new k × HasSkipped n k old new
    skipping_stops_at_rest End other so_far on = (
      skipping_stops_without_packet n k old mid new so_far on.0
          (λ b reported. ap pes_packet_size
          (no_bytes_remain_at_end new b on.2 (kept_bytes_are_equal mid new b reported on.0)) ∙
          empty_bytes_have_no_packet),
      skipping_ignores_kept_bytes n k old mid new so_far on.0,
    )
    skipping_stops_at_rest (PesPacket a) other so_far on = absurd (other a refl)
    skipping_stops_at_rest (Rest f) other so_far on = (
      skipping_stops_without_packet n k old mid new so_far on.0
          (λ b reported. faulty_rest_has_no_packet b f (reported_rest_is_faulty mid following f on.1
          b reported)),
      skipping_ignores_kept_bytes n k old mid new so_far on.0,
    )
