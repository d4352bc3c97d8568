-- The bytes read for one PES packet are a complete packet, a truncated packet, or not the beginning
-- of a packet.
use Rattle.std.proofs.Common.{◌≡◌, ℕ, ◌%◌, ◌<◌, ◌≤◌, List, [], ◌∷◌, ◌++◌, length, take}
use Rattle.std.proofs.Common.{Option, Some, None, Result, Ok, Err, refl, sym, ap, ◌∙◌, subst, arith}
use Rattle.std.proofs.Common.{append_assoc, inl, inr, length-append, length-take, true}
use Rattle.std.proofs.lemmas.Bool.{cases_lt, le-ltb, lt-ltb}
use Rattle.std.proofs.lemmas.Bool.Decides.{nat_tests}
use Rattle.std.proofs.lemmas.List.{append-nil, length-take-le, take-append-le, take-take}
use Rattle.std.proofs.lemmas.List.{take_at}
use Rattle.std.proofs.lemmas.Option.{same_Some}
use Rattle.std.specs.Prelude.{IsSome}
use Rattle.std.specs.Int.{bytes_high_first}
use Rattle.std.specs.Io.KnownBytes.{Consumes, IsAtEnd, prepend_known}
use Rattle.sub_io.specs.Reading.{AreBytes}
use Rattle.ttx_pes.specs.Advancing.{AreReadForPacket, ReadsTowardPesPacket, IsRestWithFault}
use Rattle.ttx_pes.specs.Advancing.{fault_of_size}
use Rattle.ttx_pes.specs.Advancing.{TakesPesPacketWith, buffered_before_known}
use Rattle.ttx_pes.specs.Advancing.{has_borrowed_pes_packet}
use Rattle.ttx_pes.specs.Advancing.{rest_fault}
use Rattle.ttx_pes.specs.declared.pes_packets.Received.{Received}
use Rattle.ttx_pes.specs.declared.pes_packets.Received.TheVariants.{End, PesPacket, Rest}
use Rattle.ttx_pes.specs.BorrowedPacket.{has_enough_for_packet}
use Rattle.ttx_pes.specs.PesGrammar.{packet_length, packet_start}
use Rattle.ttx_pes.specs.PesPackets.{IsPesPacket}
use Rattle.ttx_pes.specs.Reader.{IsIncompletePesPacket}
use Rattle.ttx_pes.specs.Reading.{packet_at, size_at}
use Rattle.ttx_pes.specs.declared.fault.PesFault.{PesFault}
use Rattle.ttx_pes.specs.declared.fault.PesFault.TheVariants as fault
use Rattle.ttx_pes.proofs.DataUnitLemmas.{AreBytes-take}
use Rattle.ttx_pes.proofs.PesPacketLemmas.{stated_size_gives_pes_packet}
use Rattle.ttx_pes.proofs.PesHeaderLemmas.{valid_header_decodes, first_six_bytes}
use Rattle.ttx_pes.proofs.ReadingLemmas.{incomplete_packet_is_refused, short_packet_is_truncated}
use Rattle.ttx_pes.proofs.ReadingLemmas.{packet_size}

pub short_rest_is_truncated : (b : List ℕ) → length b < 6 → rest_fault b ≡ Some fault.Truncated
unfolding rest_fault
short_rest_is_truncated b lt = rw (lt-ltb (length b) 6 lt) refl

pub size_fault_is_rest_fault : (b : List ℕ) (f : PesFault) → 6 ≤ length b → size_at (take 6 b) ≡ Err
    f
    → rest_fault b ≡ Some f
unfolding rest_fault
size_fault_is_rest_fault b f le e = rw (le-ltb (length b) 6 le, e) refl

pub incomplete_rest_is_truncated : (b : List ℕ) (size : ℕ) → 6 ≤ length b → size_at (take 6 b) ≡ Ok
    size
    → length b < size
    → rest_fault b ≡ Some fault.Truncated
unfolding rest_fault
incomplete_rest_is_truncated b size le e lt = rw (
  le-ltb (length b) 6 le,
  e,
  lt-ltb (length b) size
      lt,
) refl

size_fault_means_incomplete : (count size : ℕ) → IsSome (fault_of_size count (Ok size)) → count <
    size
size_fault_means_incomplete count size some = grind (arith, nat_tests)

pub faulty_rest_is_incomplete : (b : List ℕ) (size : ℕ) → IsSome (rest_fault b) → 6 ≤ length b
    → size_at (take 6 b) ≡ Ok size
    → length b < size
unfolding rest_fault
faulty_rest_is_incomplete b size some le e =
    size_fault_means_incomplete (length b) size (rw (le-ltb (length b) 6 le, e) at some)

pub short_rest_is_reported : (new : Option (List ℕ)) (b : List ℕ) → 0 < length b → length b < 6 →
    IsAtEnd new
    → IsRestWithFault new b fault.Truncated
short_rest_is_reported new b some lt end = record {
  some = some;
  all = λ more none.
      ap rest_fault (ap (λ l. b ++ l) (none end) ∙ append-nil b) ∙ short_rest_is_truncated b lt;
}

pub size_fault_is_reported : (new : Option (List ℕ)) (b : List ℕ) (f : PesFault) → 6 ≤ length b
    → size_at (take 6 b) ≡ Err f
    → IsRestWithFault new b f
size_fault_is_reported new b f le e = record {
  some = omega (arith, le);
  all = λ more none.
      size_fault_is_rest_fault (b ++ more) f (omega (arith, le, length-append b more))
      (ap size_at (take-append-le 6 b more le) ∙ e);
}

pub incomplete_rest_is_reported : (new : Option (List ℕ)) (b : List ℕ) (size : ℕ) → 6 ≤ length b
    → size_at (take 6 b) ≡ Ok size
    → length b < size
    → IsAtEnd new
    → IsRestWithFault new b fault.Truncated
incomplete_rest_is_reported new b size le e lt end = record {
  some = omega (arith, le);
  all = λ more none.
      ap rest_fault (ap (λ l. b ++ l) (none end) ∙ append-nil b) ∙ incomplete_rest_is_truncated b
      size le e lt;
}

pub buffered_then_prepends : (buffered : List ℕ) (known_bytes : Option (List ℕ)) →
    buffered_before_known buffered
    known_bytes
    ≡ prepend_known buffered known_bytes
buffered_then_prepends [] None = refl
buffered_then_prepends [] (Some x) = refl
buffered_then_prepends (x ∷ buffered) known_bytes = refl

pub read_ahead : (old mid new : Option (List ℕ)) (b more : List ℕ) → Consumes old mid b
    → Consumes (prepend_known b mid) new more
    → Consumes old new more
read_ahead None mid new b more c d = tt
read_ahead (Some x) None new b more c d = absurd c
read_ahead (Some x) (Some y) None b more c d = absurd d
read_ahead (Some x) (Some y) (Some z) b more c d = c ∙ d

-- A PES packet has the size that its first six bytes state, 184 to 1656 bytes.
pub pes_packet_size_is_stated : (p : List ℕ) → IsPesPacket p
    → (size_at (take 6 p) ≡ Ok (length p))
    × (184 ≤ length p) × (length p ≤ 1656) × (length p % 184 ≡ 0)
pes_packet_size_is_stated p h =
    let parts : p ≡ first_six_bytes h.n ++ h.body =
    h.bytes ∙ sym (append_assoc packet_start (bytes_high_first 2 (packet_length h.n)) h.body) in
    let long = h.long in
    let lo = h.size.0 in
    let hi = h.size.1 in
    let head : take 6 p ≡ first_six_bytes h.n = ap (take 6) parts ∙ take_at (first_six_bytes h.n)
    h.body 6 refl in (
      ap size_at head ∙ valid_header_decodes h.n lo hi ∙ ap (λ (k : ℕ). Ok k) (sym long),
      omega (arith, long, lo),
      omega (arith, long, hi),
      omega (arith, long),
    )

size_fault_is_packet_fault : (b : List ℕ) (f : PesFault) (r : Result ℕ PesFault) → size_at
    (take 6 b) ≡ r
    → 6 ≤ length b
    → fault_of_size (length b) r ≡ Some f
    → packet_at b ≡ Err f
size_fault_is_packet_fault b f (Err g) is le e =
    packet_size b g le is ∙ ap (λ (h : PesFault). Err h) (same_Some _ _ e)
size_fault_is_packet_fault b f (Ok size) is le e = elim (cases_lt (length b) size) [
  | inl lt ↦
      incomplete_packet_is_refused b size le is lt
      ∙ ap (λ (h : PesFault). Err h) (same_Some _ _ (rw (lt-ltb (length b) size lt) at e))
  | inr ge ↦ let none = rw (le-ltb (length b) size ge) at e in absurd cc
]

pub rest_fault_is_packet_fault : (b : List ℕ) (f : PesFault) → rest_fault b ≡ Some f → packet_at b ≡
    Err f
unfolding rest_fault
rest_fault_is_packet_fault b f e = elim (cases_lt (length b) 6) [
  | inl lt ↦
      short_packet_is_truncated b lt
      ∙ ap (λ (h : PesFault). Err h) (same_Some _ _ (sym (short_rest_is_truncated b lt) ∙ e))
  | inr le ↦ size_fault_is_packet_fault b f (size_at (take 6 b)) refl le
      (rw (le-ltb (length b) 6 le) at e)
]

equal_to_some_is_some : (o : Option PesFault) (f : PesFault) → o ≡ Some f → IsSome o
equal_to_some_is_some o f e = subst IsSome (sym e) refl

pub empty_rest_is_faulty : (b : List ℕ) → b ≡ [] → IsSome (rest_fault b)
empty_rest_is_faulty b e = equal_to_some_is_some (rest_fault b) fault.Truncated
    (short_rest_is_truncated b (omega (arith, ap length e)))

pub reported_rest_has_fault : (new : Option (List ℕ)) (b : List ℕ) (f : PesFault) → IsRestWithFault
    new b f
    → IsSome (rest_fault b)
reported_rest_has_fault new b f shows =
    equal_to_some_is_some (rest_fault b) f
    (ap rest_fault (sym (append-nil b)) ∙ shows.all [] (λ end. refl))

pub incomplete_packet_is_faulty : (b : List ℕ) → IsIncompletePesPacket b → IsSome (rest_fault b)
incomplete_packet_is_faulty b (inl lt) = equal_to_some_is_some (rest_fault b) fault.Truncated
    (short_rest_is_truncated b lt)
incomplete_packet_is_faulty b (inr (size, header_states_size, lt)) = elim (cases_lt (length b) 6) [
  | inl short ↦ equal_to_some_is_some (rest_fault b) fault.Truncated (short_rest_is_truncated b
      short)
  | inr le ↦ equal_to_some_is_some (rest_fault b) fault.Truncated (incomplete_rest_is_truncated b
      size le header_states_size lt)
]

module _ {E : Type 0} (old new : Option (List ℕ)) (b : List ℕ) (r : Result (Received (Unit {0})) E)
    (reads : ReadsTowardPesPacket old new b r)
  where
    pub rest_at_end_is_faulty : (let e : Result (Received (Unit {0})) E = Ok End in r ≡ e)
        → IsSome (rest_fault b)
    rest_at_end_is_faulty is =
        empty_rest_is_faulty b
        (subst (λ (x : Result (Received (Unit {0})) E). AreReadForPacket new b x) is
        reads.are_read).0

    pub rest_answer_is_faulty : (f : PesFault)
        → (let e : Result (Received (Unit {0})) E = Ok (Rest f) in r ≡ e)
        → IsSome (rest_fault b)
    rest_answer_is_faulty f is =
        reported_rest_has_fault new b f
        (subst (λ (x : Result (Received (Unit {0})) E). AreReadForPacket new b x) is reads.are_read)

    pub failed_read_leaves_faulty_rest : (e : E)
        → (let x : Result (Received (Unit {0})) E = Err e in r ≡ x)
        → IsSome (rest_fault b)
    failed_read_leaves_faulty_rest e is =
        incomplete_packet_is_faulty b
        (subst (λ (x : Result (Received (Unit {0})) E). AreReadForPacket new b x) is reads.are_read)

    pub received_packet_is_complete : (x : Unit {0})
        → (let e : Result (Received (Unit {0})) E = Ok (PesPacket x) in r ≡ e)
        → (6 ≤ length b) × (size_at (take 6 b) ≡ Ok (length b))
    received_packet_is_complete x is =
        subst (λ (y : Result (Received (Unit {0})) E). AreReadForPacket new b y) is reads.are_read

pub buffered_count_is_bounded : (buffered got size : ℕ)
    → (buffered ≤ 184 → got ≤ 184)
    → (6 ≤ buffered → got ≡ buffered)
    → (6 ≤ buffered → buffered < size)
    → 184 ≤ size
    → got ≤ size
buffered_count_is_bounded buffered got size bound none few le = elim (cases_lt buffered 6) [
  | inl lt ↦ omega (arith, bound (omega arith), le)
  | inr has_six_bytes ↦ omega (arith, none has_six_bytes, few has_six_bytes)
]

module _ {T A : Type 0} (is_take : T → List ℕ → A → T → Type 0) (taker : T)
    (buffered b : List ℕ) (old new : Option (List ℕ))
  where
    consuming_includes_buffered : Consumes (prepend_known buffered old) new b → Consumes
        (buffered_before_known buffered old)
        new b
    consuming_includes_buffered c = subst (λ (o : Option (List ℕ)). Consumes o new b)
        (sym (buffered_then_prepends buffered old))
        c

    pub complete_packet_is_consumed : (answer : A) (after : T)
        → Consumes (prepend_known buffered old) new b
        → (6 ≤ length b) × (size_at (take 6 b) ≡ Ok (length b))
        → AreBytes b
        → is_take taker b answer after
        → TakesPesPacketWith is_take (buffered_before_known buffered old) new taker answer after
    complete_packet_is_consumed answer after taken whole fit takes = record {
      bytes = b;
      is_pes_packet = stated_size_gives_pes_packet b fit whole.0 whole.1;
      fit = fit;
      consumed = consuming_includes_buffered taken;
      takes = takes;
    }

pub borrowed_prefix_is_pes_packet : (bytes : List ℕ) (size : ℕ) → AreBytes bytes → 184 ≤ size → size
    ≤ length
    bytes
    → size_at (take 6 bytes) ≡ Ok size
    → IsPesPacket (take size bytes)
borrowed_prefix_is_pes_packet bytes size fit long le e =
    let len = length-take-le size bytes le in
    stated_size_gives_pes_packet (take size bytes) (AreBytes-take size bytes fit)
    (omega (arith, len, long))
    (ap size_at (take-take 6 size bytes (omega (arith, long))) ∙ e
    ∙ ap (λ (k : ℕ). Ok k) (sym len))

pub borrowed_covers_buffered : (buffered borrowed : List ℕ) → take (length buffered) borrowed ≡
    buffered →
    length buffered ≤ length borrowed
borrowed_covers_buffered buffered borrowed begins =
    omega (arith, ap length begins, length-take (length buffered) borrowed)

pub enough_bytes_are_borrowed : (buffered borrowed : List ℕ) → buffered ≡ [] → has_enough_for_packet
    borrowed
    ≡ true
    → has_borrowed_pes_packet buffered borrowed ≡ true
enough_bytes_are_borrowed [] borrowed none holds = holds
enough_bytes_are_borrowed (x ∷ buffered) borrowed none holds = absurd cc
