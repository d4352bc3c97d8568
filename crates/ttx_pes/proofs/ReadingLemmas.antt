-- A PES packet can be parsed exactly if it matches the grammar.
use Rattle.std.proofs.Common.{rules, ◌≡◌, ◌≢◌, ℕ, ◌-◌, ◌+◌, ◌*◌, ◌<◌, ◌≤◌, List, ◌++◌, length, take}
use Rattle.std.proofs.Common.{drop, Some, Result, Ok, Err, refl, sym, ap, subst, ◌∙◌, append_assoc}
use Rattle.std.proofs.Common.{arith, inl, inr, ◌⊎◌, length-append, length-take, length-drop}
use Rattle.std.proofs.lemmas.Bool.{cases_lt, le-ltb, lt-ltb}
use Rattle.std.proofs.lemmas.Bool.Decides.{nat_tests}
use Rattle.std.proofs.Math.Seq.{take-add}
use Rattle.std.proofs.lemmas.List.{take-append-drop, append_cancel_right, take_at, drop_at}
use Rattle.sub_io.specs.Reading.{◌>>=◌, AreBytes}
use Rattle.ttx_pes.specs.declared.fault.PesFault.{PesFault}
use Rattle.ttx_pes.specs.declared.fault.PesFault.TheVariants as fault
use Rattle.ttx_pes.specs.Laws.{LawOfGrammar, LawOfOneValue, LawOfReading, LawOfReadingBack}
use Rattle.ttx_pes.specs.PesGrammar.{PesValue, IsValidPesPacket, canonical_packet}
use Rattle.ttx_pes.specs.Reading.{max_pes_packets, size_at, value_at, packet_at, answer_at}
use Rattle.ttx_pes.specs.Reading.{rest_after}
use Rattle.ttx_pes.proofs.DataUnitLemmas.{AreBytes-take, AreBytes-drop}
use Rattle.ttx_pes.proofs.PesHeaderLemmas.{valid_body_decodes, body_of_valid_packet}
use Rattle.ttx_pes.proofs.PesHeaderLemmas.{decoded_body_is_valid, valid_header_decodes}
use Rattle.ttx_pes.proofs.PesHeaderLemmas.{decoded_header_has_size, packet_is_header_and_body}
use Rattle.ttx_pes.proofs.PesHeaderLemmas.{first_six_bytes}
use Rattle.ttx_pes.proofs.PesGrammarLemmas.{canonical_packet_is_valid}
use Rattle.sub_io.proofs.ReadingLemmas.{ok_chain_has_value, Ok-injective}

pub result_is_ok_or_error : {A : Type 0} (r : Result A PesFault)
    → ((x : A) × (r ≡ Ok x)) ⊎ ((e : PesFault) × (r ≡ Err e))
result_is_ok_or_error (Ok x) = inl (x, refl)
result_is_ok_or_error (Err e) = inr (e, refl)

pub full_reader_answers_too_many : (b : List ℕ) → 0 < length b → answer_at max_pes_packets b ≡ Err
    fault.TooMany
unfolding answer_at
full_reader_answers_too_many b h = grind (arith, nat_tests)

pub packet_decides_answer : (given : ℕ) (b : List ℕ) (r : Result (PesValue × List ℕ) PesFault)
    → 0 < length b
    → given ≢ max_pes_packets
    → packet_at b ≡ r
    → answer_at given b ≡ (r >>= λ p. Ok (Some p.0))
unfolding answer_at
packet_decides_answer given b r h ne e = grind (arith, nat_tests)

-- If fewer than six bytes remain, reading a PES packet returns `Truncated`.
pub short_packet_is_truncated : (b : List ℕ) → length b < 6 → packet_at b ≡ Err fault.Truncated
unfolding packet_at
short_packet_is_truncated b h = rw (lt-ltb (length b) 6 h) refl

pub packet_size : (b : List ℕ) (f : PesFault)
    → 6 ≤ length b
    → size_at (take 6 b) ≡ Err f
    → packet_at b ≡ Err f
unfolding packet_at
packet_size b f h e = rw (le-ltb (length b) 6 h, e) refl

-- If the bytes end within a PES packet, reading it returns `Truncated`.
pub incomplete_packet_is_refused : (b : List ℕ) (size : ℕ)
    → 6 ≤ length b
    → size_at (take 6 b) ≡ Ok size
    → length b < size
    → packet_at b ≡ Err fault.Truncated
unfolding packet_at
incomplete_packet_is_refused b size h e lt = rw (
  le-ltb (length b) 6 h,
  e,
  lt-ltb (length b) size
      lt,
) refl

pub complete_packet_is_decoded : (b : List ℕ) (size : ℕ)
    → 6 ≤ length b
    → size_at (take 6 b) ≡ Ok size
    → size ≤ length b
    → packet_at b ≡ (value_at (take (size - 6) (drop 6 b)) >>= λ v. Ok (v, drop size b))
unfolding packet_at
complete_packet_is_decoded b size h e le = rw (le-ltb (length b) 6 h, e, le-ltb (length b) size le)
    refl

pub header_and_body_decode : (head body rest : List ℕ) (size : ℕ)
    → length head ≡ 6
    → size_at head ≡ Ok size
    → 6 ≤ size
    → length body ≡ size - 6
    → packet_at (head ++ (body ++ rest)) ≡ (value_at body >>= λ v. Ok (v, rest))
header_and_body_decode head body rest size has_six_bytes e le len =
    let all = head ++ (body ++ rest) in
    let prefix : take 6 all ≡ head = take_at head (body ++ rest) 6 has_six_bytes in
    let back : drop 6 all ≡ body ++ rest = drop_at head (body ++ rest) 6 has_six_bytes in
    let middle : take (size - 6) (body ++ rest) ≡ body = take_at body rest (size - 6) len in
    let both : length (head ++ body) ≡ size = length-append head body ∙ omega arith in
    let after : drop size all ≡ rest = grind (arith, nat_tests, append_assoc, drop_at) in
    let total : length all ≡ 6 + (size - 6 + length rest) = search (rules, length-append) in
    complete_packet_is_decoded all size (omega arith) (ap size_at prefix ∙ e) (omega arith)
    ∙ rw (back, middle, after) refl

pub decoded_packet_is_answer : (given : ℕ) (b : List ℕ) (v : PesValue) (rest : List ℕ)
    → given ≢ max_pes_packets
    → packet_at b ≡ Ok (v, rest)
    → answer_at given b ≡ Ok (Some v)
unfolding packet_at
decoded_packet_is_answer given b v rest ne e = grind (arith, nat_tests, packet_decides_answer)

-- The law of reading: reading a packet of the grammar returns its value, whatever bytes follow.
pub valid_packet_is_read : LawOfReading
valid_packet_is_read v b rest h =
    let body = body_of_valid_packet v b h in
    let c = valid_body_decodes v b h in
    let header_states_size = valid_header_decodes h.n h.size.0 h.size.1 in
    let parts : b ++ rest ≡ first_six_bytes h.n ++ (body ++ rest) =
    ap (λ (x : List ℕ). x ++ rest) (packet_is_header_and_body v b h) ∙ append_assoc
    (first_six_bytes h.n) body
    rest in
    ap packet_at parts
    ∙ header_and_body_decode (first_six_bytes h.n) body rest (184 * h.n) refl header_states_size
    (let lo = h.size.0 in omega arith) c.1
    ∙ rw c.0 refl

abbrev ValueAndRest : Type 0
ValueAndRest = PesValue × List ℕ

pub decoded_value_has_valid_packet : (b : List ℕ) (size : ℕ) (v : PesValue)
    → AreBytes b
    → size_at (take 6 b) ≡ Ok size
    → 6 ≤ length b
    → size ≤ length b
    → value_at (take (size - 6) (drop 6 b)) ≡ Ok v
    → IsValidPesPacket v (take size b)
decoded_value_has_valid_packet b size v fit e long le ev =
    let h = decoded_header_has_size (take 6 b) size (length-take 6 b ∙ omega arith)
    (AreBytes-take 6 b fit) e in
    let body = take (size - 6) (drop 6 b) in
    let len : length body ≡ 184 * h.0 - 6 = grind (arith, nat_tests, length-take, length-drop) in
    let parts : take size b ≡ take 6 b ++ body = grind (arith, nat_tests, take-add) in
    rw (parts, h.4) (decoded_body_is_valid h.0 body v h.1 h.2 len
    (AreBytes-take (size - 6) (drop 6 b) (AreBytes-drop 6 b fit)) ev)

-- The law of the grammar: if reading returns a value, the bytes begin with a packet of the grammar.
pub read_bytes_are_valid_packet : LawOfGrammar
read_bytes_are_valid_packet v b rest fit e = elim (cases_lt (length b) 6) [
  | inl short ↦ let reported = short_packet_is_truncated b short in absurd cc
  | inr long ↦ elim (result_is_ok_or_error (size_at (take 6 b))) [
    | inr (f, bad) ↦ let reported = packet_size b f long bad in absurd cc
    | inl (size, header_states_size) ↦ elim (cases_lt (length b) size) [
      | inl cut ↦ let reported = incomplete_packet_is_refused b size long header_states_size cut
          in absurd cc
      | inr all ↦
          let s = ok_chain_has_value (value_at (take (size - 6) (drop 6 b))) _ (v, rest)
          (sym (complete_packet_is_decoded b size long header_states_size all) ∙ e) in
          let made : (c : List ℕ) × IsValidPesPacket s.0 c × (b ≡ c ++ drop size b) = (
            take size b,
            decoded_value_has_valid_packet b size s.0 fit header_states_size long all s.1,
            sym (take-append-drop size b),
          ) in
          subst (λ (x : ValueAndRest). (c : List ℕ) × IsValidPesPacket x.0 c × (b ≡ c ++ x.1))
          (Ok-injective (s.0, drop size b) (v, rest) s.2) made
    ]
  ]
]

-- The law of one value: if a list of bytes begins with two valid PES packets, they are the same
-- packet and have the same value.
pub packet_has_one_value : LawOfOneValue
packet_has_one_value a b x y v w p q e =
    let same =
    Ok-injective (v, x) (w, y) (sym (valid_packet_is_read v a x p) ∙ ap packet_at e
    ∙ valid_packet_is_read w b y q) in
    grind (arith, nat_tests, Ok-injective, valid_packet_is_read, append_cancel_right)

pub rest_after-packet : (v : PesValue) (b rest : List ℕ)
    → packet_at b ≡ Ok (v, rest)
    → rest_after b ≡ rest
unfolding rest_after
rest_after-packet v b rest e = rw e refl

-- The law of reading back: reading the canonical packet of a valid value returns that value, and
-- leaves the bytes that follow, unless 2,160,000 packets were read before.
pub written_packet_reads_back : LawOfReadingBack
written_packet_reads_back given v rest ne h =
    let b = canonical_packet v ++ rest in
    let e = valid_packet_is_read v (canonical_packet v) rest (canonical_packet_is_valid v h) in
    (decoded_packet_is_answer given b v rest ne e, rest_after-packet v b rest e)
