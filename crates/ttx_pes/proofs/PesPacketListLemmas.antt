-- Bytes split into the PES packets that are read from them one after another.
use Rattle.std.proofs.Common.{◌≡◌, ◌≢◌, ℕ, zero, suc, ◌+◌, ◌-◌, ◌<◌, ◌≤◌, ◌⊎◌, true}
use Rattle.std.proofs.Common.{false, List, [], ◌∷◌, ◌++◌, length, take, drop, Option, Some, None}
use Rattle.std.proofs.Common.{Result, Ok, Err, refl, sym, ap, subst, ◌∙◌, append_assoc, arith, inl}
use Rattle.std.proofs.Common.{inr, length-append, length-take, length-drop}
use Rattle.std.proofs.Math.Seq.{take-add}
use Rattle.std.proofs.lemmas.Bool.{cases_lt}
use Rattle.std.proofs.lemmas.Bool.Decides.{nat_tests}
use Rattle.std.proofs.lemmas.List.{append-nil, drop_at, get_or-take, take-append-drop, take_at}
use Rattle.std.specs.List.{AllByRecursion, AllZip, concat}
use Rattle.sub_io.specs.Reading.{◌>>=◌, AreBytes}
use Rattle.ttx_pes.specs.declared.fault.PesFault.{PesFault}
use Rattle.ttx_pes.specs.declared.fault.PesFault.TheVariants as fault
use Rattle.ttx_pes.specs.DataUnit.{UnitValue}
use Rattle.ttx_pes.specs.Fault.{is_packet_content_fault}
use Rattle.ttx_pes.specs.Laws.{LawOfPesPackets}
use Rattle.ttx_pes.specs.PesGrammar.{PesValue}
use Rattle.ttx_pes.specs.PesPackets.{SplitInto, IsPesPacket, IsPesPacketOf, PesPacketsValue}
use Rattle.ttx_pes.specs.PesPackets.{TakesRefusedPesPacket}
use Rattle.ttx_pes.specs.PesPackets.{rest_fault_answer, rest_after_pes_packet, without_pes_packets}
use Rattle.ttx_pes.specs.PesPackets.{prepend_pes_packet_answer, pes_packets_after}
use Rattle.ttx_pes.specs.PesPackets.{pes_packets_from, with_pes_packet}
use Rattle.ttx_pes.specs.Reading.{answer_at, max_pes_packets, packet_at, pts_at, rest_after}
use Rattle.ttx_pes.specs.Reading.{size_at}
use Rattle.ttx_pes.specs.Reading.{stated_size, teletext_at, unit_at, units_at, value_at}
use Rattle.ttx_pes.proofs.DataUnitLemmas.{AreBytes-drop, AreBytes-take}
use Rattle.ttx_pes.proofs.PesHeaderLemmas.{valid_header_decodes}
use Rattle.ttx_pes.proofs.PesPacketLemmas.{stated_size_gives_pes_packet}
use Rattle.ttx_pes.proofs.ReadingLemmas.{result_is_ok_or_error, full_reader_answers_too_many}
use Rattle.ttx_pes.proofs.ReadingLemmas.{packet_decides_answer, incomplete_packet_is_refused}
use Rattle.ttx_pes.proofs.ReadingLemmas.{header_and_body_decode, short_packet_is_truncated}
use Rattle.ttx_pes.proofs.ReadingLemmas.{packet_size, complete_packet_is_decoded}
use Rattle.ttx_pes.proofs.ReadingLemmas.{rest_after-packet, decoded_value_has_valid_packet}
use Rattle.ttx_pes.proofs.ReaderLemmas.{left}
use Rattle.sub_io.proofs.ReadingLemmas.{Ok-injective, ok_chain_has_value}

pts_fault_is_content_fault : (b : List ℕ) (f : PesFault) → pts_at b ≡ Err f →
    is_packet_content_fault f ≡ true
unfolding pts_at
pts_fault_is_content_fault b f e = grind (arith, nat_tests)

unit_fault_is_content_fault : (units : List UnitValue) (b : List ℕ) (f : PesFault)
    → unit_at units b ≡ Err f
    → is_packet_content_fault f ≡ true
unfolding unit_at teletext_at
unit_fault_is_content_fault units b f e = grind (arith, nat_tests)

units_fault_is_content_fault : (n : ℕ) (units : List UnitValue) (b : List ℕ) (f : PesFault)
    → units_at n units b ≡ Err f
    → is_packet_content_fault f ≡ true
unfolding units_at
units_fault_is_content_fault zero units b f e = absurd cc
units_fault_is_content_fault (suc n) units b f e = elim
    (result_is_ok_or_error (unit_at units (take 46 b))) [
      | inl (more, ok) ↦
          units_fault_is_content_fault n more (drop 46 b) f
          (sym (ap (λ r. r >>= λ us. units_at n us (drop 46 b)) ok) ∙ e)
      | inr (g, bad) ↦
          unit_fault_is_content_fault units (take 46 b) f
          (bad ∙ sym (ap (λ r. r >>= λ us. units_at n us (drop 46 b)) bad) ∙ e)
    ]

-- A fault that is found in the bytes of a complete PES packet after its length field is a fault in
-- its contents.
value_fault_is_content_fault : (b : List ℕ) (f : PesFault) → value_at b ≡ Err f →
    is_packet_content_fault f ≡ true
unfolding value_at
value_fault_is_content_fault b f h1 = grind (
  arith,
  nat_tests,
  units_fault_is_content_fault,
  pts_fault_is_content_fault,
)

-- A wrong start code or length is not a fault in the contents of a PES packet.
size_fault_is_not_content : (b : List ℕ) (f : PesFault) → size_at b ≡ Err f →
    is_packet_content_fault f ≡ false
unfolding size_at
size_fault_is_not_content b f e = grind (arith, nat_tests)

record Reports (p more : List ℕ) : Type 0 where
  pub header_states_size : size_at (take 6 (p ++ more)) ≡ Ok (length p)
  pub some : 184 ≤ length p

pes_packet_states_size : (p more : List ℕ) → IsPesPacket p → Reports p more
pes_packet_states_size p more h1 = grind (arith, nat_tests, valid_header_decodes)

decoded_size_is_stated_size : (b : List ℕ) (size : ℕ)
    → 6 ≤ length b
    → size_at (take 6 b) ≡ Ok size
    → stated_size b ≡ size
unfolding size_at
decoded_size_is_stated_size b size long e = grind (arith, nat_tests, get_or-take)

-- The bytes begin with a PES packet of this size, which is valid or has a fault in its contents.
record StartsWithPacket (b : List ℕ) (size : ℕ) : Type 0 where
  pub reported : stated_size b ≡ size
  pub has_six_bytes : 6 ≤ length b
  pub le : size ≤ length b
  pub long : length (take size b) ≡ size
  pub header_states_size : size_at (take 6 b) ≡ Ok size
  pub is_pes_packet : IsPesPacket (take size b)
  pub read : packet_at b ≡ (value_at (take (size - 6) (drop 6 b)) >>= λ v. Ok (v, drop size b))
  pub alone :
      packet_at (take size b) ≡ (value_at (take (size - 6) (drop 6 b)) >>= λ v. Ok (v, []))

-- The bytes do not begin with a PES packet, because of this fault.
record HasNoPacketAtFront (b : List ℕ) (f : PesFault) : Type 0 where
  pub read : packet_at b ≡ Err f
  pub kind : is_packet_content_fault f ≡ false
  pub none : (p more : List ℕ) → IsPesPacket p → b ≡ p ++ more → ⊥

complete_bytes_start_with_packet : (b : List ℕ) (size : ℕ)
    → AreBytes b
    → 6 ≤ length b
    → size_at (take 6 b) ≡ Ok size
    → size ≤ length b
    → StartsWithPacket b size
complete_bytes_start_with_packet b size fit has_six_bytes e le =
    let reported = decoded_size_is_stated_size b size has_six_bytes e in
    let long : length (take size b) ≡ size = length-take size b ∙ omega arith in
    let body = take (size - 6) (drop 6 b) in
    let lo : 6 ≤ size = omega arith in
    let parts : take size b ≡ take 6 b ++ body = grind (arith, nat_tests, take-add) in
    let head : length (take 6 b) ≡ 6 = length-take 6 b ∙ omega arith in
    let len : length body ≡ size - 6 = grind (arith, nat_tests, length-take, length-drop) in
    let prefix : take 6 (take size b) ≡ take 6 b =
    ap (take 6) parts ∙ take_at (take 6 b) body 6 head in
    record {
      reported = reported;
      has_six_bytes = has_six_bytes;
      le = le;
      long = long;
      header_states_size = e;
      is_pes_packet = stated_size_gives_pes_packet (take size b) (AreBytes-take size b fit)
          (omega arith)
          (ap size_at prefix ∙ e ∙ ap (λ (k : ℕ). Ok k) (sym long));
      read = complete_packet_is_decoded b size has_six_bytes e le;
      alone = ap packet_at (parts ∙ ap (λ (x : List ℕ). take 6 b ++ x) (sym (append-nil body)))
          ∙ header_and_body_decode (take 6 b) body [] size head e lo len;
    }

starts_with_packet_or_fault : (b : List ℕ) → AreBytes b
    → ((size : ℕ) × StartsWithPacket b size) ⊎ ((f : PesFault) × HasNoPacketAtFront b f)
starts_with_packet_or_fault b fit = elim (cases_lt (length b) 6) [
  | inl short ↦ inr (
    fault.Truncated,
    record {
      read = short_packet_is_truncated b short;
      kind = refl;
      none = λ p more h is.
          let t = pes_packet_states_size p more h in
          let some = t.some in
          absurd (omega (arith, ap length is, length-append p more));
    },
  )
  | inr has_six_bytes ↦ elim (result_is_ok_or_error (size_at (take 6 b))) [
    | inr (f, bad) ↦ inr (
      f,
      record {
        read = packet_size b f has_six_bytes bad;
        kind = size_fault_is_not_content (take 6 b) f bad;
        none = λ p more h is.
            let t = pes_packet_states_size p more h in
            let same = ap (λ (x : List ℕ). size_at (take 6 x)) is in
            absurd cc;
      },
    )
    | inl (size, header_states_size) ↦ elim (cases_lt (length b) size) [
      | inl cut ↦ inr (
        fault.Truncated,
        record {
          read = incomplete_packet_is_refused b size has_six_bytes header_states_size cut;
          kind = refl;
          none = λ p more h is.
              let t = pes_packet_states_size p more h in
              let same : size ≡ length p = Ok-injective size (length p)
              (sym header_states_size ∙ ap (λ (x : List ℕ). size_at (take 6 x)) is ∙
              t.header_states_size) in
              absurd (omega (arith, ap length is, length-append p more));
        },
      )
      | inr all ↦ inl (
        size,
        complete_bytes_start_with_packet b size fit has_six_bytes
            header_states_size all,
      )
    ]
  ]
]

-- The bytes after `given` PES packets split into the packets of `value` and a rest, which begins
-- with no further packet unless the limit of 2,160,000 packets is reached.
record Splits (given : ℕ) (bytes : List ℕ) (value : PesPacketsValue) : Type 0 where
  pub packets : List (List ℕ)
  pub rest : List ℕ
  pub each : AllByRecursion IsPesPacket packets
  pub read : AllZip IsPesPacketOf packets value.pes_packets
  pub few : given + length packets ≤ max_pes_packets
  pub joined : bytes ≡ concat packets ++ rest
  pub longest :
      (others : List (List ℕ)) (more : List ℕ)
      → AllByRecursion IsPesPacket others
      → given + length others ≤ max_pes_packets
      → bytes ≡ concat others ++ more
      → length others ≤ length packets
  pub left_eq : (n : ℕ) → n ≡ given + length packets → answer_at n rest ≡ rest_fault_answer
      value.left

bytes_without_packet_split : (given : ℕ) (bytes : List ℕ) (left : Option PesFault)
    → given ≤ max_pes_packets
    → answer_at given bytes ≡ rest_fault_answer left
    → ((p more : List ℕ) → IsPesPacket p → given < max_pes_packets → bytes ≡ p ++ more → ⊥)
    → Splits given bytes (without_pes_packets left)
bytes_without_packet_split given bytes left few is none = record {
  packets = [];
  rest = bytes;
  each = tt;
  read = tt;
  few = omega arith;
  joined = refl;
  longest = most;
  left_eq = λ n e. ap (λ (k : ℕ). answer_at k bytes) (e ∙ omega arith) ∙ is;
}
  where
    most : (others : List (List ℕ)) (more : List ℕ)
        → AllByRecursion IsPesPacket others
        → given + length others ≤ max_pes_packets
        → bytes ≡ concat others ++ more
        → length others ≤ 0
    most [] more each within parts = omega arith
    most (p ∷ others) more each within parts =
        absurd (none p (concat others ++ more) each.0 (omega arith)
        (parts ∙ append_assoc p (concat others) more))

packet_extends_split : (given size : ℕ) (bytes : List ℕ) (pes_packet : Result PesValue PesFault)
    (more_pes_packets : PesPacketsValue)
    → given < max_pes_packets
    → StartsWithPacket bytes size
    → IsPesPacketOf (take size bytes) pes_packet
    → Splits (given + 1) (drop size bytes) more_pes_packets
    → Splits given bytes (with_pes_packet pes_packet more_pes_packets)
packet_extends_split given size bytes pes_packet more_pes_packets below s is h = record {
  packets = take size bytes ∷ h.packets;
  rest = h.rest;
  each = (s.is_pes_packet, h.each);
  read = (is, h.read);
  few = omega (arith, h.few);
  joined = sym (take-append-drop size bytes)
      ∙ ap (λ (x : List ℕ). take size bytes ++ x) h.joined
      ∙ sym (append_assoc (take size bytes) (concat h.packets) h.rest);
  longest = most;
  left_eq = λ n e. h.left_eq n (e ∙ omega arith);
}
  where
    most : (others : List (List ℕ)) (more : List ℕ)
        → AllByRecursion IsPesPacket others
        → given + length others ≤ max_pes_packets
        → bytes ≡ concat others ++ more
        → length others ≤ suc (length h.packets)
    most [] more each within parts = omega arith
    most (p ∷ others) more each within parts =
        let at = parts ∙ append_assoc p (concat others) more in
        let t = pes_packet_states_size p (concat others ++ more) each.0 in
        let same : length p ≡ size = Ok-injective (length p) size
        (sym t.header_states_size ∙ sym (ap (λ (x : List ℕ). size_at (take 6 x)) at) ∙
        s.header_states_size) in
        let rest = ap (drop size) at ∙ drop_at p (concat others ++ more) size same in
        let fewer = h.longest others more each.1 (omega arith) rest in
        omega arith

packet_list_unfolds : (room given : ℕ) (bytes : List ℕ) (r : Result (Option PesValue) PesFault)
    (value : PesPacketsValue)
    → answer_at given bytes ≡ r
    → prepend_pes_packet_answer r (pes_packets_from room (given + 1) (rest_after_pes_packet bytes))
    ≡ value
    → pes_packets_from (suc room) given bytes ≡ value
unfolding pes_packets_from
packet_list_unfolds room given bytes r value e is = rw e is

-- After `given` PES packets, the remaining bytes split into the packets that are read from them and
-- a rest. The proof is by induction over the number of packets that may still be read.
every_suffix_splits : (room given : ℕ) (bytes : List ℕ)
    → AreBytes bytes
    → given + room ≡ max_pes_packets
    → Splits given bytes (pes_packets_from room given bytes)
unfolding pes_packets_from answer_at
every_suffix_splits zero given [] fit e =
    bytes_without_packet_split given [] None (omega arith) refl (λ p more h below parts. absurd
    (omega arith))
every_suffix_splits zero given (x ∷ b) fit e =
    bytes_without_packet_split given (x ∷ b) (Some fault.TooMany) (omega arith)
    (ap (λ (k : ℕ). answer_at k (x ∷ b)) (let is : given ≡ max_pes_packets = omega arith in is)
    ∙ full_reader_answers_too_many (x ∷ b) (omega arith))
    (λ p more h below parts. absurd (omega arith))
every_suffix_splits (suc room) given [] fit e =
    bytes_without_packet_split given [] None (omega arith) refl (λ p more h below parts.
    let t = pes_packet_states_size p more h in
    let some = t.some in
    absurd (omega (arith, ap length parts, length-append p more)))
every_suffix_splits (suc room) given (x ∷ b) fit e =
    let bytes = x ∷ b in
    let below : given ≢ max_pes_packets = λ is. absurd (omega arith) in
    elim (starts_with_packet_or_fault bytes fit) [
      | inr (f, s) ↦
          let is = packet_decides_answer given bytes (Err f) (omega arith) below s.read in
          subst (Splits given bytes)
          (sym (packet_list_unfolds room given bytes (Err f) (without_pes_packets (Some f)) is
          (rw s.kind refl)))
          (bytes_without_packet_split given bytes (Some f) (omega arith) is
          (λ p more h lt parts. s.none p more h parts))
      | inl (size, s) ↦
          let following : rest_after_pes_packet bytes ≡ drop size bytes =
          ap (λ (k : ℕ). drop k bytes) s.reported in
          let others = every_suffix_splits room (given + 1) (drop size bytes)
          (AreBytes-drop size bytes fit) (omega arith) in
          elim (result_is_ok_or_error (value_at (take (size - 6) (drop 6 bytes)))) [
            | inl (v, ok) ↦
                let is = packet_decides_answer given bytes (Ok (v, drop size bytes)) (omega arith)
                below
                (s.read ∙ rw ok refl) in
                subst (Splits given bytes)
                (sym (packet_list_unfolds room given bytes (Ok (Some v)) _ is (rw following refl)))
                (packet_extends_split given size bytes (Ok v) _ (omega arith) s
                (decoded_value_has_valid_packet bytes size v fit s.header_states_size
                s.has_six_bytes s.le ok) others)
            | inr (f, bad) ↦
                let is = packet_decides_answer given bytes (Err f) (omega arith) below
                (s.read ∙ rw bad refl) in
                let kind = value_fault_is_content_fault (take (size - 6) (drop 6 bytes)) f bad in
                subst (Splits given bytes)
                (sym (packet_list_unfolds room given bytes (Err f) _ is
                (rw (kind, following) refl)))
                (packet_extends_split given size bytes (Err f) _ (omega arith) s
                (kind, s.alone ∙ rw bad refl) others)
          ]
    ]

all_bytes_split : (bytes : List ℕ) (value : PesPacketsValue) → Splits 0 bytes value → SplitInto
    bytes
    value
all_bytes_split bytes value h1 = grind (arith, nat_tests)

pub pes_packets_split_bytes : LawOfPesPackets
pes_packets_split_bytes bytes fit = all_bytes_split bytes _ (every_suffix_splits max_pes_packets 0
    bytes fit refl)

pes_packets_from-room : (room given : ℕ) (bytes : List ℕ)
    → given + room ≡ max_pes_packets
    → pes_packets_from room given bytes
    ≡ prepend_pes_packet_answer (answer_at given bytes) (pes_packets_from (room - 1) (given + 1)
    (rest_after_pes_packet bytes))
unfolding pes_packets_from answer_at
pes_packets_from-room room given bytes e = grind (arith, nat_tests)

pub pes_packets_after-next : (given : ℕ) (bytes : List ℕ)
    (answer : Result (Option PesValue) PesFault)
    → given ≤ max_pes_packets
    → answer_at given bytes ≡ answer
    → pes_packets_after given bytes
    ≡ prepend_pes_packet_answer answer (pes_packets_after (given + 1) (rest_after_pes_packet bytes))
pes_packets_after-next given bytes answer few is = grind (arith, nat_tests, pes_packets_from-room)

faulty_packet_gives_no_value : (given : ℕ) (bytes : List ℕ) (f : PesFault) (v : PesValue)
    → packet_at bytes ≡ Err f
    → answer_at given bytes ≡ Ok (Some v)
    → ⊥
unfolding answer_at
faulty_packet_gives_no_value given bytes f v h1 h2 = grind (arith, nat_tests)

read_packet_leaves_rest : (b : List ℕ) (p : PesValue × List ℕ)
    → packet_at b ≡ Ok p
    → rest_after b ≡ rest_after_pes_packet b
read_packet_leaves_rest b p e = elim (cases_lt (length b) 6) [
  | inl short ↦ let reported = short_packet_is_truncated b short in absurd cc
  | inr long ↦ elim (result_is_ok_or_error (size_at (take 6 b))) [
    | inr (f, bad) ↦ let reported = packet_size b f long bad in absurd cc
    | inl (size, header_states_size) ↦ elim (cases_lt (length b) size) [
      | inl cut ↦ let reported = incomplete_packet_is_refused b size long header_states_size cut
          in absurd cc
      | inr all ↦
          let s = ok_chain_has_value (value_at (take (size - 6) (drop 6 b))) _ p
          (sym (complete_packet_is_decoded b size long header_states_size all) ∙ e) in
          let rest : drop size b ≡ p.1 =
          ap (λ (x : PesValue × List ℕ). x.1) (Ok-injective (s.0, drop size b) p s.2) in
          rest_after-packet p.0 b p.1 e ∙ sym rest
          ∙ ap (λ (k : ℕ). drop k b)
          (sym (decoded_size_is_stated_size b size long header_states_size))
    ]
  ]
]

-- After a valid PES packet, its length field and the parser give the same remaining bytes.
pub value_leaves_rest : (given : ℕ) (bytes : List ℕ) (v : PesValue)
    → answer_at given bytes ≡ Ok (Some v)
    → rest_after bytes ≡ rest_after_pes_packet bytes
value_leaves_rest given bytes v e = elim (result_is_ok_or_error (packet_at bytes)) [
  | inr (f, bad) ↦ absurd (faulty_packet_gives_no_value given bytes f v bad e)
  | inl (p, read) ↦ read_packet_leaves_rest bytes p read
]

-- If the fault of a complete PES packet is returned, all bytes of that packet were consumed.
pub refused_packet_leaves_rest : (old new : Option (List ℕ)) (bytes : List ℕ) (f : PesFault)
    → TakesRefusedPesPacket old new f
    → old ≡ Some bytes
    → new ≡ Some (rest_after_pes_packet bytes)
refused_packet_leaves_rest old new bytes f h1 h2 =
    grind (
      arith,
      nat_tests,
      left,
      pes_packet_states_size,
      decoded_size_is_stated_size,
      length-append,
      drop_at,
    )
