-- The consumed bytes of a PES packet determine the result of reading it.
use Rattle.std.proofs.Common.{◌≡◌, ◌≢◌, ℕ, ◌<◌, ◌≤◌, List, [], length, take, drop, Option, None}
use Rattle.std.proofs.Common.{Some, Result, Ok, Err, refl, sym, ap, subst, ◌∙◌, append_assoc, arith}
use Rattle.std.proofs.Common.{length-append, length-take, length-drop, true}
use Rattle.std.proofs.lemmas.Bool.Decides.{nat_tests}
use Rattle.std.proofs.lemmas.List.{take-append-drop, append-nil, take-take, drop-drop}
use Rattle.std.specs.Prelude.{IfErr, IfOk}
use Rattle.std.specs.Io.KnownBytes.{Consumes, IsAtEnd}
use Rattle.sub_io.specs.Reading.{◌>>=◌, AreBytes}
use Rattle.ttx_pes.specs.declared.fault.PesFault.{PesFault}
use Rattle.ttx_pes.specs.declared.fault.PesFault.TheVariants as fault
use Rattle.ttx_pes.specs.declared.progress.Progress.TheVariants.{Reading}
use Rattle.ttx_pes.specs.PesGrammar.{PesValue, IsValidPesPacket}
use Rattle.ttx_pes.specs.Reading.{max_pes_packets, size_at, value_at, packet_at, answer_at}
use Rattle.ttx_pes.specs.Reading.{rest_after}
use Rattle.ttx_pes.specs.Reading.{is_format_fault}
use Rattle.ttx_pes.specs.Reader.{TakesValidPesPacket, ConsumesRefusedBytes, ReportsPacket}
use Rattle.ttx_pes.specs.Comparing.{TakesDataField}
use Rattle.ttx_pes.specs.Accepting.{SettlesPacket}
use Rattle.ttx_pes.proofs.ReadingLemmas.{full_reader_answers_too_many, packet_decides_answer}
use Rattle.ttx_pes.proofs.ReadingLemmas.{header_and_body_decode, read_bytes_are_valid_packet}
use Rattle.ttx_pes.proofs.ReaderLemmas.{left, nothing, consumed_packet_leaves_rest, value_in_pair}

nothing_consumed_means_end : (old new : Option (List ℕ)) (bytes taken : List ℕ)
    → Consumes old new taken
    → old ≡ Some bytes
    → taken ≡ []
    → IsAtEnd new
    → (bytes ≡ []) × (new ≡ Some (rest_after bytes))
unfolding rest_after packet_at
nothing_consumed_means_end old new bytes taken h reported none end = grind (arith, nat_tests, left)

packet_limit_refuses_packet : (given : ℕ) (old new : Option (List ℕ)) (bytes taken : List ℕ)
    → Consumes old new taken
    → old ≡ Some bytes
    → 0 < length taken
    → given ≡ max_pes_packets
    → answer_at given bytes ≡ Err fault.TooMany
packet_limit_refuses_packet given old new bytes taken h reported some full =
    grind (arith, nat_tests, left, full_reader_answers_too_many, length-append)

-- If the consumed bytes are a complete PES packet, they determine its value or its first fault.
pub complete_packet_settles : (old new : Option (List ℕ)) (taken : List ℕ)
    → Consumes old new taken
    → 6 ≤ length taken
    → size_at (take 6 taken) ≡ Ok (length taken)
    → SettlesPacket old new taken (value_at (drop 6 taken))
complete_packet_settles old new taken h le header_states_size =
    let first = length-take 6 taken in let others = length-drop 6 taken in
    grind (arith, nat_tests, take-append-drop 6 taken, append_assoc, header_and_body_decode)

pub settled_result_is_value : (old new : Option (List ℕ)) (taken body : List ℕ)
    (r : Result PesValue PesFault)
    → SettlesPacket old new taken (value_at (drop 6 taken))
    → body ≡ drop 6 taken
    → value_at body ≡ r
    → SettlesPacket old new taken r
settled_result_is_value old new taken body r h same e = grind (arith, nat_tests)

call_answer : (r : Result PesValue PesFault) (rest : List ℕ)
    → ((r >>= λ v. Ok (v, rest)) >>= value_in_pair) ≡ (r >>= λ v. Ok (Some v))
call_answer r rest = grind (arith, nat_tests)

pub settled_value_is_answer : (given : ℕ) (old new : Option (List ℕ)) (taken bytes : List ℕ)
    (r : Result PesValue PesFault)
    → SettlesPacket old new taken r
    → (given ≡ max_pes_packets → ⊥)
    → old ≡ Some bytes
    → answer_at given bytes ≡ (r >>= λ v. Ok (Some v))
settled_value_is_answer given old new taken bytes r h ne reported =
    grind (arith, nat_tests, left, packet_decides_answer, length-append, call_answer)

-- If the consumed bytes determine a fault, the parser rejects them for that fault even if no bytes
-- follow.
pub settled_fault_refuses_packet : (old new : Option (List ℕ)) (taken : List ℕ) (f : PesFault)
    → SettlesPacket old new taken (Err f)
    → ConsumesRefusedBytes old new f
settled_fault_refuses_packet old new taken f h = grind (arith, nat_tests, append-nil taken)

-- If the consumed bytes determine a value, they are a valid PES packet with that value.
abbrev pub settled_value_consumes_packet : (old new : Option (List ℕ)) (taken : List ℕ)
    (v : PesValue)
    → SettlesPacket old new taken (Ok v)
    → AreBytes taken
    → TakesValidPesPacket old new v
settled_value_consumes_packet old new taken v h fit =
    let s = read_bytes_are_valid_packet v taken [] fit
    (ap packet_at (sym (append-nil taken)) ∙ h.answer [] (λ _. refl)) in
    record {
      bytes = taken;
      is_packet = subst (IsValidPesPacket v) (sym (s.2 ∙ append-nil s.0)) s.1;
      consumed = h.consumed;
    }

pub settled_value_gives_data_field : (old new : Option (List ℕ)) (taken body field : List ℕ)
    (v : PesValue)
    → SettlesPacket old new taken (Ok v)
    → AreBytes taken
    → body ≡ drop 6 taken
    → field ≡ drop 39 body
    → TakesDataField old new v field
settled_value_gives_data_field old new taken body field v h fit same is = record {
  packet = settled_value_consumes_packet old new taken v h fit;
  field_is_after_header = is ∙ ap (drop 39) same ∙ drop-drop 39 6 taken;
}

pub kept_header_keeps_size : (got n : ℕ) (old new head : List ℕ) (r : Result ℕ PesFault)
    → 6 ≤ got
    → got ≤ n
    → take got new ≡ take got old
    → head ≡ take 6 old
    → size_at head ≡ r
    → size_at (take 6 (take n new)) ≡ r
kept_header_keeps_size got n old new head r le more kept is reported =
    ap size_at (take-take 6 n new (omega arith) ∙ sym (take-take 6 got new le) ∙ ap (take 6) kept
    ∙ take-take 6 got old le ∙ sym is)
    ∙ reported

pub end_of_input_is_answer : (given : ℕ) (old new : Option (List ℕ)) (taken : List ℕ)
    → Consumes old new taken
    → taken ≡ []
    → IsAtEnd new
    → ReportsPacket (Reading given) old new (Ok None)
end_of_input_is_answer given old new taken h none end = grind
    (arith, nat_tests, nothing_consumed_means_end, nothing)

pub too_many_is_answer : (given : ℕ) (old new : Option (List ℕ)) (taken : List ℕ)
    → Consumes old new taken
    → 0 < length taken
    → given ≡ max_pes_packets
    → ReportsPacket (Reading given) old new (Err fault.TooMany)
too_many_is_answer given old new taken h some full = grind
    (arith, nat_tests, packet_limit_refuses_packet)

pub settled_result_is_answer : (given : ℕ) (old new : Option (List ℕ)) (taken : List ℕ)
    (r : Result PesValue PesFault)
    → SettlesPacket old new taken r
    → given ≢ max_pes_packets
    → IfOk r (λ _. AreBytes taken)
    → IfErr r (λ f. is_format_fault f ≡ true)
    → ReportsPacket (Reading given) old new (r >>= λ v. Ok (Some v))
settled_result_is_answer given old new taken (Ok v) h ne fit kind =
    let packet = settled_value_consumes_packet old new taken v h fit in
    let exact : (bytes : List ℕ) → old ≡ Some bytes → answer_at given bytes ≡ Ok (Some v) =
    λ bytes. settled_value_is_answer given old new taken bytes (Ok v) h ne in
    let left : (bytes : List ℕ) → old ≡ Some bytes → new ≡ Some (rest_after bytes) =
    λ bytes. consumed_packet_leaves_rest old new v bytes packet in
    grind (arith, nat_tests, exact, left)
settled_result_is_answer given old new taken (Err f) h ne fit kind =
    let exact : (bytes : List ℕ) → old ≡ Some bytes → answer_at given bytes ≡ Err f =
    λ bytes. settled_value_is_answer given old new taken bytes (Err f) h ne in
    grind (arith, nat_tests, settled_value_is_answer, settled_fault_refuses_packet)
