-- After a valid PES packet, the bytes that follow the packet remain in the source.
use Rattle.std.proofs.Common.{◌≡◌, ℕ, true, List, [], ◌∷◌, ◌++◌, Option, Some, None, Result, Ok}
use Rattle.std.proofs.Common.{Err, refl, ap, ◌∙◌, arith}
use Rattle.std.proofs.lemmas.Bool.Decides.{nat_tests}
use Rattle.std.proofs.lemmas.Option.{same_Some}
use Rattle.std.specs.Io.KnownBytes.{Consumes}
use Rattle.ttx_pes.proofs.ReadingLemmas.{result_is_ok_or_error, valid_packet_is_read}
use Rattle.ttx_pes.proofs.ReadingLemmas.{rest_after-packet}
use Rattle.ttx_pes.specs.declared.fault.PesFault.{PesFault}
use Rattle.ttx_pes.specs.PesGrammar.{PesValue}
use Rattle.ttx_pes.specs.Reading.{packet_at, answer_at, rest_after, is_format_fault}
use Rattle.ttx_pes.specs.Laws.{LawOfReaderAnswers}
use Rattle.ttx_pes.specs.Reader.{TakesValidPesPacket}

abbrev pub value_in_pair : PesValue × List ℕ → Result (Option PesValue) PesFault
value_in_pair p = Ok (Some p.0)

pub nothing : (given : ℕ) (bytes : List ℕ) → bytes ≡ [] → answer_at given bytes ≡ Ok None
unfolding answer_at
nothing given bytes e = rw e refl

pub left : (old new : Option (List ℕ)) (bytes taken : List ℕ)
    → Consumes old new taken
    → old ≡ Some bytes
    → (rest : List ℕ) × (bytes ≡ taken ++ rest) × (new ≡ Some rest)
left old new bytes taken h e = grind (arith, nat_tests, same_Some)

pub consumed_packet_leaves_rest : (old new : Option (List ℕ)) (v : PesValue) (bytes : List ℕ)
    → TakesValidPesPacket old new v
    → old ≡ Some bytes
    → new ≡ Some (rest_after bytes)
consumed_packet_leaves_rest old new v bytes h e =
    let (rest, parts, new_eq) = left old new bytes h.bytes h.consumed e in
    let read = valid_packet_is_read v h.bytes rest h.is_packet in
    grind (arith, nat_tests, rest_after-packet)

fault_answer_is_packet_fault : (given : ℕ) (b : List ℕ) (f : PesFault)
    → is_format_fault f ≡ true
    → answer_at given b ≡ Err f
    → packet_at b ≡ Err f
unfolding answer_at
fault_answer_is_packet_fault given b f k e = grind (arith, nat_tests, result_is_ok_or_error)

pub reader_answers_are_correct : LawOfReaderAnswers
unfolding answer_at
reader_answers_are_correct given [] = (λ e. refl, λ f k e. absurd cc, λ e. absurd cc)
reader_answers_are_correct given (x ∷ b) = (
  λ e. grind (arith, nat_tests, result_is_ok_or_error),
  λ f k e v packet rest h parts.
      let bad = fault_answer_is_packet_fault given (x ∷ b) f k e in
      let good = ap packet_at parts ∙ valid_packet_is_read v packet rest h in
      absurd cc,
  λ e. omega arith,
)
