-- If a read returns a PES packet, the outcome of reading the file is this packet, followed by the
-- outcome for the remaining bytes. The end of the file and a fault end the outcome.
use Rattle.std.proofs.Common.{◌≡◌, ℕ, ◌+◌, ◌≤◌, List, Option, Some, None, Result, Ok, Err}
use Rattle.std.proofs.Common.{ap, ◌∙◌, arith}
use Rattle.std.proofs.lemmas.Bool.Decides.{nat_tests}
use Rattle.ttx_pes.specs.declared.fault.PesFault.{PesFault}
use Rattle.ttx_pes.specs.Outcome.{PesOutcome, ends, fails, gives, outcome_after}
use Rattle.ttx_pes.specs.Outcome.{outcome_until_refusal}
use Rattle.ttx_pes.specs.PesGrammar.{PesValue}
use Rattle.ttx_pes.specs.PesPackets.{PesPacketsValue, rest_after_pes_packet}
use Rattle.ttx_pes.specs.PesPackets.{prepend_pes_packet_answer}
use Rattle.ttx_pes.specs.PesPackets.{pes_packets_after}
use Rattle.ttx_pes.specs.Reading.{answer_at, max_pes_packets, rest_after}
use Rattle.ttx_pes.proofs.PesPacketListLemmas.{value_leaves_rest, pes_packets_after-next}

abbrev pub prepend_answer : Result (Option PesValue) PesFault → PesOutcome → PesOutcome
prepend_answer (Ok (Some v)) more = gives v more
prepend_answer (Ok None) more = ends
prepend_answer (Err f) more = fails f

prepending_answer_gives_outcome : (answer : Result (Option PesValue) PesFault)
    (more : PesPacketsValue)
    → outcome_until_refusal (prepend_pes_packet_answer answer more).pes_packets
    (prepend_pes_packet_answer answer more).left
    ≡ prepend_answer answer (outcome_until_refusal more.pes_packets more.left)
prepending_answer_gives_outcome answer more = grind (arith, nat_tests)

-- After each result of a read, the outcome of reading the file is the same whether the length field
-- or the parser determines where the remaining bytes begin.
rest_continues_outcome : (given : ℕ) (bytes : List ℕ) (answer : Result (Option PesValue) PesFault)
    → answer_at given bytes ≡ answer
    → prepend_answer answer (outcome_after (given + 1) (rest_after_pes_packet bytes))
    ≡ prepend_answer answer (outcome_after (given + 1) (rest_after bytes))
rest_continues_outcome given bytes answer h1 = grind (arith, nat_tests, value_leaves_rest)

pub outcome_after-next : (given : ℕ) (bytes : List ℕ) (answer : Result (Option PesValue) PesFault)
    → given ≤ max_pes_packets
    → answer_at given bytes ≡ answer
    → outcome_after given bytes
    ≡ prepend_answer answer (outcome_after (given + 1) (rest_after bytes))
unfolding outcome_after
outcome_after-next given bytes answer few is =
    ap (λ (p : PesPacketsValue). outcome_until_refusal p.pes_packets p.left)
    (pes_packets_after-next given bytes answer few is)
    ∙ prepending_answer_gives_outcome answer
    (pes_packets_after (given + 1) (rest_after_pes_packet bytes))
    ∙ rest_continues_outcome given bytes answer is
