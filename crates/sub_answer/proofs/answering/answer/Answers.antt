-- If `reads_pes_packets` is true of the request, `answer` uses `first` as PES packets, otherwise as
-- bytes. In both cases its contract follows from that of `answer_from_inputs`.
use Rattle.std.proofs.Common.{◌∙◌, rules, sym}
use Rattle.sub_answer.proofs.EndingLemmas.{answers_second, followed_with_file}
use Rattle.sub_answer.proofs.EndingLemmas.{followed_of_pes_packets}
use Rattle.sub_answer.proofs.EndingLemmas.{written_with_file, written_of_pes_packets}
use Rattle.sub_answer.proofs.answering.answer.Goals as goal

pub returns-clause-answers : goal.returns-clause-answers
returns-clause-answers g c =
    answers_second _ _ _ _ _ _ _ _ _ (sym c.reads_pes_packets.ensures ∙
    c.if-reads_pes_packets.false)
    (search rules) (λ same. search rules) c.answer_from_inputs-2.ensures.answers.answers

pub returns-clause-followed : goal.returns-clause-followed
returns-clause-followed g c =
    followed_with_file _ _ _ _ _ _ (sym c.reads_pes_packets.ensures ∙ c.if-reads_pes_packets.false)
    (λ fails. search rules) c.answer_from_inputs-2.ensures.answers.followed

pub returns-clause-written : goal.returns-clause-written
returns-clause-written g c =
    written_with_file _ _ _ _ _ (sym c.reads_pes_packets.ensures ∙ c.if-reads_pes_packets.false)
    c.answer_from_inputs-2.ensures.answers.written

pub returns-then-reads_pes_packets-clause-followed :
    goal.returns-then-reads_pes_packets-clause-followed
returns-then-reads_pes_packets-clause-followed g c =
    followed_of_pes_packets
    _ _ _ _ _ _ _ (sym c.reads_pes_packets.ensures ∙ c.if-reads_pes_packets.true)
    (λ fails. search rules) c.answer_from_inputs.ensures.answers.followed

pub returns-then-reads_pes_packets-clause-written :
    goal.returns-then-reads_pes_packets-clause-written
returns-then-reads_pes_packets-clause-written g c =
    written_of_pes_packets
    _ _ _ _ _ _ (sym c.reads_pes_packets.ensures ∙ c.if-reads_pes_packets.true)
    (λ fails. search rules) c.answer_from_inputs.ensures.answers.written
