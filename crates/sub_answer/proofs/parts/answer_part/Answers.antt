use Rattle.std.proofs.Common.{◌∙◌, ap, refl, rules, sym}
use Rattle.mpeg_ts.specs.Recording.{RecordingValue}
use Rattle.sub_answer.proofs.EndingLemmas.{ends_weaker}
use Rattle.sub_answer.proofs.PartLemmas.{entire_source_is_part, range_of_file_is_part}
use Rattle.sub_answer.proofs.PartLemmas.{range_of_stream_is_part}
use Rattle.sub_answer.proofs.parts.answer_part.Goals as goal

pub returns-then-not-reads_pes_packets-clause-ends :
    goal.returns-then-not-reads_pes_packets-clause-ends
returns-then-not-reads_pes_packets-clause-ends g c =
    ends_weaker _ _ _ _ _ _ _ _ _ _ _ _ c.answer_source-status.ensures.ends
    (λ input is.
    entire_source_is_part g.S.Source.remaining g.S.Source.failure_count _ _ input c.args.request.now
    c.args.part c.requires.fits
    (sym c.reads_pes_packets.ensures ∙ c.if-not-reads_pes_packets.true) is)
    (λ input is. is) (λ is. is) (λ first call is. is)

pub returns-in-None-clause-ends : goal.returns-in-None-clause-ends
returns-in-None-clause-ends g c =
    ends_weaker _ _ _ _ _ _ _ _ _ _ _ _ c.answer_range-status.ensures.ends
    (λ input is.
    range_of_file_is_part g.S.Source.remaining g.S.Source.failure_count _ _ input
    _ _ _ _ _ c.args.part
    is c.in-None.is (search rules) (search rules) (search rules) (search rules))
    (λ input is. is) (λ is. is) (λ first call is. is)

pub returns-in-Some-clause-ends : goal.returns-in-Some-clause-ends
returns-in-Some-clause-ends g c =
    rw c.into_inner.ensures
    (ends_weaker _ _ _ _ _ _ _ _ _ _ _ _ c.answer_range-status-in-Some.ensures.ends
    (λ input is.
    range_of_stream_is_part g.S.Source.remaining g.S.Source.failure_count _ _ input
    _ _ _ _ _ c.args.part
    c.in-Some.stream is c.in-Some.is c.new-pes_packets-in-Some.ensures.carried_bytes
    (ap (λ (v : RecordingValue g.row.S.Denot). g.S.Source.failure_count v.device)
    c.new-pes_packets-in-Some.ensures.start)
    refl)
    (λ input is. is) (λ is. is) (λ first call is. is))
