use Rattle.std.proofs.Common.{ap, refl, rules}
use Rattle.mpeg_ts.specs.Recording.{RecordingValue}
use Rattle.ttx_pes.specs.declared.file_pes_packets.FilePesPackets.{FilePesPackets}
use Rattle.sub_answer.proofs.EndingLemmas.{ends_weaker}
use Rattle.sub_answer.proofs.PartLemmas.{range_of_file_is_part, range_of_stream_is_part}
use Rattle.sub_answer.proofs.parts.answer_second_part.Goals as goal

pub returns-in-None : goal.returns-in-None
returns-in-None g c =
    ends_weaker _ _ _ _ _ _ _ _ _ _ _ _ c.answer_second_range-status.ensures.ends
    (λ input is. is)
    (λ input is.
    range_of_file_is_part g.T.Source.remaining g.T.Source.failure_count _ _ input
    _ _ _ _ _ c.args.part
    is c.in-None.is (search rules) (search rules) (search rules) (search rules))
    (λ is. let same = ap (λ (f : FilePesPackets g.row.T.Denot). f.source.now) is in search rules)
    (λ first call is. is)

pub returns-in-Some : goal.returns-in-Some
returns-in-Some g c =
    rw c.into_inner.ensures
    (ends_weaker _ _ _ _ _ _ _ _ _ _ _ _ c.answer_second_range-status-in-Some.ensures.ends
    (λ input is. is)
    (λ input is.
    range_of_stream_is_part g.T.Source.remaining g.T.Source.failure_count _ _ input
    _ _ _ _ _ c.args.part
    c.in-Some.stream is c.in-Some.is c.new-pes_packets-in-Some.ensures.carried_bytes
    (ap (λ (v : RecordingValue g.row.T.Denot). g.T.Source.failure_count v.device)
    c.new-pes_packets-in-Some.ensures.start)
    refl)
    (λ is. rw (is, c.new-pes_packets-in-Some.ensures.start) refl) (λ first call is. is))
