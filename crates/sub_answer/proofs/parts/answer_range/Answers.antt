use Rattle.std.proofs.Common.{rules}
use Rattle.ttx_pes.proofs.PartLemmas.{part_number_is_first_index, part_bytes_are_in_range}
use Rattle.sub_answer.proofs.EndingLemmas.{ends_weaker}
use Rattle.sub_answer.proofs.PartLemmas.{all_pes_packets_are_range, selected_pes_packets_are_range}
use Rattle.sub_answer.proofs.parts.answer_range.Goals as goal

pub returns-in-None-clause-ends : goal.returns-in-None-clause-ends
returns-in-None-clause-ends g c =
    rw c.in-None.is (ends_weaker _ _ _ _ _ _ _ _ _ _ _ _ c.answer_pes_packets.ensures.ends
    (λ input is. all_pes_packets_are_range _ _ _ _ _ input g.P.NumberedPesPackets.first
    g.P.NumberedPesPackets.skipped
    c.requires.start is)
    (λ input is. is) (λ is. is) (λ first call is. is))

pub returns-in-Some-clause-ends : goal.returns-in-Some-clause-ends
returns-in-Some-clause-ends g c =
    rw c.in-Some.is
    (ends_weaker _ _ _ _ _ _ _ _ _ _ _ _ c.answer_pes_packets-in-Some.ensures.ends
    (λ input is.
    selected_pes_packets_are_range _ _ _ _ _ input _ c.in-Some.range is
    (rw (
      c.new.ensures.now,
      c.new.ensures.left,
      c.new-in-Some.ensures,
      c.pes_packet_count.ensures,
      c.first.ensures,
    )
    (part_bytes_are_in_range c.in-Some.range _))
    (rw (c.new.ensures.now, c.new-in-Some.ensures, c.first.ensures)
    (part_number_is_first_index c.in-Some.range _))
    (search rules) (search rules))
    (λ input is. is) (λ is. is) (λ first call is. is))
