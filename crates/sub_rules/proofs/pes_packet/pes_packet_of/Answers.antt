use Rattle.std.proofs.Common.{◌∙◌, refl, sym, ap, arith}
use Rattle.std.proofs.lemmas.Bool.Decides.{nat_tests}
use Rattle.sub_plan.specs.FrameTime.{clock_of}
use Rattle.sub_rules.specs.FrameRules.UnreadReason.{NoFrame}
use Rattle.sub_rules.proofs.PesPacketFileLemmas.{clock_in_day}
use Rattle.sub_rules.proofs.PesPacketFileLemmas.{off_frame_answer_reads_skipped_packet}
use Rattle.sub_rules.proofs.PesPacketFileLemmas.{valid_answer_reads_sent_packet}
use Rattle.sub_rules.proofs.pes_packet.pes_packet_of.Goals as goal

pub returns-in-Some-clause-exact : goal.returns-in-Some-clause-exact
returns-in-Some-clause-exact c = λ v bytes pes_packets unread is few at reads.
    let of = ap (clock_of c.args.options.now) is ∙ sym c.frame_of.ensures.value ∙ c.in-Some.is in (
      valid_answer_reads_sent_packet _ _ bytes pes_packets unread v c.in-Some.frame few reads at of,
      of,
    )

pub returns-in-Some-clause-day : goal.returns-in-Some-clause-day
returns-in-Some-clause-day c = λ sending is.
    let of = clock_in_day c.args.options.now c.args.pts c.in-Some.frame
    (sym c.frame_of.ensures.value ∙ c.in-Some.is) in
    grind (arith, nat_tests)

pub returns-in-None-clause-exact : goal.returns-in-None-clause-exact
returns-in-None-clause-exact c = λ v bytes pes_packets unread is few at reads. (
  NoFrame,
  refl,
  off_frame_answer_reads_skipped_packet _ _ bytes pes_packets unread v few reads at
      (ap (clock_of c.args.options.now) is ∙ sym c.frame_of.ensures.value ∙ c.in-None.is),
)
