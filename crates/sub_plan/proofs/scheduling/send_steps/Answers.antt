-- `send_steps` writes one page transmission after another. If a write fails, the sink has received
-- a prefix of the bytes of these transmissions.
use Rattle.std.proofs.Common.{arith, rules}
use Rattle.std.proofs.lemmas.Result.{err_from_is_err_and}
use Rattle.sub_plan.proofs.StepLemmas.{steps-more, steps-none}
use Rattle.sub_plan.proofs.PartLemmas.{part-end, part-one, prefix-one}
use Rattle.sub_plan.proofs.scheduling.send_steps.Goals as goal

pub loop-frame-preserved : goal.loop-frame-preserved
loop-frame-preserved g c =
    let i = c.loop-frame.invariant in
    let every = c.repeat_interval-every.ensures in
    record {
      low = omega arith;
      few = omega arith;
      fewer = λ h. omega arith;
      units = search rules;
      failures = search rules;
      part = rw every.value
          (part-one i.part
          (steps-more c.args.options.now.every c.loop-frame.frame c.args.end
          (omega (arith, every.value)) c.loop-frame-test.true)
          (c.in_ok-put_packet_at.ensures.bytes c.args.packets.now i.units));
    }

pub returns-clause-number : goal.returns-clause-number
returns-clause-number g c = search (rules, part-end, steps-none)

pub returns-clause-bytes : goal.returns-clause-bytes
returns-clause-bytes g c = search (rules, part-end, steps-none)

pub returns-in_err-put_packet_at-clause-bytes : goal.returns-in_err-put_packet_at-clause-bytes
returns-in_err-put_packet_at-clause-bytes g c =
    let i = c.loop-frame.invariant in
    let p = err_from_is_err_and c.from_residual.result c.from_residual.ensures.1 in
    rw (p.1)
    (prefix-one i.part _
    (steps-more c.args.options.now.every c.loop-frame.frame c.args.end
    (omega (arith, c.repeat_interval-every.ensures.value)) c.loop-frame-test.true)
    (c.in_err-put_packet_at.ensures.bytes c.args.packets.now i.units))
