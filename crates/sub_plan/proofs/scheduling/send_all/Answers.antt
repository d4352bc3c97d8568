-- `send_all` writes the page transmissions from base to base, and then the page transmission of the
-- last frame. If a write fails, the sink has received a prefix of the bytes of these transmissions.
use Rattle.std.proofs.Common.{◌≡◌, arith, refl, rules, ◌∙◌, inr, []}
use Rattle.std.proofs.lemmas.Result.{err_from_is_err_and}
use Rattle.sub_plan.specs.Schedule.{due_page_in}
use Rattle.sub_plan.specs.Sending.{sending}
use Rattle.sub_plan.proofs.StepLemmas.{IsIntervalOfOnePage, sendings-last, sendings-step}
use Rattle.sub_plan.proofs.PartLemmas.{part-end, part-more, part-one, prefix-more, prefix-one}
use Rattle.sub_plan.proofs.PartLemmas.{stretch-bytes}
use Rattle.sub_plan.proofs.scheduling.send_all.Goals as goal

pub returns-in_err-count-clause-bytes : goal.returns-in_err-count-clause-bytes
returns-in_err-count-clause-bytes g c =
    let i = c.loop-frame.invariant in
    let p = c.args.programme.now in
    let o = c.args.options.now in
    let s : IsIntervalOfOnePage (due_page_in p) c.args.first c.loop-frame.frame
    c.next_change-end.result.0
    c.args.last = search rules in
    let packets : c.packets.result.now ≡ sending o.page p.drawing.national c.args.serial
    (due_page_in p c.loop-frame.frame) = search rules in
    let e = err_from_is_err_and c.from_residual.result c.from_residual.ensures.1 in
    rw (e.1)
    (prefix-more i.part _ _ _ (sendings-step (due_page_in p) o.every c.args.first _ _ _ s)
    (rw (
      packets,
      stretch-bytes (due_page_in p) o p.drawing.national c.args.serial c.args.first
          _ _ _ s,
    )
    at c.in_err-count.ensures.bytes))

pub loop-frame-preserved : goal.loop-frame-preserved
loop-frame-preserved g c =
    let i = c.loop-frame.invariant in
    let p = c.args.programme.now in
    let o = c.args.options.now in
    let n = c.next_change-end.ensures in
    let s : IsIntervalOfOnePage (due_page_in p) c.args.first c.loop-frame.frame
    c.next_change-end.result.0
    c.args.last = search rules in
    let packets : c.packets.result.now ≡ sending o.page p.drawing.national c.args.serial
    (due_page_in p c.loop-frame.frame) = search rules in
    let e = c.in_ok-count.ensures in
    record {
      low = omega (arith, i.low, n.after);
      high = n.within;
      option = i.option;
      page = n.page;
      starts = λ h. inr (λ same. n.change h (same ∙ n.same _ (omega arith) (omega arith)));
      few = omega (arith, e.few, i.few, n.after, i.low);
      failures = search rules;
      part = rw e.number
          (part-more i.part _ (sendings-step (due_page_in p) o.every c.args.first _ _ _ s)
          (rw (
            packets,
            stretch-bytes (due_page_in p) o p.drawing.national c.args.serial c.args.first _ _ _ s,
          )
          at e.bytes));
    }

pub returns : goal.returns
returns g c =
    let p = c.args.programme.now in
    let o = c.args.options.now in
    let at_end : c.loop-frame.frame ≡ c.args.last = omega arith in
    let packets : c.packets-2.result.now ≡ sending o.page p.drawing.national c.args.serial
    (due_page_in p c.loop-frame.frame) = search rules in
    let all =
    part-end
    (part-one c.loop-frame.invariant.part {f = c.args.last} {left' = []}
    (rw at_end (sendings-last (due_page_in p) o.every c.args.first c.args.last))
    (rw (packets, at_end) at c.in_ok-put_at.ensures.bytes)) refl in
    record { number = all.0; bytes = all.1; count = search rules }

pub returns-in_err-put_at-clause-bytes : goal.returns-in_err-put_at-clause-bytes
returns-in_err-put_at-clause-bytes g c =
    let p = c.args.programme.now in
    let o = c.args.options.now in
    let at_end : c.loop-frame.frame ≡ c.args.last = omega arith in
    let packets : c.packets-2.result.now ≡ sending o.page p.drawing.national c.args.serial
    (due_page_in p c.loop-frame.frame) = search rules in
    let e = err_from_is_err_and c.from_residual-in_err-put_at.result
    c.from_residual-in_err-put_at.ensures.1 in
    rw (e.1)
    (prefix-one c.loop-frame.invariant.part _ {f = c.args.last} {left' = []}
    (rw at_end (sendings-last (due_page_in p) o.every c.args.first c.args.last))
    (rw (packets, at_end) at c.in_err-put_at.ensures.bytes))
