-- `are_in_order` tests one subtitle for overlap in each iteration.
use Rattle.std.proofs.Common.{arith, sym, ◌∙◌}
use Rattle.std.proofs.lemmas.Bool.Decides.{nat_tests}
use Rattle.stl_rows.proofs.KeepingLemmas.{in_order-all, in_order-end, in_order-next}
use Rattle.stl_rows.proofs.keeping.are_in_order.Goals as goal

pub returns-then-frame-last : goal.returns-then-frame-last
returns-then-frame-last g c =
    let t = c.at-subtitle.result in
    let end = in_order-end c.loop-i.last c.loop-i.i c.args.subtitles.now t
    (omega arith) (sym c.at-subtitle.ensures.is) (grind (arith, nat_tests)) in
    sym end ∙ sym c.loop-i.invariant.same ∙ in_order-all c.args.subtitles.now

pub loop-i-preserved : goal.loop-i-preserved
loop-i-preserved g c =
    let t = c.at-subtitle.result in
    let times = c.tci.ensures.is.times in
    let next = in_order-next c.loop-i.last c.loop-i.i c.args.subtitles.now t
    (omega arith) (sym c.at-subtitle.ensures.is) times (grind (arith, nat_tests)) in
    record {
      inside = omega arith;
      same = rw (c.frame-last.ensures.value, c.tco.ensures.value) (c.loop-i.invariant.same ∙ next);
    }
