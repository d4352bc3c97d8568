-- `next_change`: the expected page is the same at each frame from `frame` to before the frame that
-- is returned.
use Rattle.std.proofs.Common.{arith, inl, inr}
use Rattle.std.proofs.lemmas.Bool.Decides.{nat_tests}
use Rattle.std.proofs.lemmas.Bool.{cases_lt}
use Rattle.sub_plan.specs.Schedule.{due_page_in}
use Rattle.sub_plan.proofs.EdgeLemmas.{due_page_lasts_until_edge}
use Rattle.sub_plan.proofs.scheduling.next_change.Goals as goal
use Rattle.sub_plan.proofs.scheduling.next_change.Goals.{in-Some+then-edge-last, in_default}

pub returns-in-Some-first_difference-clause-same : goal.returns-in-Some-first_difference-clause-same
returns-in-Some-first_difference-clause-same c =
    let i = c.loop-edge.invariant in
    let p = c.args.programme.now in
    due_page_lasts_until_edge (due_page_in p) p.records _ c.loop-edge.at _ (c.law_of_edges.ensures
    p.drawing p.records)
    c.in-Some.ensures.value.least i.same i.low

pub loop-edge-preserved : goal.loop-edge-preserved
loop-edge-preserved c =
    let i = c.loop-edge.invariant in
    let p = c.args.programme.now in
    let next = c.in-Some.ensures.value in
    record {
      low = omega (arith, next.after);
      high = omega arith;
      same = λ f low high.
          elim (cases_lt f c.in-Some.edge) [
            | inl before ↦ due_page_lasts_until_edge (due_page_in p) p.records _ c.loop-edge.at _
                (c.law_of_edges.ensures p.drawing p.records) next.least i.same i.low f low before
            | inr last ↦ grind (arith, nat_tests)
          ];
    }

pub returns-clause-same : goal.returns-clause-same
returns-clause-same c =
    let i = c.loop-edge.invariant in
    let p = c.args.programme.now in
    due_page_lasts_until_edge (due_page_in p) p.records _ c.loop-edge.at _ (c.law_of_edges.ensures
    p.drawing p.records)
    (elim c.match-next_edge.branch [
      | in-Some+then-edge-last w ↦
          λ e edge after. omega (arith, w.in-Some.ensures.value.least e edge after)
      | in_default w ↦ λ e edge after. absurd (omega (arith, w.in_default.ensures.value e edge))
    ]) i.same i.low
