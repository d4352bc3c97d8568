-- Up to the next cue, the expected page is known in all frames or unknown in all of them.
use Rattle.std.proofs.Common.{◌≡◌, ℕ, arith, subst, sym}
use Rattle.stl_rows.specs.DuePage.{IsEdge}
use Rattle.stl_rows.specs.Programme.{ProgrammeValue}
use Rattle.sub_checker.proofs.UndecidedLemmas.{undecided_is_constant_between_changes}
use Rattle.sub_checker.proofs.undecided.frame_before_last_edge.Goals as goal

same_cues : (p q : ProgrammeValue) (e : ℕ) → p ≡ q → IsEdge q.records e → IsEdge p.records e
same_cues p q e same edge = subst (λ (r : ProgrammeValue). IsEdge r.records e) (sym same) edge

pub returns-in_default : goal.returns-in_default
returns-in_default c f low until =
    undecided_is_constant_between_changes c.args.judging.now f c.args.at until
    (λ e edge after before.
    omega (arith, before, c.in_default.ensures.value e (same_cues _ _ e c.programme.ensures edge)))

pub returns-then-edge-least : goal.returns-then-edge-least
returns-then-edge-least c =
    let last = c.in-Some.ensures.value in
    let later = c.if-edge-least.true in (
      omega (arith, later),
      omega (arith, later, last.until),
      λ f low until.
          undecided_is_constant_between_changes c.args.judging.now f c.args.at until
          (λ e edge after before.
          omega (
            arith,
            low,
            after,
            last.greatest e (same_cues _ _ e c.programme.ensures edge)
                before,
          )),
    )

pub returns-else-edge-least : goal.returns-else-edge-least
returns-else-edge-least c f low until =
    let last = c.in-Some.ensures.value in
    let earlier = c.if-edge-least.false in
    undecided_is_constant_between_changes c.args.judging.now f c.args.at until
    (λ e edge after before.
    omega (
      arith,
      earlier,
      low,
      after,
      last.greatest e (same_cues _ _ e c.programme.ensures edge)
          before,
    ))
