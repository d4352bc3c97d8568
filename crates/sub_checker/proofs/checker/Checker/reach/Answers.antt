use Rattle.std.proofs.Common.{◌≡◌, ◌∙◌, ◌<◌, ℕ, ap, arith, sym, subst}
use Rattle.sub_checker.specs.CheckedFrames.{AfterEnd, BeforePackets, steps_to_next_frame}
use Rattle.sub_checker.specs.Relay.{ReporterRelays}
use Rattle.sub_rules.specs.FrameRules.{frame_at}
use Rattle.sub_checker.proofs.checker.Checker.reach.Goals as goal

some : {n m : ℕ} → m ≡ n → (m ≡ 0 → ⊥) → 0 < n
some same h = omega (arith, same, h)

pub returns-then-self-eq0-clause-reported : goal.returns-then-self-eq0-clause-reported
returns-then-self-eq0-clause-reported g c = λ criteria frames n last follows is.
    let here = subst (AfterEnd criteria frames n last) (sym c.self.view_is) follows in
    let none : n ≡ 0 = sym here.number ∙ c.if-self-eq0.true in
    subst (λ (k : ℕ).
    ReporterRelays g.A.ReportSink.is_reported c.args.reporter.now (steps_to_next_frame criteria
    frames k)
    c.begin.new.reporter
    × BeforePackets criteria frames k last c.begin.new.self) (sym none)
    (c.begin.ensures.reported criteria frames last
    (subst (λ (k : ℕ). AfterEnd criteria frames k last c.args.self.now) none follows)
    (ap (frame_at frames) (sym none) ∙ is))

pub returns-else-self-eq0-clause-reported : goal.returns-else-self-eq0-clause-reported
returns-else-self-eq0-clause-reported g c = λ criteria frames n last follows is.
    let here = subst (AfterEnd criteria frames n last) (sym c.self.view_is) follows in
    c.go_to.ensures.reported criteria frames n last follows (some here.number c.if-self-eq0.false)
    is
