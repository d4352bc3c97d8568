use Rattle.std.proofs.Common.{◌∙◌, ap, sym}
use Rattle.sub_checker.specs.Checker.{CheckerValue}
use Rattle.sub_checker.proofs.BetweenPesPacketsLemmas.{closed_frame_has_no_pending_end}
use Rattle.sub_checker.proofs.ReporterLemmas.{no_steps_are_relayed}
use Rattle.sub_checker.proofs.checker.Checker.end_pending_frame.Goals as goal

pub returns-then-not-self-clause-reported : goal.returns-then-not-self-clause-reported
returns-then-not-self-clause-reported g c = λ criteria sent last keeps.
    let shut =
    sym (ap (λ (v : CheckerValue). v.counts.is_open) c.self.view_is) ∙ c.if-not-self.true in (
      no_steps_are_relayed (closed_frame_has_no_pending_end criteria sent last c.args.self.now keeps
          shut),
      keeps.closed shut,
    )
