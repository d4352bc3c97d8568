-- `draw_due`: the subtitles in the list of cues are the records of the programme.
use Rattle.std.proofs.Common.{ap, subst}
use Rattle.stl_rows.specs.DuePage.{ReportsNextEdge}
use Rattle.stl_rows.proofs.programme.Programme.draw_due.Goals as goal

pub returns-clause-edge : goal.returns-clause-edge
returns-clause-edge c =
    subst (λ ts. ReportsNextEdge ts c.args.frame c.draw_expected.result.0)
    (ap (λ s. s.records) c.self.view_is) c.draw_expected.ensures.edge
