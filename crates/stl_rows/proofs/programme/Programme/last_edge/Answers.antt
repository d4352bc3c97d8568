-- `last_edge`: the subtitles in the list of cues are the records of the programme.
use Rattle.std.proofs.Common.{ap, subst}
use Rattle.stl_rows.specs.DuePage.{ReportsLastEdge}
use Rattle.stl_rows.proofs.programme.Programme.last_edge.Goals as goal

pub returns-clause-value : goal.returns-clause-value
returns-clause-value c =
    subst (λ ts. ReportsLastEdge ts c.args.frame c.last_cue_until.result)
    (ap (λ s. s.records) c.self.view_is) c.last_cue_until.ensures
