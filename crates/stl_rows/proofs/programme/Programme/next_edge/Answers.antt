-- `next_edge`: the subtitles in the list of cues are the records of the programme.
use Rattle.std.proofs.Common.{ap, subst}
use Rattle.stl_rows.specs.DuePage.{ReportsNextEdge}
use Rattle.stl_rows.proofs.programme.Programme.next_edge.Goals as goal

pub returns-clause-value : goal.returns-clause-value
returns-clause-value c =
    subst (λ ts. ReportsNextEdge ts c.args.frame c.next_cue_after.result)
    (ap (λ s. s.records) c.self.view_is) c.next_cue_after.ensures
