-- No item is pending when a new PES packet begins.
use Rattle.std.proofs.Common.{◌∙◌, ap}
use Rattle.mpeg_ts.specs.Joining.{JoiningValue}
use Rattle.mpeg_ts.proofs.ReadyLemmas.{no_pending_bytes_no_item}
use Rattle.mpeg_ts.proofs.joining.Joining.begin_part.Goals as goal

pub invariant_of-self : goal.invariant_of-self
invariant_of-self c =
    let s = c.self-else-begins in
    let idle = ap (λ (v : JoiningValue). v.pending) s.view_is ∙ c.requires.idle in
    let none = no_pending_bytes_no_item s.inside.pending_item s.inside.part s.inside.bytes
    s.invariant.waits
    idle in
    record { last = s.invariant.last; room = λ e. absurd cc; waits = rw none tt }
