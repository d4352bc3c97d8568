-- Passing a PCR to a followed PID does not change which PIDs are followed.
use Rattle.std.proofs.Common.{◌<◌, ◌∙◌, length, rules}
use Rattle.ts_survey.specs.Requested.{followed_pid}
use Rattle.ts_survey.proofs.RequestedLemmas.{map-same}
use Rattle.ts_survey.proofs.multiplex.Multiplex.note_pcr.Goals as goal

pub loop-carrier-preserved : goal.loop-carrier-preserved
loop-carrier-preserved c =
    let items = c.loop-carrier.carrier-items in
    let at = c.loop-carrier.carrier-index in
    let below : at < length items = search rules in
    let kept = c.note_pcr_for_carrier.ensures in
    map-same followed_pid items at c.note_pcr_for_carrier.new.carrier c.carrier-item.result below
    kept
    ∙ c.loop-carrier.invariant
