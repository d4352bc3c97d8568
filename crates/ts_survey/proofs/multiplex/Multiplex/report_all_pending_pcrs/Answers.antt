-- Printing all irregular PCRs of a followed PID does not change which PIDs are followed.
use Rattle.std.proofs.Common.{◌<◌, ◌∙◌, length, rules}
use Rattle.ts_survey.specs.Requested.{followed_pid}
use Rattle.ts_survey.proofs.RequestedLemmas.{map-same}
use Rattle.ts_survey.proofs.multiplex.Multiplex.report_all_pending_pcrs.Goals as goal

pub loop-carrier-preserved : goal.loop-carrier-preserved
loop-carrier-preserved c =
    let items = c.loop-carrier.carrier-items in
    let at = c.loop-carrier.carrier-index in
    let below : at < length items = search rules in
    map-same followed_pid items at c.report_settled_pcrs.new.self c.carrier-item.result below
    c.report_settled_pcrs.ensures
    ∙ c.loop-carrier.invariant
