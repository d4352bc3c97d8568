use Rattle.sub_checker.proofs.LastEventsLemmas.{closing_events_are_endings_and_fault}
use Rattle.sub_checker.proofs.EventPartsLemmas.{reports_of_append}
use Rattle.sub_checker.proofs.checker.Checker.close.Goals as goal

pub returns : goal.returns
returns g c =
    reports_of_append _ _ _ _ _ _
    (closing_events_are_endings_and_fault c.args.pes c.args.fault _ _ _ _ c.self.view_is
    c.none-none.ensures
    c.last_fault.ensures)
    c.report_change.ensures c.report_fault.ensures
