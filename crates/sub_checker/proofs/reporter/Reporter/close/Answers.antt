use Rattle.sub_rules.specs.Trusted.CheckStep.{Closes}
use Rattle.sub_checker.proofs.RelayLemmas.{reporting_one_step_relays_it}
use Rattle.sub_checker.proofs.reporter.Reporter.close.Goals as goal

pub returns : goal.returns
returns g c =
    reporting_one_step_relays_it g.A.ReportSink.is_reported c.args.self.now
    _ (Closes c.args.are_left c.args.reports_more) _
    c.close-last.ensures.reported c.close-last.ensures.kept c.announce_if_present.ensures.reported
    c.announce_if_present.ensures.kept
