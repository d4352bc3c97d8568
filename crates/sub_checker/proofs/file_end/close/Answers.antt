use Rattle.std.proofs.Common.{◌++◌, [], ◌∷◌, length, ap, map, refl, sym}
use Rattle.sub_rules.specs.PesPacketEvents.{closing_events_of_pes_packets}
use Rattle.sub_rules.specs.Trusted.{CheckStep}
use Rattle.sub_rules.specs.Trusted.CheckStep.{AtPes, Emits}
use Rattle.sub_checker.proofs.LastEventsLemmas.{closing_steps_agree, closing_events_agree}
use Rattle.sub_checker.proofs.LastEventsLemmas.{same_reports_are_relayed_alike}
use Rattle.sub_checker.proofs.ReporterLemmas.{silent_step_is_relayed, emitted_events_are_relayed}
use Rattle.sub_checker.proofs.ReporterLemmas.{appended_steps_are_relayed}
use Rattle.sub_checker.proofs.file_end.close.Goals as goal

pub returns-clause-reported : goal.returns-clause-reported
returns-clause-reported g c = λ criteria list last follows is.
    let step =
    closing_steps_agree criteria list c.args.pes last _ c.args.fault c.is_some.result
    c.reports_trusted-more.result follows is c.is_some.ensures c.reports_trusted-more.ensures in
    appended_steps_are_relayed
    (ap (λ (m : CheckStep). (AtPes c.args.pes ∷ m ∷ [])
    ++ map Emits (closing_events_of_pes_packets criteria list c.args.pes (length list))) (sym step))
    (appended_steps_are_relayed refl (silent_step_is_relayed refl c.go_to.ensures refl)
    c.close.ensures)
    (same_reports_are_relayed_alike _ _ (closing_events_agree criteria list c.args.pes last
    _ c.args.fault follows is)
    (emitted_events_are_relayed refl c.close-2.ensures))

pub returns-clause-some : goal.returns-clause-some
returns-clause-some g c =
    let relays =
    appended_steps_are_relayed refl
    (appended_steps_are_relayed refl (silent_step_is_relayed refl c.go_to.ensures refl)
    c.close.ensures)
    (emitted_events_are_relayed refl c.close-2.ensures) in
    record { items = _; reported = relays.reported }
