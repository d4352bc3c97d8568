use Rattle.std.proofs.Common.{refl, [], ◌∷◌}
use Rattle.sub_rules.specs.Trusted.CheckStep.{AtPes}
use Rattle.sub_checker.proofs.ReporterLemmas.{silent_step_is_relayed, appended_steps_are_relayed}
use Rattle.sub_checker.proofs.pes_file.report_skipped.Goals as goal

pub returns : goal.returns
returns g c =
    appended_steps_are_relayed {xs = AtPes c.args.pes ∷ []} refl (silent_step_is_relayed refl
    c.go_to.ensures refl)
    c.relay.ensures
