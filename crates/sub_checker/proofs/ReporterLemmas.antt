-- A list of steps can be passed to the reporter in parts.
use Rattle.std.proofs.Common.{◌≡◌, List, [], ◌∷◌, ◌++◌, Bool, true, false, cond, map}
use Rattle.std.proofs.Common.{refl, sym, subst}
use Rattle.sub_io.specs.Reporting.{Reports}
use Rattle.sub_rules.specs.Trusted.{CheckStep}
use Rattle.sub_rules.specs.Trusted.CheckStep.{Begins, GoesBack, Emits}
use Rattle.sub_rules.specs.declared.event.Event.{Event}
use Rattle.sub_checker.specs.Checker.{CheckerValue, back_steps, needs_back_step}
use Rattle.sub_checker.specs.CheckedFrames.{reporter_after_back_step}
use Rattle.sub_checker.specs.Relay.{IsRelayed, ReporterRelays, at_step}
use Rattle.sub_checker.specs.declared.reporter.Reporter.{Reporter}
use Rattle.sub_checker.proofs.RelayLemmas.{may_report, relays-none, relays-trans}
use Rattle.sub_checker.proofs.RelayLemmas.{reported_events_are_relayed}
use Rattle.sub_checker.proofs.RelayLemmas.{silent}
use Rattle.sub_checker.proofs.RelayLemmas.{silent_step_reports_nothing}

module _ {D : Type 0} {g : _} {IsReported : D → Event → D → Type 0} where
  pub equal_steps_are_relayed : {s t : Reporter D g} {xs zs : List CheckStep}
      → zs ≡ xs
      → ReporterRelays IsReported s xs t
      → ReporterRelays IsReported s zs t
  equal_steps_are_relayed is on = rw is on

  pub no_steps_are_relayed : {s : Reporter D g} {zs : List CheckStep} → zs ≡ []
      → ReporterRelays IsReported s zs s
  no_steps_are_relayed {s} is = rw is (relays-none IsReported s)

  pub appended_steps_are_relayed : {a b c : Reporter D g} {xs ys zs : List CheckStep}
      → zs ≡ xs ++ ys
      → ReporterRelays IsReported a xs b
      → ReporterRelays IsReported b ys c
      → ReporterRelays IsReported a zs c
  appended_steps_are_relayed {a} {b} {c} {xs} {ys} is first second =
      rw is (relays-trans IsReported a b c xs ys first second)

  pub emitted_events_are_relayed : {s t : Reporter D g} {es : List Event} {zs : List CheckStep}
      → zs ≡ map Emits es
      → Reports (IsRelayed IsReported) s t es
      → ReporterRelays IsReported s zs t
  emitted_events_are_relayed {s} {t} {es} is reported = rw is (reported_events_are_relayed
      IsReported s t es reported)

  pub silent_step_is_relayed : {s t : Reporter D g} {m : CheckStep} {zs : List CheckStep}
      → zs ≡ m ∷ []
      → t ≡ at_step m s
      → may_report m ≡ false
      → ReporterRelays IsReported s zs t
  silent_step_is_relayed {s} {t} {m} is at none =
      rw is (silent IsReported s t m at (silent_step_reports_nothing m s.relay.tracker none))

  pub going_back_is_relayed : (s t : Reporter D g) (c : CheckerValue) {zs : List CheckStep}
      → zs ≡ back_steps c
      → t ≡ reporter_after_back_step c s
      → ReporterRelays IsReported s zs t
  unfolding reporter_after_back_step
  going_back_is_relayed s t c is at = rw is (by (needs_back_step c) at)
    where
      by : (b : Bool) → t ≡ cond b (at_step (GoesBack c.first_unfinished) s) s
          → ReporterRelays IsReported s (cond b (GoesBack c.first_unfinished ∷ []) []) t
      by true at = silent_step_is_relayed refl at refl
      by false at = subst (ReporterRelays IsReported s []) (sym at) (no_steps_are_relayed refl)

  pub beginning_frame_is_relayed : (s t : Reporter D g) (c : CheckerValue)
      → t ≡ reporter_after_back_step c (at_step (Begins c.frame) s)
      → ReporterRelays IsReported s (Begins c.frame ∷ back_steps c) t
  beginning_frame_is_relayed s t c at =
      appended_steps_are_relayed {xs = Begins c.frame ∷ []} refl
      (silent_step_is_relayed {s = s} {t = at_step (Begins c.frame) s} refl refl refl)
      (going_back_is_relayed (at_step (Begins c.frame) s) t c refl at)
