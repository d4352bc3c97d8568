-- The events that the reporter passes to a device.
use Rattle.std.specs.Prelude.{◌≡◌, List, [], ◌∷◌}
use Rattle.sub_io.specs.Reporting.{Reports}
use Rattle.sub_rules.specs.PesPacketEvents.{announced_events, no_run, skipped_run_after_events}
use Rattle.sub_rules.specs.Trusted.{CheckStep}
use Rattle.sub_rules.specs.Trusted.CheckStep.{Emits}
use Rattle.sub_rules.specs.declared.event.Event.{Event}
use Rattle.sub_checker.specs.FusedAudience.{ReportsUnlessStopped}
use Rattle.sub_checker.specs.StoredSkippedRun.{skipped_run_of, stored_run}
use Rattle.sub_checker.specs.declared.reporter.Relay.{Relay}
use Rattle.sub_checker.specs.declared.reporter.Reporter.{Reporter}
use Rattle.sub_checker.specs.TrustTracker.{after_step, new_tracker, events_of_steps, tracker_after}

-- The state of the reporter before the first step.
abbrev pub initial_relay : Relay
initial_relay = record { tracker = new_tracker; run = stored_run no_run }

-- The events that the reporter passes to the device for a list of steps.
unfoldable pub relayed_events : Relay → List CheckStep → List Event
relayed_events p ms = announced_events (skipped_run_of p.run) (events_of_steps p.tracker ms)

-- The state of the reporter after a list of steps.
unfoldable pub relay_after : Relay → List CheckStep → Relay
relay_after p ms = record {
  tracker = tracker_after p.tracker ms;
  run = stored_run (skipped_run_after_events (skipped_run_of p.run) (events_of_steps p.tracker ms));
}

-- The reporter after a step that reports nothing.
abbrev pub at_step : {D : Type 0} {g : _} → CheckStep → Reporter D g → Reporter D g
at_step m s = record s { relay = record s.relay { tracker = after_step m s.relay.tracker } }

-- The reporter passed the relayed events (`relayed_events`) of a list of steps to its device, until
-- the device stopped the check, and has the state after these steps.
pub record ReporterRelays
    {D : Type 0} {g : _} (IsReported : D → Event → D → Type 0)
    (old : Reporter D g) (steps : List CheckStep) (new : Reporter D g)
    : Type 0 where
  pub reported :
      Reports (ReportsUnlessStopped IsReported) old.fused new.fused (relayed_events old.relay steps)
  pub kept : new.relay ≡ relay_after old.relay steps

-- Unless the device stopped the check, the reporter passed one event of the checker to it, after
-- the events for trusted frames and for a run of several skipped PES packets, if the event ends
-- them. An event that continues a run of skipped PES packets is not passed on.
abbrev pub IsRelayed : {D : Type 0} {g : _}
    → (D → Event → D → Type 0) → Reporter D g → Event → Reporter D g → Type 0
IsRelayed IsReported old e new = ReporterRelays IsReported old (Emits e ∷ []) new
