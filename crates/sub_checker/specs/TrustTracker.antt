-- The stored state from which the trusted frames are computed.
use Rattle.std.specs.Prelude.{ℕ, suc, ◌&&◌, ◌||◌, true, false, not, Bool, List, [], ◌∷◌, ◌++◌}
use Rattle.std.specs.Prelude.{Option, Some, None, is_none, is_some, unwrap_or, if◌then◌else◌}
use Rattle.sub_rules.specs.Fault.{invalidated_frame, fault_row}
use Rattle.sub_rules.specs.Trusted.{CheckStep, with_pes_number, trusted}
use Rattle.sub_rules.specs.Trusted.CheckStep.{AtEnd, AtPes, Begins, Closes, Ends, GoesBack, Emits}
use Rattle.sub_rules.specs.declared.event.Event.{Event}
use Rattle.sub_rules.specs.declared.event.Event.TheVariants.{Reported}
use Rattle.sub_rules.specs.declared.fault.CheckFault.TheVariants as fault
use Rattle.sub_checker.specs.declared.trust_tracker.TrustTracker.{TrustTracker}

-- The first frame that is no longer trusted because of the event, if there is one. `last` is the
-- frame of the last PES packet that was not skipped; `late` is the first frame with the unfinished
-- page, if the page is overdue.
unfoldable pub invalidated : ℕ → Option ℕ → Event → Option ℕ
invalidated last late (Reported f) = invalidated_frame last late (fault_row f).invalidates
    (fault_row f).place
invalidated last late event = None

-- The event reports that frame numbers do not increase.
unfoldable pub is_order_fault : Event → Bool
is_order_fault (Reported (fault.Order pes)) = true
is_order_fault event = false

-- The event for the trusted frames of a run that ends before this frame. The frames from `back` on
-- have an unfinished page and are not trusted.
abbrev pub trusted_events_before : Option ℕ → Option ℕ → Option ℕ → Option ℕ → List Event
trusted_events_before run finished back None = []
trusted_events_before run finished back (Some f) = trusted run finished (unwrap_or back f)

-- The run of trusted frames after frame f. `has_beginning` says whether f has a header with which a
-- run can begin.
abbrev pub continued_run : Option ℕ → Bool → ℕ → Option ℕ
continued_run (Some from) has_beginning f = Some from
continued_run None has_beginning f = if has_beginning then Some f else None

-- The run of trusted frames after an event, which ends it if it invalidates a frame.
abbrev pub trusted_run_after : Option ℕ → Option ℕ → Option ℕ
trusted_run_after run None = run
trusted_run_after run (Some f) = None

-- The first frame of the run at whose end the page was finished, after frame f of the run. The page
-- is finished at f if `first_unfinished` is `None`.
abbrev pub first_finished_frame : Option ℕ → Option ℕ → ℕ → Option ℕ
first_finished_frame (Some earlier) first_unfinished f = Some earlier
first_finished_frame None None f = Some f
first_finished_frame None (Some first_unfinished) f = None

-- The first frame of the run at whose end the page was finished, after frame f, with which a run
-- continues or begins.
abbrev pub first_finished_frame_in : Option ℕ → Option ℕ → Option ℕ → ℕ → Option ℕ
first_finished_frame_in None earlier first_unfinished f =
    first_finished_frame None first_unfinished f
first_finished_frame_in (Some from) earlier first_unfinished f =
    first_finished_frame earlier first_unfinished f

-- The first frame with the unfinished page, if the page is overdue.
abbrev pub overdue_run_start : TrustTracker → Option ℕ
overdue_run_start t = if t.is_late then t.first_unfinished else None

-- The first frame that is not trusted at the end of the file.
abbrev pub first_untrusted_frame : TrustTracker → Bool → ℕ
first_untrusted_frame t are_left =
    unwrap_or t.first_unfinished (if are_left then unwrap_or t.back t.last else suc t.last)

-- The events to report for one step: the trusted frames that end with it, and its own event. At the
-- end of the file, trusted frames are reported only if an event was reported or `more` is true.
unfoldable pub events_of_step : CheckStep → TrustTracker → List Event
events_of_step (Emits e) t =
    trusted_events_before t.run t.first_finished t.back
    (invalidated t.last (overdue_run_start t) e) ++
    with_pes_number
    t.pes e ∷ []
events_of_step (Closes are_left more) t =
    if t.reported || more
    then trusted t.run t.first_finished (first_untrusted_frame t are_left)
    else []
events_of_step step t = []

-- The state of the tracker after one step.
unfoldable pub after_step : CheckStep → TrustTracker → TrustTracker
after_step (AtPes pes) t = record t { pes = pes }
after_step (Emits e) t = record t {
  run = trusted_run_after t.run (invalidated t.last (overdue_run_start t) e);
  rises = t.rises && not (is_order_fault e);
  is_clean = t.is_clean && is_none (invalidated t.last (overdue_run_start t) e);
  reported = true;
}
after_step (Begins f) t = record t { last = f; is_clean = t.rises }
after_step (AtEnd f first_unfinished late) t = record t {
  first_unfinished = first_unfinished;
  is_late = late;
  first_finished = if is_some t.run
      then first_finished_frame t.first_finished first_unfinished f
      else t.first_finished;
}
after_step (Ends f has_beginning none) t = record t {
  run = if t.is_clean && none then continued_run t.run has_beginning f else None;
  first_finished = first_finished_frame_in t.run t.first_finished t.first_unfinished f;
}
after_step (Closes are_left more) t = record t { run = None }
after_step (GoesBack first_unfinished) t = record t { back = first_unfinished }

-- The state of the tracker before the first step.
abbrev pub new_tracker : TrustTracker
new_tracker = record {
  pes = 0;
  run = None;
  first_finished = None;
  last = 0;
  rises = true;
  is_clean = true;
  first_unfinished = None;
  is_late = false;
  back = None;
  reported = false;
}

-- The events to report for a list of steps.
unfoldable pub events_of_steps : TrustTracker → List CheckStep → List Event
events_of_steps t [] = []
events_of_steps t (m ∷ ms) = events_of_step m t ++ events_of_steps (after_step m t) ms

-- The state of the tracker after a list of steps.
unfoldable pub tracker_after : TrustTracker → List CheckStep → TrustTracker
tracker_after t [] = t
tracker_after t (m ∷ ms) = tracker_after (after_step m t) ms
