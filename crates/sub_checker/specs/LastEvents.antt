-- The events at the end of a file, and the counts.
use Rattle.std.specs.Prelude.{◌≡◌, ℕ, zero, suc, ◌+◌, ◌<◌, ◌||◌, Bool, List, [], ◌∷◌, ◌++◌}
use Rattle.std.specs.Prelude.{Option, Some, None, if◌then◌else◌}
use Rattle.stl_rows.specs.Programme.{last_tco}
use Rattle.sub_io.specs.Reporting.{Reports, ReportsPrefix}
use Rattle.sub_checker.specs.Checker.{CheckerValue, is_currently_pending}
use Rattle.sub_checker.specs.declared.accepted.Accepted.{Accepted}
use Rattle.sub_rules.specs.declared.event.Event.{Event}
use Rattle.sub_rules.specs.declared.event.Event.TheVariants.{Reported}
use Rattle.sub_rules.specs.Events.{fault_ending_events, ends_too_early, unread_fault}
use Rattle.sub_rules.specs.FrameRules.{UnreadReason}
use Rattle.sub_rules.specs.declared.fault.CheckFault.{CheckFault}
use Rattle.sub_rules.specs.declared.fault.CheckFault.TheVariants as fault

-- The last fault to report: the fault that ended reading; otherwise `Empty` if there is no PES
-- packet, or `Late` if there is a frame and `late` is true: the last TCO is after the last frame,
-- or the page is unfinished there but not yet overdue.
abbrev pub last_fault_after : Option CheckFault → ℕ → ℕ → Bool → ℕ → Option CheckFault
last_fault_after (Some f) frames pes late frame = Some f
last_fault_after None zero zero late frame = Some fault.Empty
last_fault_after None zero (suc pes) late frame = None
last_fault_after None (suc n) pes late frame = if late then Some (fault.Late frame) else None

-- The last fault to report, given the state of the checker.
abbrev pub last_fault : ℕ → Option CheckFault → CheckerValue → Option CheckFault
last_fault pes given c =
    last_fault_after given c.counts.frames pes
    (ends_too_early (last_tco c.programme.records) c.last || is_currently_pending c) c.last

-- The event for an optional fault.
abbrev pub fault_events : Option CheckFault → List Event
fault_events None = []
fault_events (Some f) = Reported f ∷ []

-- The events at the end of the file, given the state of the checker: the active faults end, and the
-- last fault, if there is one, follows.
abbrev pub closing_events_of_checker : ℕ → Option CheckFault → CheckerValue → List Event
closing_events_of_checker pes given c = fault_ending_events c.active_faults c.last ++ fault_events
    (last_fault pes given c)

-- The fault that ended reading, given the reason.
abbrev pub ending_fault : ℕ → Option UnreadReason → Option CheckFault
ending_fault pes None = None
ending_fault pes (Some u) = Some (unread_fault pes (Some u))

-- The returned counts agree with the state of the checker.
pub record CountsMatchChecker (c : CheckerValue) (a : Accepted) : Type 0 where
  pub none : c.counts.frames ≡ 0 → a.frames ≡ 0
  pub frames_are : 0 < c.counts.frames → a.frames + c.first ≡ c.latest_frame + 1
  pub headers_eq : a.headers ≡ c.counts.headers

-- The device received all events, and the counts are returned; or the device stopped the check
-- after a prefix of the events.
abbrev pub FinishesReporting : {A D : Type 0}
    → (D → A → D → Type 0) → D → D → List A → Option Accepted → Type 0
FinishesReporting IsReported old new items (Some a) = Reports IsReported old new items
FinishesReporting IsReported old new items None = ReportsPrefix IsReported old new items
