-- Trusted frames (not defined by a standard): the frames that can be broadcast unchanged, whatever
-- is wrong elsewhere in the file. The checker reports them in addition to the faults.
--
-- Checking a file produces a list of steps: events, and the starts and ends of PES packets and
-- frames. In the definitions, `past` is the list of the steps so far, the latest first.
--
-- A frame is fault-free if none of its packets has a fault that affects receivers, and no fault is
-- active at its end. If frame numbers do not increase, no later frame is fault-free. The last frame
-- before a faulty PES packet, or before bytes that cannot be read, is not trusted, since these may
-- belong to it. The trusted frames of a run of fault-free frames begin with the first header of the
-- page that has C4 (erase page) set, or with any header of the page if C4 must always be set. They
-- are reported when the run ends; at the end of a file without other events, only if the subtitle
-- file has unreliable subtitles (rejected, faulty or out of order).
--
-- If the page need not be correct at each frame end, a run is trusted only if the page was finished
-- at one of its ends. If the run ends because the page is overdue or the file ends, the last frames
-- with an unfinished page are not trusted. If there are unreliable subtitles, this applies to every
-- end of a run, since the next expected page may be unknown.
use Rattle.std.specs.Prelude.{ℕ, suc, ◌-◌, ◌&&◌, ◌||◌, Bool, true, false, not, List, [], ◌∷◌}
use Rattle.std.specs.Prelude.{◌++◌, Option, Some, None, is_none, is_some, nat_lt, unwrap_or}
use Rattle.std.specs.Prelude.{if◌then◌else◌}
use Rattle.std.specs.List.{list_any}
use Rattle.std.specs.Option.{option_or}
use Rattle.sub_rules.specs.Events.{place_of_broken_rule, end_rules}
use Rattle.sub_rules.specs.Fault.{invalidated_frame, fault_with_pes_number, fault_row}
use Rattle.sub_rules.specs.declared.event.Event.{Event}
use Rattle.sub_rules.specs.declared.event.Event.TheVariants.{Reported, Trusted}
use Rattle.sub_rules.specs.declared.fault.CheckFault.TheVariants as fault
use Rattle.sub_rules.specs.declared.active_faults.ActiveFaults.{ActiveFaults}

-- A step in checking a PES file.
pub data CheckStep : Type 0 where
  -- The PES packet with this number is reached or, after the last PES packet, the end of the file.
  AtPes : ℕ → CheckStep
  -- An event of the check.
  Emits : Event → CheckStep
  -- The following Teletext packets belong to this frame.
  Begins : ℕ → CheckStep
  -- The following steps belong to the end of this frame. The second argument is the first frame of
  -- the current run of frames with an unfinished page, if there is one; the third says whether the
  -- page is overdue.
  AtEnd : ℕ → Option ℕ → Bool → CheckStep
  -- A frame with PES packets ends. The arguments are its number, whether it has a header with which
  -- trusted frames can begin, and whether no fault is active.
  Ends : ℕ → Bool → Bool → CheckStep
  -- The file ends. The arguments say whether there are unread bytes, and whether trusted frames are
  -- reported even if there was no event.
  Closes : Bool → Bool → CheckStep
  -- The first frame of the run of frames with an unfinished page, up to the frame before; `None` if
  -- the page was finished there, or no frame has ended.
  GoesBack : Option ℕ → CheckStep

-- ---- the position in the transmission

-- The number of the PES packet that was reached last; 0 before the first PES packet, and the number
-- of PES packets at the end of the file.
unfoldable pub current_pes : List CheckStep → ℕ
current_pes [] = 0
current_pes (AtPes pes ∷ past) = pes
current_pes (m ∷ past) = current_pes past

-- The frame that began last (`Begins`); 0 if no frame has begun.
unfoldable pub last_packet_frame : List CheckStep → ℕ
last_packet_frame [] = 0
last_packet_frame (Begins f ∷ past) = f
last_packet_frame (m ∷ past) = last_packet_frame past

-- The first frame of the current run of frames with an unfinished page; `None` if the page was
-- finished at the last frame end, or there is no `AtEnd` step, as when `within` is 0.
unfoldable pub first_unfinished_of : List CheckStep → Option ℕ
first_unfinished_of [] = None
first_unfinished_of (AtEnd f first_unfinished late ∷ past) = first_unfinished
first_unfinished_of (m ∷ past) = first_unfinished_of past

-- The first frame of the current run of frames with an unfinished page, if the page is overdue.
unfoldable pub late_run_start : List CheckStep → Option ℕ
late_run_start [] = None
late_run_start (AtEnd f first_unfinished late ∷ past) = if late then first_unfinished else None
late_run_start (m ∷ past) = late_run_start past

-- The frame of the last `GoesBack` step: the first frame of the run of frames with an unfinished
-- page, up to the frame before. `None` if the page was finished there or no frame had ended, or
-- without such a step.
unfoldable pub back_frame_of : List CheckStep → Option ℕ
back_frame_of [] = None
back_frame_of (GoesBack first_unfinished ∷ past) = first_unfinished
back_frame_of (m ∷ past) = back_frame_of past

-- The step is an event.
abbrev pub is_emitted : CheckStep → Bool
is_emitted (Emits e) = true
is_emitted m = false

-- ---- fault-free frames

-- The first frame that is no longer trusted because of this event; `None` if the event is no fault
-- that affects receivers. For a fault at the end of a frame at which the page is overdue, it is the
-- first frame with the unfinished page.
unfoldable pub invalidated_by : List CheckStep → Event → Option ℕ
invalidated_by past (Reported f) =
    invalidated_frame (last_packet_frame past) (late_run_start past) (fault_row f).invalidates
    (fault_row f).place
invalidated_by past event = None

-- The step reports that frame numbers do not increase.
unfoldable pub reports_order_fault : CheckStep → Bool
reports_order_fault (Emits (Reported (fault.Order pes))) = true
reports_order_fault m = false

-- The current frame is fault-free so far: frame numbers have increased, and since the frame began
-- no fault that affects receivers was reported.
unfoldable pub stays_fault_free : List CheckStep → Bool
stays_fault_free [] = true
stays_fault_free (Begins f ∷ past) = not (list_any reports_order_fault past)
stays_fault_free (Emits e ∷ past) = stays_fault_free past && is_none (invalidated_by past e)
stays_fault_free (m ∷ past) = stays_fault_free past

-- No fault is active.
abbrev pub has_no_active_faults : ActiveFaults → Bool
has_no_active_faults s = not (list_any (λ rule. is_some (place_of_broken_rule rule s)) end_rules)

-- ---- runs of fault-free frames

-- The first frame of the current run of fault-free frames that has a header with which trusted
-- frames can begin; `None` if there is no such frame. Frames without a PES packet belong to the
-- run.
unfoldable pub run_of : List CheckStep → Option ℕ
run_of [] = None
run_of (Emits e ∷ past) = if is_none (invalidated_by past e) then run_of past else None
run_of (Ends f has_beginning none ∷ past) =
    if stays_fault_free past && none
    then option_or (run_of past) (if has_beginning then Some f else None)
    else None
run_of (Closes are_left more ∷ past) = None
run_of (m ∷ past) = run_of past

-- The frame f, if the page was finished at its end.
abbrev pub frame_if_finished : ℕ → Option ℕ → Option ℕ
frame_if_finished f first_unfinished = if is_none first_unfinished then Some f else None

-- The first frame of the current run, from its first header on, at whose end the page was finished.
-- Has no meaning without a current run.
unfoldable pub first_finished_of : List CheckStep → Option ℕ
first_finished_of [] = None
first_finished_of (AtEnd f first_unfinished late ∷ past) = option_or (first_finished_of past)
    (frame_if_finished f first_unfinished)
first_finished_of (Ends f has_beginning none ∷ past) =
    option_or (if is_none (run_of past) then None else first_finished_of past)
    (frame_if_finished f (first_unfinished_of past))
first_finished_of (m ∷ past) = first_finished_of past

-- ---- trusted frames, and when they are reported

-- The event for the trusted frames of a run that ends before frame f. `run` is the frame of the
-- run's first header, and `finished` is the first frame at whose end the page was finished. There
-- is no event if one of them is `None`, or if `finished` is not before f.
abbrev pub trusted : Option ℕ → Option ℕ → ℕ → List Event
trusted (Some from) (Some finished) f = if nat_lt finished f then Trusted from (f - 1) ∷ [] else []
trusted run finished f = []

-- The event for the trusted frames that end because frame f is no longer trusted. If there is a
-- frame of a `GoesBack` step, it excludes the frames from that frame on, which have an unfinished
-- page.
abbrev pub trusted_up_to : List CheckStep → Option ℕ → List Event
trusted_up_to past None = []
trusted_up_to past (Some f) = trusted (run_of past) (first_finished_of past)
    (unwrap_or (back_frame_of past) f)

-- The first frame that is not trusted at the end of the file: the first frame with the unfinished
-- page; otherwise, if unread bytes may belong to the last frame, the frame of the last `GoesBack`
-- step or, without such a frame, the last frame; otherwise the frame after the last.
abbrev pub first_untrusted_at_close : List CheckStep → Bool → ℕ
first_untrusted_at_close past left =
    unwrap_or (first_unfinished_of past)
    (if left then unwrap_or (back_frame_of past) (last_packet_frame past) else suc
    (last_packet_frame past))

-- The event; a `Reported` fault whose place is a PES packet gets the number `pes`, which counts
-- skipped packets too.
unfoldable pub with_pes_number : ℕ → Event → Event
with_pes_number pes (Reported refusal) = Reported (fault_with_pes_number pes refusal)
with_pes_number pes event = event

-- The list of events is empty.
abbrev pub reports_no_event : List Event → Bool
reports_no_event [] = true
reports_no_event (e ∷ es) = false

-- The events to report for a step: the trusted frames that end with this step, and then the event
-- of the step. At the end of the file, trusted frames are reported only if an event was reported or
-- `more` is true.
unfoldable pub events_reported_at_step : List CheckStep → CheckStep → List Event
events_reported_at_step past (Emits e) = trusted_up_to past (invalidated_by past e) ++
    with_pes_number (current_pes past)
    e ∷ []
events_reported_at_step past (Closes left more) =
    if list_any is_emitted past || more
    then trusted (run_of past) (first_finished_of past) (first_untrusted_at_close past left)
    else []
events_reported_at_step past m = []

-- The events to report for a list of steps that follow the steps in `past`.
unfoldable pub events_reported_after : List CheckStep → List CheckStep → List Event
events_reported_after past [] = []
events_reported_after past (m ∷ ms) = events_reported_at_step past m ++ events_reported_after
    (m ∷ past) ms
