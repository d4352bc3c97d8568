-- The state of the checker.
use Rattle.std.specs.Prelude.{◌≡◌, ℕ, ◌+◌, ◌-◌, ◌*◌, ◌<◌, ◌≤◌, ◌&&◌, ◌||◌, ◌==◌, List, [], ◌∷◌}
use Rattle.std.specs.Prelude.{◌++◌}
use Rattle.std.specs.Prelude.{Option, Some, None, max, map, nat_le, nat_lt, is_some, not}
use Rattle.std.specs.Prelude.{Bool, false, true, if◌then◌else◌}
use Rattle.stl_file.specs.TimeCode.{day}
use Rattle.stl_rows.specs.Programme.{ProgrammeValue}
use Rattle.ttx_pes.specs.DataUnit.{UnitValue}
use Rattle.sub_rules.specs.Events.{end_events, is_missed, no_active_faults, is_silent_for}
use Rattle.sub_rules.specs.Events.{extended_unfinished_run, was_undecided}
use Rattle.stl_rows.specs.DuePage.{ReportsNextEdge, tci_of_subtitle_ending_at}
use Rattle.stl_rows.specs.Judged.{JudgedValue, has_unreliable_subtitle}
use Rattle.sub_rules.specs.FrameRules.{is_due_undecided}
use Rattle.sub_rules.specs.PacketRules.{header_count, packets_of_units}
use Rattle.sub_rules.specs.Transmission.{SentFrame}
use Rattle.sub_rules.specs.Trusted.{CheckStep}
use Rattle.sub_rules.specs.Trusted.CheckStep.{AtEnd, GoesBack, Emits}
use Rattle.sub_rules.specs.declared.valid_pes_packet.ValidPesPacket.{ValidPesPacket}
use Rattle.sub_rules.specs.declared.active_faults.ActiveFaults.{ActiveFaults}
use Rattle.sub_packets.specs.StoredPage.{is_kept_page_incomplete, first_unexpected_kept_cell}
use Rattle.sub_packets.specs.StoredPage.{first_wrong_kept_cell}
use Rattle.sub_packets.specs.Listener.{KnowsLast, frame_has_text_beginning}
use Rattle.sub_packets.specs.declared.listener.Listener.{Listener}
use Rattle.sub_checker.specs.declared.counts.Counts.{Counts}
use Rattle.sub_plan.specs.Schedule.{due_page_in}

-- ---- counts of PES packets and headers

-- The counts before the first PES packet.
abbrev pub no_counts : Counts
no_counts =
    record { frames = 0; headers = 0; headers_before = 0; packets = 0; is_open = false }

-- The counts with `headers` more headers of the page.
abbrev pub with_headers : ℕ → Counts → Counts
with_headers headers n = record n { headers = n.headers + headers }

-- The counts if the last frame has not ended yet. It has `headers` headers of the page and
-- `packets` packets so far.
abbrev pub with_open_frame : ℕ → ℕ → Counts → Counts
with_open_frame headers packets n =
    record n { headers_before = n.headers - headers; packets = packets; is_open = true }

-- The counts are bounded for `pes` PES packets: at most one frame, 255 headers and 255 Teletext
-- packets for each of them.
pub record AreCountsBounded (pes : ℕ) (n : Counts) : Type 0 where
  pub frames : n.frames ≤ pes
  pub headers : n.headers ≤ 255 * pes
  pub packets : n.packets ≤ 255 * pes

-- The frame of a valid PES packet with these data units.
abbrev pub sent_frame_of : ValidPesPacket → List UnitValue → SentFrame
sent_frame_of sending units = record { frame = sending.frame; packets = packets_of_units units }

-- ---- the state of the checker

-- The state of the checker:
--
--   programme         the reliable subtitles
--   judging           also says where unreliable subtitles were: before, between or after them
--   any_unreliable    whether the file has unreliable subtitles
--   every             the repeat bound: the most frames from one header of the page to the next
--   within            the number of frames within which the page must become correct
--   pace              the longest interval between PES packets in frames, if it is limited
--   listener          the page that the packets show, and the expected page of `frame`
--   first             the frame of the first PES packet that was not skipped
--   latest_frame      the greatest frame number so far
--   frame             the current frame
--   last              the frame that was ended last
--   active_faults     the faults that were active at its end
--   first_unfinished  the first frame of the current run of frames with an unfinished page; `None`
--                     if there is no such run, and always if `within` is 0
--   repeat_deadline   the frame after the first at whose end the repeat bound is exceeded if no
--                     header of the page follows
--   counts            the counts of frames and headers of the page so far, and of packets of the
--                     last frame while it is open
pub record CheckerValue : Type 0 where
  pub programme : ProgrammeValue
  pub judging : JudgedValue
  pub any_unreliable : Bool
  pub every : ℕ
  pub within : ℕ
  pub pace : Option ℕ
  pub listener : Listener
  pub first : ℕ
  pub latest_frame : ℕ
  pub frame : ℕ
  pub last : ℕ
  pub active_faults : ActiveFaults
  pub first_unfinished : Option ℕ
  pub repeat_deadline : ℕ
  pub counts : Counts

-- The state of the checker after a move to frame f, with the expected page of f.
abbrev pub at_frame : ℕ → CheckerValue → CheckerValue
at_frame f c = record c {
  frame = f;
  listener = record c.listener {
    comparison = record c.listener.comparison { due = due_page_in c.programme f };
  };
}

-- The state of the checker after a move to f, the frame of the first PES packet that is not
-- skipped.
abbrev pub checker_at_first : ℕ → CheckerValue → CheckerValue
checker_at_first f c = record (at_frame f c) {
  first = f;
  latest_frame = f;
  repeat_deadline = f +
      c.every;
}

-- The state of the checker after a move to f, the frame of a later PES packet.
abbrev pub checker_at_next : ℕ → CheckerValue → CheckerValue
checker_at_next f c = record (at_frame f c) { latest_frame = max c.latest_frame f }

-- The frame comes before the next cue, or there is no next cue.
abbrev pub is_before : ℕ → Option ℕ → Bool
is_before frame None = true
is_before frame (Some edge) = nat_lt frame edge

-- The frame after the first at whose end the repeat bound is exceeded if no header of the page
-- follows. `found` says whether headers of the page were received in this frame; `before` is the
-- value before them.
abbrev pub next_repeat_deadline : Bool → ℕ → ℕ → ℕ → ℕ
next_repeat_deadline found frame every before = if found then max before (frame + every + 1)
    else before

-- The state of the checker after `headers` more headers of the page in the current frame.
abbrev pub checker_after_headers : ℕ → CheckerValue → CheckerValue
checker_after_headers headers c = record c {
  counts = with_headers headers c.counts;
  repeat_deadline = next_repeat_deadline (nat_lt 0 headers) c.frame c.every c.repeat_deadline;
}

-- The listener has received `packets`, which follow the packets `heard`. The first of them is
-- number `from` of its frame.
pub record HasHeard
    (from : ℕ) (heard packets : List (List ℕ)) (old new : CheckerValue)
    : Type 0 where
  pub listener : Listener
  pub headers : ℕ
  pub new_eq : new ≡ checker_after_headers headers (record old { listener = listener })
  pub watched : listener.watched ≡ old.listener.watched
  pub due : listener.comparison.due ≡ old.listener.comparison.due
  pub knows : KnowsLast (heard ++ packets) packets listener
  pub count : headers ≡ header_count old.listener.watched.page packets
  pub begins :
      listener.begun ≡ frame_has_text_beginning old.listener.watched from old.listener.begun packets

-- ---- the end of the current frame

-- The page is overdue at the end of frame f. `first_unfinished` is the first frame of the current
-- run of frames with an unfinished page.
abbrev pub is_overdue_at : ProgrammeValue → ℕ → ℕ → Option ℕ → ℕ → Bool
is_overdue_at programme within first None f = false
is_overdue_at programme within first (Some first_unfinished) f =
    nat_le (first_unfinished + within) f || is_missed (tci_of_subtitle_ending_at programme.records
    (f + 1))
    first first_unfinished

-- The expected page of `frame` is unknown, because of an unreliable subtitle.
abbrev pub is_due_page_undecided : CheckerValue → ℕ → Bool
is_due_page_undecided c frame = is_due_undecided c.judging frame

-- The first wrong cell; `None` if no cell is wrong, or if the expected page is unknown.
abbrev pub current_wrong_cell : CheckerValue → Option (ℕ × ℕ)
current_wrong_cell c = if is_due_page_undecided c c.frame then None else first_wrong_kept_cell
    c.listener

-- The expected page is unknown at the current frame or at one of the `within` frames before it, of
-- which those before the first frame do not count.
abbrev pub is_currently_undecided : CheckerValue → Bool
is_currently_undecided c = was_undecided (is_due_page_undecided c) c.first c.frame c.within

-- The first cell with a code, other than a space, that was not expected at the current frame or at
-- one of the `within` frames before it, of which those before the first frame do not count. `None`
-- if there is no such cell, or if one of these expected pages is unknown.
abbrev pub current_unexpected_cell : CheckerValue → Option (ℕ × ℕ)
current_unexpected_cell c =
    if is_currently_undecided c
    then None
    else first_unexpected_kept_cell c.listener (due_page_in c.programme) c.first c.frame c.within

-- The page is unfinished at the end of the current frame: the expected page is known and a cell is
-- wrong, or complete pages are required and the page is open.
abbrev pub is_currently_unfinished : CheckerValue → Bool
is_currently_unfinished c = is_some (current_wrong_cell c) || is_kept_page_incomplete c.listener

-- The first frame of the current run of frames with an unfinished page, or the current frame if
-- `within` is 0; `None` if the page is finished at its end.
abbrev pub current_run_start : CheckerValue → Option ℕ
current_run_start c = extended_unfinished_run c.first_unfinished (is_currently_unfinished c) c.frame

-- The page must be correct by now: `within` is 0, or the page is overdue.
abbrev pub must_be_correct_now : CheckerValue → Bool
must_be_correct_now c = c.within == 0 || is_overdue_at c.programme c.within c.first
    (current_run_start c)
    c.frame

-- The faults that are active at the end of the current frame.
abbrev pub active_faults_of : CheckerValue → ActiveFaults
active_faults_of c = record {
  content = if must_be_correct_now c then current_wrong_cell c else current_unexpected_cell c;
  gap = nat_le c.repeat_deadline (c.frame + 1);
  incomplete = must_be_correct_now c && is_kept_page_incomplete c.listener;
  undecided = is_currently_undecided c;
  silent = is_silent_for c.pace c.latest_frame c.frame;
}

-- The checker needs a `GoesBack` step: the file has unreliable subtitles, and `within` is not 0.
abbrev pub needs_back_step : CheckerValue → Bool
needs_back_step c = c.any_unreliable && not (c.within == 0)

-- The `GoesBack` step, if the checker needs one.
abbrev pub back_steps : CheckerValue → List CheckStep
back_steps c = if needs_back_step c then GoesBack c.first_unfinished ∷ [] else []

-- The steps at the end of the current frame.
abbrev pub end_steps : CheckerValue → List CheckStep
end_steps c =
    back_steps c
    ++ (if c.within == 0 then [] else AtEnd c.frame (current_run_start c) (must_be_correct_now c) ∷
    [])
    ++ map Emits (end_events c.active_faults c.last (active_faults_of c) c.frame)

-- The state of the checker after the end of the current frame.
abbrev pub checker_after_end : CheckerValue → CheckerValue
checker_after_end c = record c {
  active_faults = active_faults_of c;
  last = c.frame;
  first_unfinished = if c.within == 0 then c.first_unfinished else current_run_start c;
}

-- No fault is active at the end of the current frame, where the page is finished, and none was
-- active at the end before.
pub record IsFaultFreeEnd (c : CheckerValue) : Type 0 where
  pub no_faults_before : c.active_faults ≡ no_active_faults
  pub no_faults_now : active_faults_of c ≡ no_active_faults
  pub first_unfinished : current_run_start c ≡ None

-- The page was unfinished at the last end but may still become finished: `within` is not 0, and the
-- page is not overdue.
abbrev pub is_currently_pending : CheckerValue → Bool
is_currently_pending c =
    not (c.within == 0)
    && is_some c.first_unfinished
    && not (is_overdue_at c.programme c.within c.first c.first_unfinished c.last)

-- ---- the invariant of the checker

-- For each frame of the day from `frame` on that comes before the next cue, the expected page is
-- unknown at that frame or at one of the `within` frames before it exactly if that frame comes
-- before `first_known_from`. Of the `within` frames before it, those before `first` do not count.
abbrev pub IsKnownFrom : (ℕ → Bool) → ℕ → ℕ → ℕ → Option ℕ → ℕ → Type 0
IsKnownFrom undecided first within frame edge first_known_from =
    (f : ℕ)
    → frame ≤ f
    → f < day
    → is_before f edge ≡ true
    → nat_lt f first_known_from ≡ was_undecided undecided first f within

-- The subtitles and `any_unreliable` agree with `judging` and, from `frame` up to the next cue, so
-- does `first_known_from`.
pub record IsJudged
    (judging : JudgedValue) (programme : ProgrammeValue) (any_unreliable : Bool)
    (first within frame : ℕ) (edge : Option ℕ) (first_known_from : ℕ)
    : Type 0 where
  pub programme_eq : programme ≡ judging.programme
  pub any_unreliable_eq : any_unreliable ≡ has_unreliable_subtitle judging
  pub known_from_is_exact : IsKnownFrom (is_due_undecided judging) first within frame edge
      first_known_from

-- The expected page and the next cue are those of `frame`, and no frame number can overflow.
pub record IsAtFrame
    (programme : ProgrammeValue) (every : ℕ) (listener : Listener) (first latest_frame last frame :
    ℕ)
    (edge : Option ℕ)
    : Type 0 where
  pub due_eq : listener.comparison.due ≡ due_page_in programme frame
  pub next_edge_is_exact : ReportsNextEdge programme.records frame edge
  pub first_is_before_latest : first ≤ latest_frame
  pub in_day : latest_frame < day
  pub last_in_day : last < day
  pub frame_in_day : frame < day
  pub bound : every ≤ day
