-- All events of a transmission, in order (not defined by a standard). Each broken rule is an event
-- with its place. Some rules are checked at the end of each frame and may stay broken over several
-- frames; for these rules, the events give the first and the last frame at which the rule is
-- broken at the same place. The events are in the order of the checks, so the first fault is the
-- reason for rejecting the file.
--
-- A fault's beginning and end are separate events, because a wrong page stays on air until
-- something else is sent: a single event with both frames would be reported only then.
--
-- For each frame of the transmission, the checker first ends the frames without a PES packet before
-- it, then the frame itself. The end of a frame without a PES packet takes only the earlier PES
-- packets into account.
use Rattle.std.specs.Prelude.{ℕ, zero, suc, max, ◌+◌, ◌-◌, ◌&&◌, ◌==◌, Bool, true, false, not, List}
use Rattle.std.specs.Prelude.{[], ◌∷◌, ◌++◌, map, length, take, Option, Some, None, is_some}
use Rattle.std.specs.Prelude.{◌||◌, option_and_then, option_map, nat_le, nat_lt, if◌then◌else◌}
use Rattle.std.specs.Prelude.{flat_map, slice_index_or, unwrap_or}
use Rattle.std.specs.List.{list_any}
use Rattle.ttx_packet.specs.OneBit.{first_below}
use Rattle.ttx_packet.specs.PageId.{PageIdValue}
use Rattle.ttx_page.specs.Page.{Rows, cell, space}
use Rattle.ttx_page.specs.PacketKind.{kind}
use Rattle.ttx_page.specs.Shown.{kept}
use Rattle.ttx_page.specs.Span.{has_page_header, is_open_after}
use Rattle.sub_rules.specs.FrameRules.{Criteria, UnreadReason, end_frame, frame_at, packets_before}
use Rattle.sub_rules.specs.FrameRules.{packets_of_frame}
use Rattle.sub_rules.specs.FrameRules.UnreadReason.{BadPacket, NoFrame}
use Rattle.sub_rules.specs.Kept.{has_row}
use Rattle.sub_rules.specs.PacketTests.{broken_rules}
use Rattle.sub_rules.specs.Transmission.{SentFrame, Transmission}
use Rattle.sub_rules.specs.declared.end_rule.EndRule.{EndRule}
use Rattle.sub_rules.specs.declared.end_rule.EndRule.TheVariants as end
use Rattle.sub_rules.specs.declared.event.Event.{Event}
use Rattle.sub_rules.specs.declared.event.Event.TheVariants.{Ended, SkippedUntil, Reported, Trusted}
use Rattle.sub_rules.specs.declared.fault.CheckFault.{CheckFault}
use Rattle.sub_rules.specs.declared.fault.CheckFault.TheVariants as fault
use Rattle.sub_rules.specs.declared.packet_rule.PacketRule.{PacketRule}
use Rattle.sub_rules.specs.declared.packet_rule.PacketRule.TheVariants as rule
use Rattle.sub_rules.specs.declared.packet_rule.Watched.{Watched}
use Rattle.sub_rules.specs.declared.active_faults.ActiveFaults.{ActiveFaults}

-- ---- the active faults at the end of a frame

-- The rules checked at the end of a frame, in the order of reports.
unfoldable pub end_rules : List EndRule
end_rules = end.Content ∷ end.Gap ∷ end.Incomplete ∷ end.Undecided ∷ end.Silent ∷ []

-- The place of a broken rule that concerns the entire frame instead of one cell of the page: (0,
-- 0), which is no cell. `None` if the rule is not broken.
abbrev pub entire_frame_place : Bool → Option (ℕ × ℕ)
entire_frame_place true = Some (0, 0)
entire_frame_place false = None

-- The place at which a rule is broken, given the active faults; `None` if the rule is not broken.
abbrev pub place_of_broken_rule : EndRule → ActiveFaults → Option (ℕ × ℕ)
place_of_broken_rule end.Content s = s.content
place_of_broken_rule end.Gap s = entire_frame_place s.gap
place_of_broken_rule end.Incomplete s = entire_frame_place s.incomplete
place_of_broken_rule end.Undecided s = entire_frame_place s.undecided
place_of_broken_rule end.Silent s = entire_frame_place s.silent

-- The state in which no fault is active.
abbrev pub no_active_faults : ActiveFaults
no_active_faults = record {
  content = None;
  gap = false;
  incomplete = false;
  undecided = false;
  silent = false;
}

-- The first cell that passes a test, by row (1 to 24) and then by column (0 to 39). `None` if no
-- cell passes.
unfoldable pub first_cell : (ℕ → ℕ → Bool) → Option (ℕ × ℕ)
first_cell test =
    option_and_then
    (λ above. option_map (λ column. (above + 1, column)) (first_below 40 (test (above + 1))))
    (first_below 24 (λ above. is_some (first_below 40 (test (above + 1)))))

-- After these packets, the cell is right: `IsRight` as a test. A cell whose expected code is not a
-- space is wrong if its row was not sent since the last header of the page, while it was open.
abbrev pub is_right_cell : Bool → PageIdValue → List (List ℕ) → Rows → ℕ → ℕ → Bool
is_right_cell keeps page packets due row column =
    kept keeps page packets row column == cell due row column
    && (cell due row column == space || has_row page packets row)

-- The first cell that is not right after these packets; `None` if all cells are right.
unfoldable pub first_wrong_cell_after : Bool → PageIdValue → List (List ℕ) → Rows → Option (ℕ × ℕ)
first_wrong_cell_after keeps page packets due =
    first_cell (λ row column. not (is_right_cell keeps page packets due row column))

-- The first wrong cell at the end of frame f, after n frames of the transmission. `None` if no cell
-- is wrong, or if the expected page is unknown, since any code may then be in any cell.
abbrev pub wrong_cell : Criteria → Transmission → ℕ → ℕ → Option (ℕ × ℕ)
wrong_cell g frames n f =
    if g.undecided f
    then None
    else first_wrong_cell_after g.watched.keeps g.watched.page (packets_before frames n) (g.due f)

-- The frame s has a header of the page, and frame f comes before frame `s.frame + every`.
abbrev pub has_recent_header : Criteria → ℕ → SentFrame → Bool
has_recent_header g f s = has_page_header (kind g.watched.page) s.packets && nat_lt f
    (s.frame + g.every)

-- A header of the page is missing: none of the last `every` frames up to frame f, nor a later one,
-- has one, among the first n frames of the transmission. False until `every` frames, the first
-- included, have passed.
unfoldable pub is_gap : Criteria → Transmission → ℕ → ℕ → Bool
is_gap g frames n f =
    nat_le (frame_at frames 0 + g.every) (f + 1) && not (list_any (has_recent_header g f)
    (take n frames))

-- Complete pages are required, and the page is open after the first n frames of the transmission.
unfoldable pub is_incomplete : Criteria → Transmission → ℕ → Bool
is_incomplete g frames n =
    g.watched.complete && is_open_after (kind g.watched.page) (packets_before frames n)

-- ---- the delay after which the page must be correct

-- The page is unfinished at the end of frame f, after n frames of the transmission: the expected
-- page is known and a cell is wrong, or complete pages are required and the page is open.
abbrev pub is_unfinished : Criteria → Transmission → ℕ → ℕ → Bool
is_unfinished g frames n f = is_some (wrong_cell g frames n f) || is_incomplete g frames n

-- The greatest frame number among the first n frames of the transmission; 0 if n is 0.
unfoldable pub latest_frame : Transmission → ℕ → ℕ
latest_frame frames zero = 0
latest_frame frames (suc n) = max (latest_frame frames n) (frame_at frames n)

-- At least `pace` frames have passed between the frame `last` and the end of frame f. False if no
-- pace is required.
abbrev pub is_silent_for : Option ℕ → ℕ → ℕ → Bool
is_silent_for None last f = false
is_silent_for (Some pace) last f = nat_le (last + pace) f

-- The first n frames of the transmission have no PES packet in the last `pace` frames up to frame
-- f, nor later. False if no pace is required.
unfoldable pub is_silent : Criteria → Transmission → ℕ → ℕ → Bool
is_silent g frames zero f = is_some g.pace
is_silent g frames (suc n) f = is_silent_for g.pace (latest_frame frames (suc n)) f

-- The number of frames without a PES packet between the latest of the first i frames of the
-- transmission and frame i; 0 if i is 0, or if frame i is not later than these.
unfoldable pub gap_length : Transmission → ℕ → ℕ
gap_length frames zero = 0
gap_length frames (suc i) = frame_at frames (suc i) - (latest_frame frames (suc i) + 1)

-- The first frame of the current run of frames with an unfinished page, at the end of frame f;
-- `None` if the page is finished. `first_unfinished` is the value at the end of the frame before.
abbrev pub extended_unfinished_run : Option ℕ → Bool → ℕ → Option ℕ
extended_unfinished_run first_unfinished unfinished f = if unfinished then Some
    (unwrap_or first_unfinished
    f) else None

-- The first frame of the current run of frames with an unfinished page, after n frames of the
-- transmission and k more frames without a PES packet; `None` if the page is finished.
-- `first_unfinished` is the value before these k frames.
unfoldable pub first_unfinished_in_gap : Criteria → Transmission → ℕ → Option ℕ → ℕ → Option ℕ
first_unfinished_in_gap g frames n first_unfinished zero = first_unfinished
first_unfinished_in_gap g frames n first_unfinished (suc k) =
    let f = latest_frame frames n + suc k in
    extended_unfinished_run (first_unfinished_in_gap g frames n first_unfinished k)
    (is_unfinished g frames n f) f

-- The first frame of the current run of frames with an unfinished page, after the first n frames of
-- the transmission; `None` if the page is finished, or n is 0.
unfoldable pub first_unfinished_in_frames : Criteria → Transmission → ℕ → Option ℕ
first_unfinished_in_frames g frames zero = None
first_unfinished_in_frames g frames (suc i) =
    extended_unfinished_run
    (first_unfinished_in_gap g frames i (first_unfinished_in_frames g frames i)
    (gap_length frames i))
    (is_unfinished g frames (suc i) (frame_at frames i)) (frame_at frames i)

-- The first frame of the current run of frames with an unfinished page, at the end of frame f,
-- after n frames of the transmission; `None` if the page is finished at that end.
unfoldable pub unfinished_run_start : Criteria → Transmission → ℕ → ℕ → Option ℕ
unfinished_run_start g frames n f =
    first_unfinished_in_gap g frames n (first_unfinished_in_frames g frames n)
    (f - latest_frame frames n)

-- The first frame of the run of frames with an unfinished page, at the last frame end before frame
-- f ends, after n frames of the transmission; `None` if the page is finished there, or n is 0.
unfoldable pub first_unfinished_before : Criteria → Transmission → ℕ → ℕ → Option ℕ
first_unfinished_before g frames zero f = None
first_unfinished_before g frames (suc i) f = unfinished_run_start g frames (suc i) (f - 1)

-- A subtitle ends after this frame, and its page was unfinished in all its frames. `tci` is the
-- subtitle's first frame. A subtitle that began before the first frame of the transmission counts
-- too, if the page has been unfinished from the first frame on.
abbrev pub is_missed : Option ℕ → ℕ → ℕ → Bool
is_missed None first first_unfinished = false
is_missed (Some tci) first first_unfinished = nat_le first_unfinished tci ||
    (first_unfinished == first && nat_lt tci first)

-- The page is overdue at the end of frame f: it has been unfinished for more than `within` frames,
-- or a subtitle ends whose page was never finished. A finished page is not overdue.
abbrev pub is_overdue : Criteria → ℕ → Option ℕ → ℕ → Bool
is_overdue g first None f = false
is_overdue g first (Some first_unfinished) f =
    nat_le (first_unfinished + g.within) f || is_missed (g.ending (f + 1)) first first_unfinished

-- An unfinished page is a fault at the end of frame f, after n frames of the transmission. If
-- `within` is 0, it always is; otherwise only if the page is overdue.
unfoldable pub is_late : Criteria → Transmission → ℕ → ℕ → Bool
is_late g frames n f =
    g.within == 0 || is_overdue g (frame_at frames 0) (unfinished_run_start g frames n f) f

-- The code was expected in the cell at frame f or at one of the n frames before f, of which those
-- before `first` do not count.
unfoldable pub was_due : (ℕ → Rows) → ℕ → ℕ → ℕ → ℕ → ℕ → ℕ → Bool
was_due due first f zero row column code = cell (due f) row column == code
was_due due first f (suc n) row column code =
    was_due due first f n row column code
    || (nat_le (first + suc n) f && (cell (due (f - suc n)) row column == code))

-- The first cell whose code, after these packets, is neither a space nor expected in that cell at
-- frame f or at one of the n frames before f, of which those before `first` do not count. `None` if
-- there is no such cell.
unfoldable pub first_unexpected_cell_after :
    Bool → PageIdValue → List (List ℕ) → (ℕ → Rows) → ℕ → ℕ → ℕ → Option (ℕ × ℕ)
first_unexpected_cell_after keeps page packets due first f n =
    first_cell
    (λ row column.
    not (kept keeps page packets row column == space)
    && not (was_due due first f n row column (kept keeps page packets row column)))

-- The expected page is unknown at frame f or at one of the n frames before f, of which those before
-- `first` do not count.
unfoldable pub was_undecided : (ℕ → Bool) → ℕ → ℕ → ℕ → Bool
was_undecided undecided first f zero = undecided f
was_undecided undecided first f (suc n) =
    was_undecided undecided first f n || (nat_le (first + suc n) f && undecided (f - suc n))

-- The expected page is unknown at frame f or at one of the `within` frames before f, of which those
-- before the first frame of the transmission do not count.
abbrev pub is_undecided_within : Criteria → Transmission → ℕ → Bool
is_undecided_within g frames f = was_undecided g.undecided (frame_at frames 0) f g.within

-- The first cell with a code, other than a space, that was not expected at frame f or at one of the
-- `within` frames before f, after n frames of the transmission. `None` if there is no such cell, or
-- if the expected page is unknown at one of these frames. Of the frames before f, those before the
-- first frame of the transmission do not count.
abbrev pub unexpected_cell : Criteria → Transmission → ℕ → ℕ → Option (ℕ × ℕ)
unexpected_cell g frames n f =
    if is_undecided_within g frames f
    then None
    else
    first_unexpected_cell_after g.watched.keeps g.watched.page (packets_before frames n) g.due
    (frame_at frames 0)
    f g.within

-- The first cell with a fault at the end of frame f, after n frames of the transmission. If the
-- page is overdue or `within` is 0, the first wrong cell (`wrong_cell`); otherwise the first cell
-- with an unexpected code (`unexpected_cell`).
abbrev pub broken_cell : Criteria → Transmission → ℕ → ℕ → Option (ℕ × ℕ)
broken_cell g frames n f =
    if is_late g frames n f then wrong_cell g frames n f else unexpected_cell g frames n f

-- The active faults at the end of frame f, after n frames of the transmission.
unfoldable pub active_faults_at : Criteria → Transmission → ℕ → ℕ → ActiveFaults
active_faults_at g frames n f = record {
  content = broken_cell g frames n f;
  gap = is_gap g frames n f;
  incomplete = is_late g frames n f && is_incomplete g frames n;
  undecided = is_undecided_within g frames f;
  silent = is_silent g frames n f;
}

-- ---- events at the end of a frame

-- The fault for a rule that is broken at this place at the end of frame f.
abbrev pub end_rule_fault : EndRule → ℕ → ℕ × ℕ → CheckFault
end_rule_fault end.Content f cell = fault.Content f cell.0 cell.1
end_rule_fault end.Gap f cell = fault.Gap f
end_rule_fault end.Incomplete f cell = fault.Incomplete f
end_rule_fault end.Undecided f cell = fault.Undecided f
end_rule_fault end.Silent f cell = fault.Silent f

-- The events of one rule at the end of frame f. `old` is the place at which the rule was broken at
-- the previous end, of frame `before`; `new` is the place at the end of f.
abbrev pub rule_events : EndRule → Option (ℕ × ℕ) → ℕ → Option (ℕ × ℕ) → ℕ → List Event
rule_events rule None before None f = []
rule_events rule None before (Some new) f = Reported (end_rule_fault rule f new) ∷ []
rule_events rule (Some old) before None f = Ended rule before ∷ []
rule_events rule (Some old) before (Some new) f =
    if (old.0 == new.0) && (old.1 == new.1)
    then []
    else Ended rule before ∷ Reported (end_rule_fault rule f new) ∷ []

-- The events of all rules at the end of frame f. `old` are the active faults at the previous end,
-- of frame `before`; `new` are the active faults at the end of f.
unfoldable pub end_events : ActiveFaults → ℕ → ActiveFaults → ℕ → List Event
end_events old before new f =
    flat_map (λ rule. rule_events rule (place_of_broken_rule rule old) before
    (place_of_broken_rule rule new) f) end_rules

-- ---- the order of frame ends

-- The frame that ends before frame f, after i frames of the transmission: the day's frame before f,
-- if it comes after all of these i frames; otherwise the last of them. Has no meaning if i is 0.
abbrev pub previous_end_frame : Transmission → ℕ → ℕ → ℕ
previous_end_frame frames i f =
    if nat_lt (latest_frame frames i + 1) f then f - 1 else frame_at frames (i - 1)

-- The active faults at the last frame end before frame f ends; none before the first end.
unfoldable pub active_faults_before : Criteria → Transmission → ℕ → ℕ → ActiveFaults
active_faults_before g frames zero f = no_active_faults
active_faults_before g frames (suc i) f = active_faults_at g frames (suc i)
    (previous_end_frame frames (suc i) f)

-- The events at the end of frame f. By this end, n frames of the transmission were sent; by the
-- previous end, i frames.
abbrev pub events_at_end : Criteria → Transmission → ℕ → ℕ → ℕ → List Event
events_at_end g frames i n f =
    end_events (active_faults_before g frames i f) (previous_end_frame frames i f)
    (active_faults_at g frames n f) f

-- ---- events for a PES packet

-- The first subtitle begins before this frame.
abbrev pub is_early : Option ℕ → ℕ → Bool
is_early None frame = false
is_early (Some first_tci) frame = nat_lt first_tci frame

-- The events for the frame number of frame i of the transmission: the first frame must not be after
-- the first TCI, and each later frame must be after the one before it.
unfoldable pub order_events : Criteria → Transmission → ℕ → List Event
order_events g frames zero =
    if is_early g.first_tci (frame_at frames 0)
    then Reported (fault.Early (frame_at frames 0)) ∷ []
    else []
order_events g frames (suc i) =
    if nat_lt (frame_at frames i) (frame_at frames (suc i))
    then []
    else Reported (fault.Order (suc i)) ∷ []

-- The fault for packet number `packet` of a frame, which breaks the rule.
abbrev pub packet_fault : PacketRule → ℕ → ℕ → CheckFault
packet_fault rule.Address frame packet = fault.Address frame packet
packet_fault rule.HeaderCode frame packet = fault.HeaderCode frame packet
packet_fault rule.Mode frame packet = fault.Mode frame packet
packet_fault rule.Control frame packet = fault.Control frame packet
packet_fault rule.Parity frame packet = fault.Parity frame packet
packet_fault rule.RowChanged frame packet = fault.RowChanged frame packet
packet_fault rule.Enhancement frame packet = fault.Enhancement frame packet

-- The events for packet k of a frame, sent after the packets `before`: one event for each rule that
-- the packet breaks.
unfoldable pub broken_rule_events : Watched → ℕ → ℕ → List (List ℕ) → List ℕ → List Event
broken_rule_events w frame k before p =
    map (λ (r : PacketRule). Reported (packet_fault r frame k)) (broken_rules w before p)

-- The events for the first n of `packets`, which are packets of one frame, numbered from `from`.
-- The packets `before` were sent earlier.
unfoldable pub numbered_packet_events : Watched → ℕ → ℕ → List (List ℕ) → List (List ℕ) → ℕ → List
    Event
numbered_packet_events w frame from before packets zero = []
numbered_packet_events w frame from before packets (suc n) =
    numbered_packet_events w frame from before packets n
    ++ broken_rule_events w frame (from + n) (before ++ take n packets) (slice_index_or packets n
    [])

-- The events for the first n packets of a frame, numbered from 0. The packets `before` were sent
-- earlier.
abbrev pub packet_events : Watched → ℕ → List (List ℕ) → List (List ℕ) → ℕ → List Event
packet_events w frame before packets n = numbered_packet_events w frame 0 before packets n

-- The event `NoFirstHeader`, if frame i of the transmission is the first frame and has no header of
-- the page.
unfoldable pub first_header_events : Criteria → Transmission → ℕ → List Event
first_header_events g frames zero =
    if has_page_header (kind g.watched.page) (packets_of_frame frames 0)
    then []
    else Reported (fault.NoFirstHeader (frame_at frames 0)) ∷ []
first_header_events g frames (suc i) = []

-- ---- events of the entire transmission

-- The events that end each active fault at the end of the file.
abbrev pub fault_ending_events : ActiveFaults → ℕ → List Event
fault_ending_events last frame = end_events last frame no_active_faults frame

-- The fault of PES packet number `pes`, which is skipped or begins the rest that cannot be read.
-- Without a reason it is `Empty`, the fault of a file without PES packets.
abbrev pub unread_fault : ℕ → Option UnreadReason → CheckFault
unread_fault pes (Some (BadPacket f)) = fault.Pes pes f
unread_fault pes (Some NoFrame) = fault.OffFrame pes
unread_fault pes None = fault.Empty

-- The last TCO is after this frame, the last one of the transmission.
abbrev pub ends_too_early : Option ℕ → ℕ → Bool
ends_too_early None frame = false
ends_too_early (Some last_tco) frame = nat_lt frame last_tco

-- The page is unfinished at the last end, but still had time to become correct in a frame that the
-- file does not have.
unfoldable pub is_pending : Criteria → Transmission → Bool
is_pending g frames =
    let n = length frames in
    is_some (unfinished_run_start g frames n (end_frame frames))
    && not (is_late g frames n (end_frame frames))

-- The event `Late`, if the last TCO is after the last frame, or if the page is unfinished at the
-- end of that frame but not yet overdue.
abbrev pub late_events : Criteria → Transmission → List Event
late_events g frames =
    if ends_too_early g.last_tco (end_frame frames) || is_pending g frames
    then Reported (fault.Late (end_frame frames)) ∷ []
    else []

-- The event for the rest of the file that could not be read, for the reason `unread`; without a
-- reason, the event `Late`, if it applies (`late_events`).
abbrev pub unread_or_late_events : Criteria → Transmission → Option UnreadReason → List Event
unread_or_late_events g frames (Some unread) = Reported (unread_fault (length frames) (Some unread))
    ∷ []
unread_or_late_events g frames None = late_events g frames

-- All events at the end of the file. If there are no frames, the only event says why.
unfoldable pub closing_events : Criteria → Transmission → ℕ → List Event
closing_events g frames zero = Reported (unread_fault 0 g.unread) ∷ []
closing_events g frames (suc n) =
    fault_ending_events (active_faults_at g frames (suc n) (end_frame frames)) (end_frame frames)
    ++ unread_or_late_events g frames g.unread

-- The first fault among the events; `None` if no event is a fault.
abbrev pub first_reported_fault : List Event → Option CheckFault
first_reported_fault [] = None
first_reported_fault (Reported f ∷ more) = Some f
first_reported_fault (Ended rule frame ∷ more) = first_reported_fault more
first_reported_fault (Trusted from to ∷ more) = first_reported_fault more
first_reported_fault (SkippedUntil f ∷ more) = first_reported_fault more
