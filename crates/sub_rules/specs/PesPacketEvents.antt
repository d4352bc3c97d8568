-- The events of a PES file if reading continues after skipped PES packets (not defined by a
-- standard): the events of the transmission, and the fault of each skipped packet. For consecutive
-- skipped packets with the same fault, only the first and the last are reported.
--
-- A checker cannot look ahead, so its steps for a PES packet do not depend on later PES packets.
-- If `within` is not 0, PES packets of one frame are merged if at most skipped packets come between
-- them, so a frame ends only when a PES packet of another frame comes, or the file ends.
use Rattle.std.specs.Prelude.{ℕ, zero, suc, ◌+◌, ◌-◌, ◌&&◌, ◌||◌, ◌==◌, ◌≡◌, Bool, false, not}
use Rattle.std.specs.Prelude.{List, []}
use Rattle.std.specs.Prelude.{◌∷◌, ◌++◌, length, map, Option, Some, None, is_some, if◌then◌else◌}
use Rattle.ttx_page.specs.PacketKind.{kind}
use Rattle.ttx_page.specs.Span.{has_text_beginning}
use Rattle.sub_rules.specs.Events.{closing_events, events_at_end, first_header_events}
use Rattle.sub_rules.specs.Events.{first_reported_fault, gap_length, is_late, latest_frame}
use Rattle.sub_rules.specs.Events.{order_events}
use Rattle.sub_rules.specs.Events.{packet_events, numbered_packet_events, first_unfinished_before}
use Rattle.sub_rules.specs.Events.{active_faults_at}
use Rattle.sub_rules.specs.Events.{unfinished_run_start, unread_fault}
use Rattle.sub_rules.specs.Fault.{code_of_check_fault, fault_row, place_of_fault}
use Rattle.sub_rules.specs.FrameRules.{Criteria, UnreadReason, end_frame, frame_at, packets_before}
use Rattle.sub_rules.specs.FrameRules.{packets_of_frame}
use Rattle.sub_rules.specs.PesPackets.{PesPacket, frames_of, continues_with, joined}
use Rattle.sub_rules.specs.PesPackets.{read_until_skipped}
use Rattle.sub_rules.specs.PesPackets.{sent_after}
use Rattle.sub_rules.specs.PesPackets.PesPacket.{Skipped, Sent}
use Rattle.sub_rules.specs.Transmission.{SentFrame, Transmission}
use Rattle.sub_rules.specs.Trusted.{CheckStep, has_no_active_faults, reports_no_event}
use Rattle.sub_rules.specs.Trusted.{events_reported_after}
use Rattle.sub_rules.specs.Trusted.CheckStep.{AtEnd, AtPes, Begins, Closes, Ends, GoesBack, Emits}
use Rattle.sub_rules.specs.declared.event.Event.{Event}
use Rattle.sub_rules.specs.declared.event.Event.TheVariants.{SkippedUntil, Reported}
use Rattle.sub_rules.specs.declared.fault.CheckFault.{CheckFault}
use Rattle.sub_rules.specs.declared.fault_place.FaultPlace.{FaultPlace}
use Rattle.sub_rules.specs.declared.fault_place.FaultPlace.TheVariants as place

-- ---- frame ends

-- The checker needs `GoesBack` steps: the file has unreliable subtitles, and `within` is not 0.
abbrev pub needs_back_steps : Criteria → Bool
needs_back_steps g = g.any_unreliable && not (g.within == 0)

-- A `GoesBack` step with the first frame of the unfinished run, if the checker needs such steps.
abbrev pub steps_before : Criteria → Option ℕ → List CheckStep
steps_before g first_unfinished = if needs_back_steps g then GoesBack first_unfinished ∷ [] else []

-- The steps at the end of frame f: a `GoesBack` step, if the checker needs one; if `within` is not
-- 0, an `AtEnd` step with the first frame of the unfinished run, and whether the page is overdue;
-- and the events. By this end, n frames of the transmission were sent; by the previous end, i
-- frames.
abbrev pub steps_at_end : Criteria → Transmission → ℕ → ℕ → ℕ → List CheckStep
steps_at_end g frames i n f =
    steps_before g (first_unfinished_before g frames i f)
    ++ (if g.within == 0
    then []
    else AtEnd f (unfinished_run_start g frames n f) (is_late g frames n f) ∷ [])
    ++ map Emits (events_at_end g frames i n f)

-- The steps at the ends of n frames without a PES packet, after i frames of the transmission.
unfoldable pub steps_of_gap : Criteria → Transmission → ℕ → ℕ → List CheckStep
steps_of_gap g frames i zero = []
steps_of_gap g frames i (suc n) =
    steps_of_gap g frames i n ++ steps_at_end g frames i i (latest_frame frames i + suc n)

-- ---- steps for one PES packet

-- The steps before the packets of frame i of the transmission: the check of its frame number, the
-- ends of the frames without a PES packet before it, the beginning of the frame, and a `GoesBack`
-- step if the checker needs one.
abbrev pub steps_of_arrival : Criteria → Transmission → ℕ → List CheckStep
steps_of_arrival g frames i =
    map Emits (order_events g frames i)
    ++ steps_of_gap g frames i (gap_length frames i)
    ++ Begins (frame_at frames i)
    ∷ steps_before g (first_unfinished_before g frames i (frame_at frames i))

-- The steps for the packets of frame i of the transmission.
abbrev pub steps_of_packets : Criteria → Transmission → ℕ → List CheckStep
steps_of_packets g frames i =
    map Emits
    (packet_events g.watched (frame_at frames i) (packets_before frames i)
    (packets_of_frame frames i) (length (packets_of_frame frames i)))

-- The steps at the end of frame i of the transmission.
abbrev pub steps_of_ending : Criteria → Transmission → ℕ → List CheckStep
steps_of_ending g frames i =
    map Emits (first_header_events g frames i)
    ++ steps_at_end g frames i (suc i) (frame_at frames i)
    ++ Ends (frame_at frames i)
    (has_text_beginning g.watched.keeps (kind g.watched.page) (packets_of_frame frames i))
    (has_no_active_faults (active_faults_at g frames (suc i) (frame_at frames i))) ∷ []

-- The steps at the end of the last frame, if there is a frame. If `within` is 0, there are none,
-- since the frame has already ended.
unfoldable pub steps_of_pending_end : Criteria → Transmission → List CheckStep
steps_of_pending_end g [] = []
steps_of_pending_end g (s ∷ sent) =
    if g.within == 0 then [] else steps_of_ending g (s ∷ sent) (length sent)

-- The steps for a PES packet that has more Teletext packets of the last frame.
abbrev pub steps_of_more : Criteria → Transmission → List (List ℕ) → List CheckStep
steps_of_more g sent packets =
    map Emits
    (numbered_packet_events g.watched (end_frame sent)
    (length (packets_of_frame sent (length sent - 1)))
    (packets_before sent (length sent)) packets (length packets))

-- The steps for a PES packet of a new frame s, after the frames `sent`.
abbrev pub steps_of_next : Criteria → Transmission → SentFrame → List CheckStep
steps_of_next g sent s =
    let frames = sent ++ s ∷ [] in
    let i = length sent in
    steps_of_arrival g frames i
    ++ steps_of_packets g frames i
    ++ (if g.within == 0 then steps_of_ending g frames i else [])

-- The steps for a PES packet of frame s, after the frames `sent`.
unfoldable pub steps_of_sent : Criteria → Transmission → ℕ → SentFrame → List CheckStep
steps_of_sent g sent pes s =
    if continues_with g.within sent s
    then AtPes pes ∷ steps_of_more g sent s.packets
    else steps_of_pending_end g sent ++ AtPes pes ∷ steps_of_next g sent s

-- The steps for PES packets, the first with number `pes`, after the frames `sent`. The fault of a
-- skipped packet affects the frame before it, since the packet may carry anything.
unfoldable pub steps_of_each : Criteria → Transmission → ℕ → List PesPacket → List CheckStep
steps_of_each g sent pes [] = []
steps_of_each g sent pes (Sent s ∷ pes_packets) =
    steps_of_sent g sent pes s
    ++ steps_of_each g (sent_after g.within sent s) (suc pes) pes_packets
steps_of_each g sent pes (Skipped u ∷ pes_packets) =
    AtPes pes ∷ Emits (Reported (unread_fault pes (Some u)))
    ∷ steps_of_each g sent (suc pes) pes_packets

-- The events at the end of a file that has PES packets but no frames: the reason why the rest of
-- the file cannot be read, if it cannot.
abbrev pub unread_fault_events : ℕ → Option UnreadReason → List Event
unread_fault_events pes None = []
unread_fault_events pes (Some u) = Reported (unread_fault pes (Some u)) ∷ []

-- The events at the end of a file with `pes` PES packets and n frames, after its last frame ended.
unfoldable pub closing_events_of_pes_packets : Criteria → Transmission → ℕ → ℕ → List Event
closing_events_of_pes_packets g frames (suc pes) zero = unread_fault_events (suc pes) g.unread
closing_events_of_pes_packets g frames pes n = closing_events g frames n

-- The steps at the end of a file with `pes` PES packets and n frames, after its last frame ended.
abbrev pub steps_of_closing : Criteria → Transmission → ℕ → ℕ → List CheckStep
steps_of_closing g frames pes n =
    AtPes pes
    ∷ Closes (is_some g.unread)
    (g.any_unreliable || not (reports_no_event (closing_events_of_pes_packets g frames pes n)))
    ∷ map Emits (closing_events_of_pes_packets g frames pes n)

-- The frames that the PES packets carry. If `within` is not 0, PES packets of one frame are merged
-- if at most skipped packets come between them.
abbrev pub sent_by_pes_packets : Criteria → List PesPacket → Transmission
sent_by_pes_packets g pes_packets = joined g.within (frames_of pes_packets)

-- The steps for all PES packets of a file, and for its end.
abbrev pub steps_of_pes_packets : Criteria → List PesPacket → List CheckStep
steps_of_pes_packets g pes_packets =
    let frames = sent_by_pes_packets g pes_packets in
    steps_of_each g [] 0 pes_packets
    ++ steps_of_pending_end g frames
    ++ steps_of_closing g frames (length pes_packets) (length frames)

-- ---- consecutive skipped PES packets

-- The second place is the PES packet right after the first place.
abbrev pub is_after : FaultPlace → FaultPlace → Bool
is_after (place.Pes last) (place.Pes pes) = pes == suc last
is_after _ _ = false

-- The fault `refusal` continues a run of skipped packets: its packet is skipped and comes right
-- after the packet of the fault `last`, and both faults have the same number.
unfoldable pub continues : CheckFault → CheckFault → Bool
continues last refusal =
    (fault_row refusal).is_skipped
    && is_after (place_of_fault last) (place_of_fault refusal)
    && ((code_of_check_fault refusal).number == (code_of_check_fault last).number)

-- A run of consecutive skipped packets with the same fault: the fault of the last packet, and
-- whether the run has several packets.
pub record SkippedRun : Type 0 where
  pub last : Option CheckFault
  pub many : Bool

-- The state without a run: before the first event, or after an event that is not the fault of a
-- skipped packet.
abbrev pub no_run : SkippedRun
no_run = record { last = None; many = false }

-- The fault continues the run that ends with `last`; false if there is no run.
abbrev pub continues_after : Option CheckFault → CheckFault → Bool
continues_after None refusal = false
continues_after (Some last) refusal = continues last refusal

-- The event continues the run of skipped packets.
unfoldable pub continues_skipped_run : SkippedRun → Event → Bool
continues_skipped_run run (Reported refusal) = continues_after run.last refusal
continues_skipped_run run event = false

-- The run after this fault; no run if the packet of the fault is not skipped.
abbrev pub run_of_fault : CheckFault → Bool → SkippedRun
run_of_fault refusal many = record {
  last = if (fault_row refusal).is_skipped then Some refusal else None;
  many = many;
}

-- The run of skipped packets after an event.
unfoldable pub skipped_run_after : SkippedRun → Event → SkippedRun
skipped_run_after run (Reported refusal) = run_of_fault refusal (continues_after run.last refusal)
skipped_run_after run event = no_run

-- The event that reports the last packet of a run.
abbrev pub until : Option CheckFault → List Event
until None = []
until (Some refusal) = SkippedUntil refusal ∷ []

-- The event at the end of a run with several packets; none for a single packet.
abbrev pub run_ending_events : SkippedRun → List Event
run_ending_events run = if run.many then until run.last else []

-- The events to report when an event follows a run: none if it continues the run, otherwise the
-- event, after the event at the run's end if the run has several packets.
unfoldable pub announced : SkippedRun → Event → List Event
announced run event = if continues_skipped_run run event then [] else run_ending_events run ++ event
    ∷ []

-- The events to report for a list of events that follow a run.
unfoldable pub announced_events : SkippedRun → List Event → List Event
announced_events run [] = []
announced_events run (e ∷ es) = announced run e ++ announced_events (skipped_run_after run e) es

-- The run of skipped packets after a list of events.
unfoldable pub skipped_run_after_events : SkippedRun → List Event → SkippedRun
skipped_run_after_events run [] = run
skipped_run_after_events run (e ∷ es) = skipped_run_after_events (skipped_run_after run e) es

-- ---- all events of a PES file

-- The events for the PES packets of a file, without the events at its end.
unfoldable pub events_of_pes_packets : Criteria → List PesPacket → List Event
events_of_pes_packets g pes_packets = announced_events no_run
    (events_reported_after [] (steps_of_each g [] 0 pes_packets))

-- The events of a PES file, with each skipped packet.
unfoldable pub ungrouped_events_of_pes_packets : Criteria → List PesPacket → List Event
ungrouped_events_of_pes_packets g pes_packets = events_reported_after []
    (steps_of_pes_packets g pes_packets)

-- All events of a PES file, with runs of skipped PES packets grouped.
unfoldable pub all_events_of_pes_packets : Criteria → List PesPacket → List Event
all_events_of_pes_packets g pes_packets =
    let reported = ungrouped_events_of_pes_packets g pes_packets in
    announced_events no_run reported ++ run_ending_events (skipped_run_after_events no_run reported)

-- ---- the first fault of a PES file

-- The criteria for a file that ends at its first skipped packet.
abbrev pub until_skipped : Criteria → List PesPacket → Criteria
until_skipped g pes_packets = record g { unread = (read_until_skipped pes_packets g.unread).unread }

-- If `within` is 0, the first fault is the same whether reading continues after skipped PES packets
-- or stops at the first. So the first fault in a report of all faults is the one at which a simple
-- check stops.
abbrev pub LawOfFirstReported : Type 0
LawOfFirstReported =
    (g : Criteria) (pes_packets : List PesPacket)
    → g.within ≡ 0
    → first_reported_fault (all_events_of_pes_packets g pes_packets)
    ≡ first_reported_fault
    (all_events_of_pes_packets (until_skipped g pes_packets)
    (map Sent (read_until_skipped pes_packets g.unread).frames))
