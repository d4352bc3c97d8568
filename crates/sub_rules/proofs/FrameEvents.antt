-- If each entry of a transmission is one PES packet, the events of the transmission are those of
-- its entries, followed by those at its end.
use Rattle.std.specs.Prelude.{ℕ, zero, suc, ◌+◌, List, [], ◌++◌, length}
use Rattle.sub_rules.specs.Events.{closing_events, events_at_end, first_header_events, gap_length}
use Rattle.sub_rules.specs.Events.{latest_frame, order_events, packet_events}
use Rattle.sub_rules.specs.FrameRules.{Criteria, frame_at, packets_before, packets_of_frame}
use Rattle.sub_rules.specs.Transmission.{Transmission}
use Rattle.sub_rules.specs.declared.event.Event.{Event}

-- The events at the ends of the n frames without a PES packet that follow the first i frames of the
-- transmission.
unfoldable pub gap_events : Criteria → Transmission → ℕ → ℕ → List Event
gap_events g frames i zero = []
gap_events g frames i (suc n) =
    gap_events g frames i n ++ events_at_end g frames i i (latest_frame frames i + suc n)

-- `frame_events` are the events of entry i of the transmission: for its frame number, for the
-- frames without a PES packet before it, for its packets, and at its end.
unfoldable pub frame_events : Criteria → Transmission → ℕ → List Event
frame_events g frames i =
    order_events g frames i
    ++ gap_events g frames i (gap_length frames i)
    ++ packet_events g.watched (frame_at frames i) (packets_before frames i)
    (packets_of_frame frames i) (length (packets_of_frame frames i))
    ++ first_header_events g frames i
    ++ events_at_end g frames i (suc i) (frame_at frames i)

-- `events_of_first_frames` are the events of the first n entries of the transmission.
unfoldable pub events_of_first_frames : Criteria → Transmission → ℕ → List Event
events_of_first_frames g frames zero = []
events_of_first_frames g frames (suc n) = events_of_first_frames g frames n ++ frame_events g frames
    n

-- All events of a transmission in which each frame is one PES packet.
unfoldable pub events : Criteria → Transmission → List Event
events g frames =
    events_of_first_frames g frames (length frames) ++ closing_events g frames (length frames)
