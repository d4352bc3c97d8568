-- The line that `check --all` prints for each event. PES packets are counted from the number
-- `first`.
use Rattle.std.specs.Prelude.{ℕ, ◌+◌, List, [], ◌∷◌, ◌++◌, codes, map}
use Rattle.stl_rows.specs.declared.fault.LoadFault.{LoadFault}
use Rattle.sub_rules.specs.Fault.{code_of_check_fault, place_of_fault, code_of_end_rule}
use Rattle.sub_rules.specs.declared.end_rule.EndRule.{EndRule}
use Rattle.sub_rules.specs.declared.event.Event.{Event}
use Rattle.sub_rules.specs.declared.event.Event.TheVariants.{Ended, SkippedUntil, Reported, Trusted}
use Rattle.sub_rules.specs.declared.fault.CheckFault.{CheckFault}
use Rattle.sub_rules.specs.declared.fault.CheckFault.TheVariants.{Subtitles}
use Rattle.sub_listing.specs.Faults.{check_line}
use Rattle.sub_listing.specs.FaultLine.{frame_time_text, code_text, frame_text, text_of_fault_line}
use Rattle.sub_listing.specs.FaultLine.{place_text}
use Rattle.sub_listing.specs.FaultLine.{counted_from}

-- The line for the end of a fault, with the last frame at whose end the rule was broken at the
-- reported place.
abbrev pub fault_end_line : EndRule → ℕ → List ℕ
fault_end_line rule frame =
    codes "ended " ++ code_text (code_of_end_rule rule) ++ frame_text frame ++ codes "\n"

-- The line for the end of skipped PES packets: the fault names the last of them.
abbrev pub skipped_packets_line : ℕ → CheckFault → List ℕ
skipped_packets_line first f =
    codes "ended " ++ code_text (code_of_check_fault f) ++ place_text first (place_of_fault f) ++
    codes "\n"

-- The line for a range of trusted frames.
abbrev pub trusted_frames_line : ℕ → ℕ → List ℕ
trusted_frames_line from to =
    codes "trusted frames " ++ frame_time_text from ++ codes " " ++ frame_time_text to ++ codes "\n"

-- The line that `check --all` prints for an event.
abbrev pub event_line : ℕ → Event → List ℕ
event_line first (Reported f) = text_of_fault_line (counted_from first (check_line f))
event_line first (Ended rule frame) = fault_end_line rule frame
event_line first (SkippedUntil f) = skipped_packets_line first f
event_line first (Trusted from to) = trusted_frames_line from to

-- The lines that `check --all` prints for a list of events.
abbrev pub event_lines : ℕ → List Event → List ℕ
event_lines first [] = []
event_lines first (e ∷ events) = event_line first e ++ event_lines first events

-- The number of faults that an event reports: 0 or 1.
abbrev pub fault_count_of_event : Event → ℕ
fault_count_of_event (Reported f) = 1
fault_count_of_event (Ended rule frame) = 0
fault_count_of_event (SkippedUntil f) = 0
fault_count_of_event (Trusted from to) = 0

-- The number of faults among the events.
abbrev pub fault_count_of_events : List Event → ℕ
fault_count_of_events [] = 0
fault_count_of_events (e ∷ events) = fault_count_of_event e + fault_count_of_events events

-- The event that reports a fault of the subtitle file.
abbrev pub subtitle_event : LoadFault → Event
subtitle_event f = Reported (Subtitles f)

-- The events that report faults of the subtitle file.
abbrev pub subtitle_events : List LoadFault → List Event
subtitle_events faults = map subtitle_event faults

-- The greatest number of faults that can be counted, 2^64 - 1.
abbrev pub max_fault_count : ℕ
max_fault_count = 0xFFFF_FFFF_FFFF_FFFF
