-- The output of `check --all`: a line for each event, and a last line. PES packets are counted from
-- the number `first`.
use Rattle.std.specs.Prelude.{ℕ, ◌==◌, min, List, ◌++◌, codes, decimal, Option, Some, None}
use Rattle.std.specs.Prelude.{Result, Ok, Err, if◌then◌else◌}
use Rattle.sub_checker.specs.declared.accepted.Accepted.{Accepted}
use Rattle.sub_rules.specs.declared.event.Event.{Event}
use Rattle.sub_rules.specs.declared.fault.CheckFault.{CheckFault}
use Rattle.sub_listing.specs.EventLines.{event_lines, max_fault_count, fault_count_of_events}
use Rattle.sub_listing.specs.Faults.{check_line}
use Rattle.sub_listing.specs.Listing.{Listing, done, followed, fault_listing}
use Rattle.sub_listing.specs.FaultLine.{counted_from}
use Rattle.sub_listing.specs.declared.status.Status.TheVariants.{Refused}

-- The line of an accepted transmission: the number of frames from the first to the last frame, and
-- the number of headers of the page.
abbrev pub accepted_line : Accepted → List ℕ
accepted_line a = codes "accepted " ++ decimal a.frames ++ codes " frames "
    ++ decimal a.headers ++ codes " transmissions\n"

-- The line with the number of faults.
abbrev pub fault_count_listing : ℕ → Listing
fault_count_listing n = record { text = decimal n ++ codes " faults\n"; status = Refused }

-- The last line after `refused` faults: the line about a failed source or a lack of memory;
-- otherwise the number of faults or, if there are none and the PES file was checked, the line of
-- the accepted transmission. `None` means that the PES file was not checked.
abbrev pub last_listing : ℕ → ℕ → Result (Option Accepted) CheckFault → Listing
last_listing first refused (Err f) = fault_listing (counted_from first (check_line f))
last_listing first refused (Ok None) = fault_count_listing refused
last_listing first refused (Ok (Some a)) =
    if refused == 0 then done (accepted_line a) else fault_count_listing refused

-- The output for all events, and the last line. A number of faults that is too great to be counted
-- is printed as the greatest number.
abbrev pub check_all_listing : ℕ → List Event → Result (Option Accepted) CheckFault → Listing
check_all_listing first events answer =
    followed (event_lines first events)
    (last_listing first (min (fault_count_of_events events) max_fault_count) answer)
