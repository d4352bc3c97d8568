-- The report sink of `check`, which stores the first fault. Only private contracts use these
-- definitions.
use Rattle.std.specs.Prelude.{◌≡◌, ◌||◌, Bool, false, not, Option, Some, None}
use Rattle.std.specs.Prelude.{if◌then◌else◌}
use Rattle.sub_rules.specs.Fault.{is_pes_read_failure, is_pes_write_failure, is_subtitle_fault}
use Rattle.sub_rules.specs.declared.event.Event.{Event}
use Rattle.sub_rules.specs.declared.event.Event.TheVariants.{Ended, SkippedUntil, Reported, Trusted}
use Rattle.sub_rules.specs.declared.fault.CheckFault.{CheckFault}

-- The fault is in the PES file: it is neither a fault of the subtitle file nor a device failure.
pub record IsPesFileFault (f : CheckFault) : Type 0 where
  pub is_no_read_failure : is_pes_read_failure f ≡ false
  pub is_no_write_fault : is_pes_write_failure f ≡ false
  pub is_no_subtitle_fault : is_subtitle_fault f ≡ false

-- The fault is in the PES file: it is neither a fault of the subtitle file nor a device failure.
abbrev pub is_pes_file_fault : CheckFault → Bool
is_pes_file_fault f = not (is_pes_read_failure f || is_pes_write_failure f || is_subtitle_fault f)

-- The fault of an event that reports a fault in the PES file; `None` for all other events.
abbrev pub pes_file_fault_in_event : Event → Option CheckFault
pes_file_fault_in_event (Reported f) = if is_pes_file_fault f then Some f else None
pes_file_fault_in_event (Ended rule frame) = None
pes_file_fault_in_event (SkippedUntil f) = None
pes_file_fault_in_event (Trusted from to) = None

-- How an event changes a `FirstFault`: it stores the fault of the first event that reports a fault
-- in the PES file, after which no event is reported to it. It stores no fault of the subtitle file
-- and no device failure.
abbrev pub KeepsFirstFault : Option CheckFault → Event → Option CheckFault → Type 0
KeepsFirstFault old event new = (old ≡ None) × (new ≡ pes_file_fault_in_event event)
