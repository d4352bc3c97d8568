-- A device that prints a line for each event, and counts the faults among the events.
use Rattle.std.specs.Prelude.{◌≡◌, ◌≢◌, ◌||◌, not, ℕ, ◌+◌, min, nat_lt, Bool, true, false, List}
use Rattle.std.specs.Prelude.{Option}
use Rattle.std.specs.Io.KnownBytes.{Appends, Keeps}
use Rattle.sub_io.specs.Device.{AppendsPrefix}
use Rattle.sub_rules.specs.declared.event.Event.{Event}
use Rattle.sub_listing.specs.EventLines.{event_line, event_lines, max_fault_count}
use Rattle.sub_listing.specs.EventLines.{fault_count_of_event, fault_count_of_events}

-- The state of the printer: the contents of its sink, if they are known, and the number of the
-- sink's failed calls; the number of faults; whether the sink failed while the printer printed or
-- flushed; and the number from which PES packets are counted.
pub record PrinterValue : Type 0 where
  pub contents : Option (List ℕ)
  pub count : ℕ
  pub fault_count : ℕ
  pub failed : Bool
  pub first : ℕ

-- The state of the printer, from its parts.
abbrev pub printer_value : Option (List ℕ) → ℕ → ℕ → Bool → ℕ → PrinterValue
printer_value contents count fault_count failed first = record {
  contents = contents;
  count = count;
  fault_count = fault_count;
  failed = failed;
  first = first;
}

-- The number of failed calls is below 2^64 - 1, so it can still rise.
abbrev pub can_fail : ℕ → Bool
can_fail count = nat_lt count 0xFFFF_FFFF_FFFF_FFFF

-- The number of faults after `more` further faults. A number above 2^64 - 1 is counted as 2^64 - 1.
unfoldable pub counted : ℕ → ℕ → ℕ
counted fault_count more = min (fault_count + more) max_fault_count

-- An event was reported to a printer whose sink had not failed. Its line was written, and it was
-- counted if it is a fault; or the sink failed once, and received a prefix of the line.
pub record PrintsEvent (old : PrinterValue) (event : Event) (new : PrinterValue) : Type 0 where
  pub continues : old.failed ≡ false
  pub keeps_first_number : new.first ≡ old.first
  pub put : new.failed ≡ false → Appends old.contents new.contents (event_line old.first event)
  pub keeps_failure_count : new.failed ≡ false → new.count ≡ old.count
  pub counts_faults : new.failed ≡ false → new.fault_count ≡ counted old.fault_count
      (fault_count_of_event event)
  pub cut :
      new.failed ≡ true → AppendsPrefix old.contents new.contents (event_line old.first event)
  pub counts_failure : new.failed ≡ true → new.count ≡ old.count + 1

-- These events were reported to a printer: all their lines were written, and the faults among them
-- were counted; or the sink failed once, and received a prefix of the lines.
pub record PrintsEvents (old : PrinterValue) (events : List Event) (new : PrinterValue) : Type 0
  where
    pub keeps_first_number : new.first ≡ old.first
    pub put :
        new.failed ≡ false → Appends old.contents new.contents (event_lines old.first events)
    pub keeps_failure_count : new.failed ≡ false → new.count ≡ old.count
    pub counts_faults : new.failed ≡ false → new.fault_count ≡ counted old.fault_count
        (fault_count_of_events events)
    pub cut :
        new.failed ≡ true
        → AppendsPrefix old.contents new.contents (event_lines old.first events)
    pub counts_failure : new.failed ≡ true → new.count ≡ old.count + 1

-- The printed lines remain after the printer was flushed. If the sink had not failed before and
-- failed during the flush, it failed once.
pub record StaysPrinted (old new : PrinterValue) : Type 0 where
  pub kept : Keeps old.contents new.contents
  pub fault_count : new.fault_count ≡ old.fault_count
  pub keeps_first_number : new.first ≡ old.first
  pub same : new.failed ≡ old.failed → new.count ≡ old.count
  pub risen : new.failed ≢ old.failed → (new.failed ≡ true) × (new.count ≡ old.count + 1)

-- The printer was flushed; `ok` if this succeeded.
pub record FlushesLines (old : PrinterValue) (ok : Bool) (new : PrinterValue) : Type 0 where
  pub stays : StaysPrinted old new
  pub stopped : (new.failed || not (can_fail new.count)) ≡ not ok
