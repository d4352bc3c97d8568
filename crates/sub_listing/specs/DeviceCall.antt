-- The states of a command's devices before and after the command.
use Rattle.std.specs.Prelude.{◌≡◌, ◌≢◌, ℕ, ◌+◌, ◌≤◌, List, Option}
use Rattle.sub_listing.specs.declared.status.Status.{Status}
use Rattle.sub_listing.specs.declared.status.Status.TheVariants.{Fault}
pub use Rattle.sub_io.specs.Device.{CanFail}

-- A source before and after a call: its remaining bytes, if they are known, and its number of
-- failed calls.
pub record SourceCall : Type 0 where
  pub known : Option (List ℕ)
  pub left : Option (List ℕ)
  pub old_count : ℕ
  pub new_count : ℕ

-- A sink before and after a call: the bytes written to it, if they are known, and its number of
-- failed calls.
pub record SinkCall : Type 0 where
  pub old : Option (List ℕ)
  pub new : Option (List ℕ)
  pub old_count : ℕ
  pub new_count : ℕ

-- The states of a source before and after a call, given the functions for its remaining bytes and
-- its number of failed calls.
abbrev pub source_call : {S : Type 0} → (S → Option (List ℕ)) → (S → ℕ) → S → S → SourceCall
source_call remaining failure_count old new = record {
  known = remaining old;
  left = remaining new;
  old_count = failure_count old;
  new_count = failure_count new;
}

-- The states of an input before and after a call, given the functions for its remaining bytes, for
-- its remaining bytes perhaps without those read before a failure or `Rest`, and for its number of
-- failed calls.
abbrev pub read_call :
    {D : Type 0} → (D → Option (List ℕ)) → (D → Option (List ℕ)) → (D → ℕ) → D → D → SourceCall
read_call known_bytes left failure_count old new = record {
  known = known_bytes old;
  left = left new;
  old_count = failure_count old;
  new_count = failure_count new;
}

-- The states of a sink before and after a call, given the functions for the bytes written to it and
-- its number of failed calls.
abbrev pub sink_call : {K : Type 0} → (K → Option (List ℕ)) → (K → ℕ) → K → K → SinkCall
sink_call contents failure_count old new = record {
  old = contents old;
  new = contents new;
  old_count = failure_count old;
  new_count = failure_count new;
}

-- During a command, a device fails at most once, and only if the status is `Fault`.
pub record Counts (old : ℕ) (status : Status) (new : ℕ) : Type 0 where
  pub kept : status ≢ Fault → new ≡ old
  pub risen : old ≤ new
  pub rises_at_most_once : new ≤ old + 1

-- During a command, a device fails at most once, and only if the status is `Fault`. The device is
-- given with the function for its number of failed calls.
abbrev pub CountsFault : {D : Type 0} → (D → ℕ) → D → Status → D → Type 0
CountsFault failure_count old status new = Counts (failure_count old) status (failure_count new)
