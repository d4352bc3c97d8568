-- Models of buffered devices: the inner device and the contents of the buffer.
use Rattle.std.specs.Prelude.{◌≡◌, ℕ, ◌+◌, min, List, [], Bool}

-- The model of a buffered source: the inner source, the buffered bytes, and the buffer's size in
-- bytes.
pub record BufferedSourceValue (D : Type 0) : Type 0 where
  pub device : D
  pub buffered : List ℕ
  pub room : ℕ

-- The model of a buffered sink: the inner sink, the buffered bytes, the buffer's size in bytes,
-- whether the inner sink has failed, and the number of calls refused since that failure.
pub record BufferedSinkValue (D : Type 0) : Type 0 where
  pub device : D
  pub buffered : List ℕ
  pub room : ℕ
  pub failed : Bool
  pub refused : ℕ

-- The failure count of a buffered sink: the number of failed calls of the inner sink plus the
-- number of refused calls, at most 2^64 - 1.
abbrev pub failures_with_refused_calls : ℕ → ℕ → ℕ
failures_with_refused_calls failures refused = min (failures + refused) 0xFFFF_FFFF_FFFF_FFFF

-- The buffer is empty in the new state, and the failure count is that of the old state. This does
-- not say that the buffered bytes were written.
pub record Flushes
    {D : Type 0} (failure_count : D → ℕ) (old new : BufferedSinkValue D)
    : Type 0 where
  pub none : new.buffered ≡ []
  pub count :
      failures_with_refused_calls (failure_count new.device) new.refused
      ≡ failures_with_refused_calls (failure_count old.device) old.refused
