-- Models of std readers and writers that are used as devices.
use Rattle.std.specs.Prelude.{ℕ, List, None, Option, Some, Bool}

-- The model of a source over a std reader: the reader, and the number of failed calls.
pub record Counted (D : Type 0) : Type 0 where
  pub device : D
  pub failure_count : ℕ

-- The model of a sink over a std writer: the writer, the bytes reported as written, and the number
-- of failed calls.
pub record WriterValue (D : Type 0) : Type 0 where
  pub device : D
  pub taken : List ℕ
  pub failure_count : ℕ

-- The model of an output file: the writer (`None` after the file is closed), the bytes reported as
-- written, whether the system has reported them as stored, and the number of failed calls.
pub record FileValue (D : Type 0) : Type 0 where
  pub device : Option D
  pub taken : List ℕ
  pub is_stored : Bool
  pub failure_count : ℕ

-- The contents of a device if they are known; `None` after the device is closed.
abbrev pub contents_while_open : {D : Type 0} → (D → Option (List ℕ)) → Option D → Option (List ℕ)
contents_while_open known None = None
contents_while_open known (Some device) = known device
