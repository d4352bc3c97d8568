-- The buffer for the bytes of a recording that are to be examined.
use Rattle.std.specs.Prelude.{◌≡◌, ℕ, List, ◌++◌, Option}
use Rattle.std.specs.Io.KnownBytes.{Consumes}

-- The size of the buffer in bytes: room for the longest PES packet of a file, 65,541 bytes, and for
-- the bytes of one read.
abbrev pub read_buffer_size : ℕ
read_buffer_size = 135168

-- A limit of the number of bytes that stay in the buffer after they were examined: the size of the
-- longest PES packet of a file, of which all bytes except the last may stay.
abbrev pub max_retained_bytes : ℕ
max_retained_bytes = 65541

-- Bytes of a source were read, and appended to the buffer.
pub record BuffersMore (old new : List ℕ) (left next : Option (List ℕ)) : Type 0 where
  pub received : List ℕ
  pub buffered : new ≡ old ++ received
  pub consumed : Consumes left next received
