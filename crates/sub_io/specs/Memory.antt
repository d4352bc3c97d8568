-- The model of a sink over memory.
use Rattle.std.specs.Prelude.{ℕ, List}

-- The model of a sink over memory: the written bytes, the size of the slice in bytes, and the
-- number of failed pushes.
pub record MemSinkValue : Type 0 where
  pub bytes : List ℕ
  pub room : ℕ
  pub failure_count : ℕ
