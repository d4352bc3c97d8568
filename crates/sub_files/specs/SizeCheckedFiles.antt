-- A written file whose size is checked after the file was closed.
use Rattle.std.specs.Prelude.{◌≡◌}
use Rattle.sub_io.specs.Closing.{Releases}
use Rattle.sub_io.specs.Counted.{FileValue}

-- The model of a written file, and the device that checks its size after closing.
pub record CheckedFileValue (W L : Type 0) : Type 0 where
  pub file : FileValue W
  pub lookup : L

-- The file is closed by releasing its writer. The device that checks the size stays the same.
pub record ClosesFile
    {W L : Type 0} (IsReleased : W → Type 0) (old new : CheckedFileValue W L) : Type 0 where
  pub file : Releases IsReleased old.file new.file
  pub lookup : new.lookup ≡ old.lookup
