-- Specifies how the bytes of sinks are stored permanently, and how sinks are closed.
use Rattle.std.specs.Prelude.{◌≡◌, Bool, true, false, Some, None, Result, Ok, Err}
use Rattle.std.specs.IoError.{error_kind}
use Rattle.std.specs.declared.io.Error.{Error}
use Rattle.std.specs.declared.io.ErrorKind.{ErrorKind}
use Rattle.std.specs.declared.io.ErrorKind.TheVariants.{InvalidInput, Unsupported}
use Rattle.sub_io.specs.Buffered.{BufferedSinkValue}
use Rattle.sub_io.specs.Counted.{FileValue}

-- The errors of `sync_all` for a file that stores nothing, such as a pipe, a terminal or a device:
-- EINVAL, ENOTSUP and ENOSYS.
abbrev pub means_never_stored : ErrorKind → Bool
means_never_stored InvalidInput = true
means_never_stored Unsupported = true
means_never_stored _ = false

-- `sync_all` succeeded, or it failed with an error of a file that stores nothing.
abbrev pub succeeds_or_never_stores : {X : Type 0} → Result X Error → Bool
succeeds_or_never_stores (Ok done) = true
succeeds_or_never_stores (Err error) = means_never_stored (error_kind error)

-- The default specification of storing: any result is allowed in any state.
abbrev pub unrestricted_store : {D : Type 0} → D → Bool → Type 0
unrestricted_store device answer = Unit {0}

-- A device in memory needs no storing, since memory loses nothing.
abbrev pub needs_no_store : {D : Type 0} → D → Bool
needs_no_store device = true

-- The default specification of dropping: a device may be dropped in any state.
abbrev pub unrestricted_close : {D : Type 0} → D → Type 0
unrestricted_close device = Unit {0}

-- The effect of closing a device over a writer: the writer is dropped unchanged, unless the device
-- is closed already. No failure is counted.
pub record Releases
    {D : Type 0} (IsReleased : D → Type 0) (old new : FileValue D) : Type 0 where
  pub writer : (device : D) → old.device ≡ Some device → IsReleased device
  pub none : new.device ≡ None
  pub taken : new.taken ≡ old.taken
  pub stored : new.is_stored ≡ old.is_stored
  pub count : new.failure_count ≡ old.failure_count

-- The effect of closing a buffered sink: the inner sink is closed, and buffered bytes are not
-- written.
pub record ClosesInner
    {D : Type 0} (IsClose : D → D → Type 0) (old new : BufferedSinkValue D) : Type 0 where
  pub device : IsClose old.device new.device
  pub buffered : new.buffered ≡ old.buffered
  pub room : new.room ≡ old.room
  pub failed : new.failed ≡ old.failed
  pub refused : new.refused ≡ old.refused
