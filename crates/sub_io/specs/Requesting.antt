-- Limits how far a reader may read ahead: it requests no byte that it does not need, unless the
-- source has buffered that byte.
--
-- The predicate `is_enough` is true for a list of the next bytes if the reader needs no more bytes
-- than these.
use Rattle.std.specs.Prelude.{◌≡◌, ℕ, ◌<◌, ◌≤◌, ◌⊎◌, Bool, true, false, List, [], ◌++◌, length}
use Rattle.std.specs.Prelude.{Option, Some, None}
use Rattle.std.specs.Io.KnownBytes.{Consumes}

-- The reader may request `count` bytes: they are buffered already, or no list of fewer bytes is
-- enough for the reader.
abbrev pub MayRequest : (List ℕ → Bool) → List ℕ → ℕ → Type 0
MayRequest is_enough borrowed count =
    (count ≤ length borrowed) ⊎ ((bytes : List ℕ) → length bytes < count → is_enough bytes ≡ false)

-- How the predicate `is_enough` changes when the reader consumes the bytes `taken`: the new
-- predicate is true for every list of bytes for which the old one is true with `taken` before them.
abbrev pub IsEnoughAfterReading : List ℕ → (List ℕ → Bool) → (List ℕ → Bool) → Type 0
IsEnoughAfterReading taken old new =
    (bytes : List ℕ) → old (taken ++ bytes) ≡ true → new bytes ≡ true

-- Calls of a source that request no more bytes than the reader needs or the source has buffered.
-- The arguments are the predicate `is_enough` and the source before the calls, whether all calls
-- succeeded, and the predicate and the source after them. A failed call is the last call. If a call
-- finds the end of the source, any calls, results and state may follow it.
pub data Requests {D : Type 0} (IsPull : D → ℕ → Option ℕ → D → Type 0) (borrowed : D → List ℕ)
    (remaining : D → Option (List ℕ))
    : (List ℕ → Bool) → D → Bool → (List ℕ → Bool) → D → Type 0 where
  -- No call was made.
  requests_nothing :
      (old new : List ℕ → Bool) (source : D)
      → IsEnoughAfterReading [] old new
      → Requests IsPull borrowed remaining old source true new source
  -- One call was made, and returned the bytes `taken`.
  requests_once :
      (old new : List ℕ → Bool) (before after : D) (count : ℕ) (taken : List ℕ)
      → MayRequest old (borrowed before) count
      → IsPull before count (Some (length taken)) after
      → Consumes (remaining before) (remaining after) taken
      → IsEnoughAfterReading taken old new
      → Requests IsPull borrowed remaining old before true new after
  -- One call was made, and failed.
  requests_in_vain :
      (old new : List ℕ → Bool) (before after : D) (count : ℕ)
      → MayRequest old (borrowed before) count
      → IsPull before count None after
      → Requests IsPull borrowed remaining old before false new after
  -- The first call found the end of the source. Any calls may follow it, with any result.
  asks_at_end :
      (old new : List ℕ → Bool) (before mid after : D) (count : ℕ) (ok : Bool)
      → 0 < count
      → MayRequest old (borrowed before) count
      → IsPull before count (Some 0) mid
      → Requests IsPull borrowed remaining old before ok new after
  -- Some calls succeeded, and more calls followed.
  requests_on :
      (old between new : List ℕ → Bool) (before mid after : D) (ok : Bool)
      → Requests IsPull borrowed remaining old before true between mid
      → Requests IsPull borrowed remaining between mid ok new after
      → Requests IsPull borrowed remaining old before ok new after
