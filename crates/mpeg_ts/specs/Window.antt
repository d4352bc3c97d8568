-- The buffer for the next bytes of a recording.
use Rattle.std.specs.Prelude.{◌≡◌, ℕ, ◌<◌, Bool, false, List, ◌++◌, length, take}
use Rattle.std.specs.Prelude.{Option, option_map}
use Rattle.sub_io.specs.Requesting.{Requests}

-- The size of the window buffer in bytes.
abbrev pub window_size : ℕ
window_size = 205

-- The buffered bytes of a recording, and the number of bytes that may still be read.
pub record WindowValue : Type 0 where
  pub buffered : List ℕ
  pub left : ℕ

-- The buffered bytes, followed by the bytes that may still be read, if `bytes` remain in the
-- source.
abbrev pub buffered_and_left : WindowValue → List ℕ → List ℕ
buffered_and_left w bytes = w.buffered ++ take w.left bytes

-- The bytes of the source that may still be read, if they are known.
abbrev pub known_bytes_left : WindowValue → Option (List ℕ) → Option (List ℕ)
known_bytes_left w known_bytes = option_map (take w.left) known_bytes

-- `Requests` holds for each predicate that is false for fewer than `count` bytes from the first
-- buffered byte on. So after these `count` bytes only bytes that the source itself has buffered are
-- requested, or bytes after its end.
pub record RequestsUpTo
    {D : Type 0} (IsPull : D → ℕ → Option ℕ → D → Type 0) (borrowed : D → List ℕ)
    (remaining : D → Option (List ℕ))
    (count : ℕ) (old : WindowValue) (before : D) (ok : Bool) (new : WindowValue) (after : D)
    : Type 0 where
  pub requests :
      (is_enough : List ℕ → Bool)
      → ((bytes : List ℕ) → length bytes < count → is_enough bytes ≡ false)
      → Requests IsPull borrowed remaining
      (λ bytes. is_enough (buffered_and_left old bytes)) before ok
      (λ bytes. is_enough (buffered_and_left new bytes)) after
