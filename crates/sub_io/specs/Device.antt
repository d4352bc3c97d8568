-- Specifies how a call changes the known bytes of a device and its failure count.
--
-- The known bytes are an `Option (List ℕ)`: the remaining bytes of a source, or the bytes written
-- to a sink. They are `None` if they are unknown, like the remaining bytes of a file. `Consumes`,
-- `Appends`, `Keeps` and `IsAtEnd` are relations of std on such options; they are true for every
-- call if the bytes are unknown.
use Rattle.std.specs.Prelude.{◌≡◌, ℕ, ◌+◌, ◌<◌, ◌≤◌, List, [], ◌++◌, length, take, Option, Some}
use Rattle.std.specs.Prelude.{Bool, false, Result, Ok, Err, MatchResult, is_ok, if◌then◌else◌}
use Rattle.std.specs.Io.KnownBytes.{Appends, Consumes, IsAtEnd, Keeps}

-- The failure count of a device is below 2^64 - 1, so it can rise. Each call of a source or sink
-- that may fail requires this.
abbrev pub CanFail : ℕ → Type 0
CanFail count = count < 0xFFFF_FFFF_FFFF_FFFF

-- A call that returns `Ok` does not change the failure count, and a call that returns `Err` raises
-- it by one.
abbrev pub CountsFailure : {X E : Type 0} → ℕ → Result X E → ℕ → Type 0
CountsFailure old result new = new ≡ old + (if is_ok result then 0 else 1)

-- The result is `Err` with a fault for which `is_one` is true, such as a device failure.
abbrev pub failed : {X E : Type 0} → (E → Bool) → Result X E → Bool
failed is_one (Err fault) = is_one fault
failed is_one (Ok _) = false

-- The count `new` is `old` plus one if `is_so` is true, and `old` otherwise.
abbrev pub CountRisesIf : ℕ → Bool → ℕ → Type 0
CountRisesIf old is_so new = new ≡ old + (if is_so then 1 else 0)

-- The failure count of the device rises by one if `has_failed` is true, and stays the same
-- otherwise.
abbrev pub CountsFailureIf : {D : Type 0} → (D → ℕ) → D → Bool → D → Type 0
CountsFailureIf failure_count old has_failed new =
    CountRisesIf (failure_count old) has_failed (failure_count new)

-- The effect of a pull. `Ok n`: the first n bytes of the buffer were consumed from the source.
-- `Ok 0` with a nonempty buffer: the source is at its end. `Err`: no bytes were consumed.
abbrev pub Pulls : {E : Type 0}
    → Option (List ℕ) → Option (List ℕ) → List ℕ → Result ℕ E → Type 0
Pulls old new buffer result =
    MatchResult result
    (λ n. Consumes old new (take n buffer) × (n ≡ 0 → 0 < length buffer → IsAtEnd new))
    (λ _. Keeps old new)

-- Exactly `count` bytes of the source were skipped.
pub record SkipsOver (old : Option (List ℕ)) (count : ℕ) (new : Option (List ℕ)) : Type 0 where
  pub bytes : List ℕ
  pub number : length bytes ≡ count
  pub consumed : Consumes old new bytes

-- The effect of a push. `Ok n`: the first n of the bytes were appended to the sink. `Err`: nothing
-- was appended.
abbrev pub Pushes : {E : Type 0}
    → Option (List ℕ) → Option (List ℕ) → List ℕ → Result ℕ E → Type 0
Pushes old new bytes result =
    MatchResult result (λ n. Appends old new (take n bytes)) (λ _. Keeps old new)

-- The n bytes at the front of the buffer were consumed from the source. If n is less than the size
-- of the buffer, the source is at its end.
pub record Fills
    (old : Option (List ℕ)) (n : ℕ) (new : Option (List ℕ)) (buffer : List ℕ) : Type 0 where
  pub bound : n ≤ length buffer
  pub bytes : Consumes old new (take n buffer)
  pub end : n < length buffer → IsAtEnd new

-- The known bytes of a source are the first n bytes of the buffer and the bytes that remain in the
-- source. If n is less than the size of the buffer, no bytes remain.
pub record FillsFromKnown
    (bytes : List ℕ) (n : ℕ) (new : Option (List ℕ)) (buffer : List ℕ) : Type 0 where
  pub rest : List ℕ
  pub parts : bytes ≡ take n buffer ++ rest
  pub new_eq : new ≡ Some rest
  pub ended : n < length buffer → rest ≡ []

-- A prefix of the bytes was written to the sink.
abbrev pub AppendsPrefix : Option (List ℕ) → Option (List ℕ) → List ℕ → Type 0
AppendsPrefix old new bytes = (n : ℕ) × (n ≤ length bytes) × Appends old new (take n bytes)

-- The effect of a write. `Ok`: all bytes were appended to the sink. `Err`: a prefix of them was
-- appended.
abbrev pub Writes : {X E : Type 0}
    → Option (List ℕ) → Option (List ℕ) → List ℕ → Result X E → Type 0
Writes old new bytes result =
    MatchResult result (λ _. Appends old new bytes) (λ _. AppendsPrefix old new bytes)

-- The number of buffered bytes of a sink without a buffer: 0.
abbrev pub zero_buffered_bytes : {D : Type 0} → D → ℕ
zero_buffered_bytes device = 0
