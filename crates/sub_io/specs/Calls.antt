-- Specifies the calls that a function makes to a device, with their arguments and results. A device
-- may specify the effect of its calls by `is_pull` or `is_push`; the default, `unrestricted_call`,
-- specifies nothing.
use Rattle.std.specs.Prelude.{◌≡◌, ◌≢◌, ℕ, ◌-◌, ◌<◌, ◌≤◌, ◌⊎◌, Bool, true, false, min}
use Rattle.std.specs.Prelude.{List, [], ◌∷◌, ◌++◌, length, take, drop}
use Rattle.std.specs.Prelude.{Option, Some, None, option_map, Result, Ok, Err}
use Rattle.sub_io.specs.Buffered.{BufferedSinkValue, BufferedSourceValue}
use Rattle.sub_io.specs.Countdown.{CountingDown, fails_next, countdown_after}

-- The number of bytes transferred by a call of a device; `None` if the call failed.
abbrev pub call_answer : {E : Type 0} → Result ℕ E → Option ℕ
call_answer (Ok n) = Some n
call_answer (Err _) = None

-- The default of `is_pull` and `is_push`: any effect of a call is allowed.
abbrev pub unrestricted_call : {D L : Type 0} → D → L → Option ℕ → D → Type 0
unrestricted_call old call_argument answer new = Unit {0}

-- ---- the calls of `fill`

-- How the calls of `fill` end, with `room` bytes of the buffer unfilled. If the buffer is full,
-- there is no further call; otherwise the last call returned 0 bytes. If `fill` fails, the last
-- call failed.
abbrev pub FillingEnds :
    {D : Type 0} → (D → ℕ → Option ℕ → D → Type 0) → D → ℕ → Bool → D → Type 0
FillingEnds IsPull old room true new =
    ((room ≡ 0) × (new ≡ old)) ⊎ ((0 < room) × IsPull old room (Some 0) new)
FillingEnds IsPull old room false new = (0 < room) × IsPull old room None new

-- The calls of `fill`: each call offers the unfilled part of the buffer. The list holds the numbers
-- of bytes read, each greater than 0. If the buffer is not full then, one more call returned 0
-- bytes or failed.
abbrev pub PullsInOrder :
    {D : Type 0} → (D → ℕ → Option ℕ → D → Type 0) → D → ℕ → List ℕ → Bool → D → Type 0
PullsInOrder IsPull old room [] ok new = FillingEnds IsPull old room ok new
PullsInOrder {D} IsPull old room (n ∷ ns) ok new =
    (mid : D)
    × (0 < n)
    × IsPull old room (Some n) mid
    × PullsInOrder IsPull mid (room - n) ns ok new

-- The calls of a source by which `fill` reads into a buffer of `room` bytes, until the buffer is
-- full, the source ends or a call fails. `ok` is false if a call failed.
pub record FillsByPulls
    {D : Type 0} (IsPull : D → ℕ → Option ℕ → D → Type 0)
    (old : D) (room : ℕ) (ok : Bool) (new : D)
    : Type 0 where
  pub given : List ℕ
  pub pulls : PullsInOrder IsPull old room given ok new

-- ---- the calls of `put_all`

-- How the calls of `put_all` end, with `bytes` still to be written. If no bytes remain, there is no
-- further call. If `put_all` fails, the last call failed.
abbrev pub PuttingEnds :
    {D : Type 0} → (D → List ℕ → Option ℕ → D → Type 0) → D → List ℕ → Bool → D → Type 0
PuttingEnds IsPush old bytes true new = (bytes ≡ []) × (new ≡ old)
PuttingEnds IsPush old bytes false new = (0 < length bytes) × IsPush old bytes None new

-- The calls of `put_all`: each call offers all remaining bytes. The list holds the numbers of bytes
-- that the sink took. If bytes remain then, one more call failed.
abbrev pub PushesInOrder :
    {D : Type 0}
    → (D → List ℕ → Option ℕ → D → Type 0) → D → List ℕ → List ℕ → Bool → D → Type 0
PushesInOrder IsPush old bytes [] ok new = PuttingEnds IsPush old bytes ok new
PushesInOrder {D} IsPush old bytes (n ∷ ns) ok new =
    (mid : D)
    × (0 < length bytes)
    × IsPush old bytes (Some n) mid
    × PushesInOrder IsPush mid (drop n bytes) ns ok new

-- The calls of a sink by which `put_all` writes `bytes`. If `ok` is true, the sink took all bytes.
-- Otherwise the last call failed, and the calls before it took a prefix of the bytes, not all.
pub record PutsByPushes
    {D : Type 0} (IsPush : D → List ℕ → Option ℕ → D → Type 0)
    (old : D) (bytes : List ℕ) (ok : Bool) (new : D)
    : Type 0 where
  pub taken : List ℕ
  pub pushes : PushesInOrder IsPush old bytes taken ok new

-- ---- the calls of devices that wrap another device

-- A call of a test device that makes one call fail: the failing call is not forwarded to the inner
-- device, and every other call is forwarded unchanged.
pub record ForwardsUnlessFailing
    {D L : Type 0} (IsCall : D → L → Option ℕ → D → Type 0)
    (old : CountingDown D) (call_argument : L) (answer : Option ℕ) (new : CountingDown D)
    : Type 0 where
  pub fails : fails_next old.left ≡ true → (answer ≡ None) × (new.device ≡ old.device)
  pub forwarded : fails_next old.left ≡ false → IsCall old.device call_argument answer new.device
  pub left : new.left ≡ countdown_after old.left

-- A pull of `count` bytes from a buffered source.
pub record PullsBuffered
    {D : Type 0} (IsPull : D → ℕ → Option ℕ → D → Type 0)
    (old : BufferedSourceValue D) (count : ℕ) (answer : Option ℕ) (new : BufferedSourceValue D)
    : Type 0 where
  -- If bytes are buffered, the pull does not call the inner source.
  pub buffered : old.buffered ≢ [] → new.device ≡ old.device
  -- If no bytes are buffered, a pull of at least the buffer's size is forwarded to the inner
  -- source.
  pub reads_device_directly : old.buffered ≡ [] → old.room ≤ count → IsPull old.device count
      answer
      new.device
  -- If no bytes are buffered, a pull shorter than the buffer requests as many bytes as fit in the
  -- buffer from the inner source, once.
  pub ahead :
      old.buffered ≡ []
      → count < old.room
      → (got : Option ℕ)
      × IsPull old.device old.room got new.device
      × (answer ≡ option_map (λ n. min n count) got)

-- `left` is `bytes` without some prefix.
abbrev pub HasRemainder : List ℕ → List ℕ → Type 0
HasRemainder bytes left = (taken : List ℕ) × (bytes ≡ taken ++ left)

-- The bytes written by a push: a prefix of the offered bytes, or none if the push failed.
abbrev pub accepted_prefix : List ℕ → Option ℕ → List ℕ
accepted_prefix bytes None = []
accepted_prefix bytes (Some n) = take n bytes

-- A push into a buffered sink whose buffer is full. First the buffer is written to the inner sink.
-- If that fails, the push fails, and a suffix of the buffered bytes, of unspecified length, stays
-- in the buffer. Otherwise a push of at least the buffer's size is forwarded to the inner sink, and
-- a shorter push is buffered.
pub record FlushesFull
    {D : Type 0} (IsPush : D → List ℕ → Option ℕ → D → Type 0)
    (old : BufferedSinkValue D) (bytes : List ℕ) (answer : Option ℕ) (new : BufferedSinkValue D)
    : Type 0 where
  pub ok : Bool
  pub mid : D
  pub flushed : PutsByPushes IsPush old.device old.buffered ok mid
  pub failed :
      ok ≡ false → (answer ≡ None) × (new.device ≡ mid) × HasRemainder old.buffered new.buffered
  pub writes_device_directly :
      ok ≡ true
      → old.room ≤ length bytes
      → IsPush mid bytes answer new.device × (new.buffered ≡ [])
  pub kept :
      ok ≡ true
      → length bytes < old.room
      → (new.device ≡ mid) × (new.buffered ≡ accepted_prefix bytes answer)

-- The effect of a push on a buffered sink: its calls of the inner sink, and the bytes buffered
-- afterwards.
pub record PushesBuffered
    {D : Type 0} (IsPush : D → List ℕ → Option ℕ → D → Type 0)
    (old : BufferedSinkValue D) (bytes : List ℕ) (answer : Option ℕ) (new : BufferedSinkValue D)
    : Type 0 where
  -- After a failure of the inner sink, a push does not call it and does not change the buffer.
  pub refused :
      old.failed ≡ true → (answer ≡ None) × (new.device ≡ old.device) ×
      (new.buffered ≡ old.buffered)
  -- If the buffer has space, the bytes taken are appended to the buffer without a call of the inner
  -- sink. But if the buffer is empty, a push of at least its size is forwarded to the inner sink.
  pub buffered :
      old.failed ≡ false
      → length old.buffered < old.room
      → (old.buffered ≢ []) ⊎ (length bytes < old.room)
      → (new.device ≡ old.device) × (new.buffered ≡ old.buffered ++ accepted_prefix bytes answer)
  pub writes_device_directly :
      old.failed ≡ false
      → old.buffered ≡ []
      → old.room ≤ length bytes
      → IsPush old.device bytes answer new.device × (new.buffered ≡ [])
  pub full :
      old.failed ≡ false
      → old.room ≤ length old.buffered
      → FlushesFull IsPush old bytes answer new
