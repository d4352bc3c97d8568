-- The model of a device with one failing call: the inner device and a countdown.
use Rattle.std.specs.Prelude.{ℕ, ◌+◌, min, Bool, true, false, Option, Some, None, zero, suc}

-- A device with one failing call. `left` is the number of calls forwarded before the failing call:
-- `Some 0` if the next call fails, `None` after the failing call.
pub record CountingDown (D : Type 0) : Type 0 where
  pub device : D
  pub left : Option ℕ

-- The next call of the device is the failing call.
abbrev pub fails_next : Option ℕ → Bool
fails_next None = false
fails_next (Some zero) = true
fails_next (Some (suc k)) = false

-- The countdown to the failing call, after one more call of the device.
abbrev pub countdown_after : Option ℕ → Option ℕ
countdown_after None = None
countdown_after (Some zero) = None
countdown_after (Some (suc k)) = Some k

-- The failure count of a device with one failing call: the failure count of the inner device, plus
-- 1 after the failing call, at most 2^64 - 1.
abbrev pub failures_with_injected : Option ℕ → ℕ → ℕ
failures_with_injected None n = min (n + 1) 0xFFFF_FFFF_FFFF_FFFF
failures_with_injected (Some k) n = n
