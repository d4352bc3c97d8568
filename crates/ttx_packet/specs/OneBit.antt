-- The noise model of the laws about wrong bits: at most one wrong bit in each byte (not defined by
-- a standard).
use Rattle.std.specs.Prelude.{◌≡◌, ℕ, zero, suc, ◌^◌, ◌<◌, ◌⊎◌, Bool, ◌||◌, List, Option, Some}
use Rattle.std.specs.Prelude.{None, is_some, ◌==◌, if◌then◌else◌, bit_xor}
use Rattle.std.specs.List.{AllZip}
use Rattle.std.specs.Option.{option_or}

-- The received byte differs from the sent byte in at most one of its eight bits.
abbrev pub IsNear : ℕ → ℕ → Type 0
IsNear sent got = (got ≡ sent) ⊎ ((bit : ℕ) × (bit < 8) × (got ≡ bit_xor sent (2 ^ bit)))

-- The two lists have the same length, and bytes at the same index differ in at most one bit.
abbrev pub AreNear : List ℕ → List ℕ → Type 0
AreNear sent got = AllZip IsNear sent got

-- The least number below the bound that passes the test, or `None` if no number does.
abbrev pub first_below : ℕ → (ℕ → Bool) → Option ℕ
first_below zero test = None
first_below (suc n) test = option_or (first_below n test) (if test n then Some n else None)

-- A computable test of whether two bytes differ in at most one bit.
unfoldable pub is_near : ℕ → ℕ → Bool
is_near sent got = got == sent || is_some (first_below 8 (λ bit. got == bit_xor sent (2 ^ bit)))
