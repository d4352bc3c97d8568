-- Definitions for the specifications of all readers.
use Rattle.std.specs.Prelude.{◌≡◌, ℕ, ◌<◌, List, length, take, Option, Some, Result, Ok, Err}
use Rattle.std.specs.Prelude.{slice_index}

infixl 10 ◌>>=◌
-- Composes two reading steps. If the first step returns a fault, the second is not run.
abbrev pub ◌>>=◌ : {A B E : Type 0} → Result A E → (A → Result B E) → Result B E
(Ok x) >>= f = f x
(Err e) >>= f = Err e

-- If the bytes of a device are known, P is true for them.
abbrev pub IfKnown : Option (List ℕ) → (List ℕ → Type 0) → Type 0
IfKnown known P = (bytes : List ℕ) → known ≡ Some bytes → P bytes

-- Each number of the list is a byte, less than 256.
abbrev pub AreBytes : List ℕ → Type 0
AreBytes bytes = (i : ℕ) → slice_index bytes i < 256

-- If the bytes of the device are known, they begin with `next`.
abbrev pub AreNextBytes : List ℕ → Option (List ℕ) → Type 0
AreNextBytes next told = IfKnown told (λ bytes. take (length next) bytes ≡ next)
