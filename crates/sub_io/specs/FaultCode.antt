-- The number and the name of a fault in reports (not defined by a standard).
use Rattle.std.specs.Prelude.{ℕ, List}

-- The code of a fault in reports: its number, and the characters of its name.
pub record FaultCodeValue : Type 0 where
  pub number : ℕ
  pub name : List ℕ

-- The fault code with this number and these characters as its name.
abbrev pub fault_code : ℕ → List ℕ → FaultCodeValue
fault_code number name = record { number = number; name = name }
