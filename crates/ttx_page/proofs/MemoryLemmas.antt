-- The receivers of this crate store a row from its left column to its right column.
use Rattle.std.proofs.Common.{◌≡◌, ℕ, ◌+◌, ◌<◌, ◌≤◌, List, length, slice_index}
use Rattle.ttx_page.specs.declared.memory.EvenParityChoice.{EvenParityChoice}
use Rattle.ttx_page.specs.Page.{AreCodes}
use Rattle.ttx_page.specs.Memory.{code_after}

-- While a row is stored from left to right, the columns before `column` have their new codes, and
-- the other columns their old codes.
pub record IsStoredTo (even : EvenParityChoice) (packet was : List ℕ) (column : ℕ) (codes : List ℕ)
    : Type 0 where
  pub size : length codes ≡ 40
  pub done : (k : ℕ)
      → k < column
      → slice_index codes k ≡ code_after even (slice_index packet (k + 2)) (slice_index was k)
  pub left : (k : ℕ) → column ≤ k → slice_index codes k ≡ slice_index was k
  pub codes_are_valid : AreCodes codes
