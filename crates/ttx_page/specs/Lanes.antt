-- The results of the vector code. Only private contracts use these definitions.
use Rattle.std.specs.Prelude.{ℕ, ◌==◌, Bool, not, List}
use lib.Lanes.{mask_l, zip2}

-- The two character codes differ.
abbrev pub differ : ℕ → ℕ → Bool
differ x y = not (x == y)

-- A mask with one bit per cell, the lowest bit for the first cell. A bit is set if the cells of the
-- two blocks differ.
abbrev pub differing_mask : List ℕ → List ℕ → ℕ
differing_mask a b = mask_l (zip2 differ a b)
