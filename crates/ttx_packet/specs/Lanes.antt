-- The steps of the vector code, defined without vectors. Only private contracts use these
-- definitions.
use Rattle.std.specs.Prelude.{ℕ, ◌*◌, ◌/◌, ◌%◌, ◌^◌, Bool, not, List, map, bit_and, bit_or, bit_xor}
use lib.Lanes.{mask_l}
use Rattle.ttx_packet.specs.Parity.{is_odd}

-- Swaps each bit that the mask selects with the bit n places above it, and clears all other bits.
abbrev pub swapped_bits : ℕ → ℕ → ℕ → ℕ
swapped_bits n mask b = bit_or (bit_and (b / 2 ^ n) mask) (bit_and b mask * 2 ^ n % 0x100)

-- Combines each bit of a byte by exclusive or with the bit n places above it.
abbrev pub folded_bits : ℕ → ℕ → ℕ
folded_bits n b = bit_xor b (b / 2 ^ n)

-- The byte has an even number of ones.
abbrev pub has_even_parity : ℕ → Bool
has_even_parity b = not (is_odd b)

-- A mask with one bit per byte of the list, the lowest bit for the first byte. A bit is set if its
-- byte has even parity.
abbrev pub even_parity_flags : List ℕ → ℕ
even_parity_flags bytes = mask_l (map has_even_parity bytes)
