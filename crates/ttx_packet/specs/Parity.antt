-- Odd parity (EN 300 706, 8.1): a byte has seven code bits, and bit 8 makes the number of ones odd.
use Rattle.std.specs.Prelude.{ℕ, ◌+◌, ◌%◌, Bool, ◌==◌, if◌then◌else◌, count_ones}

-- The byte has an odd number of ones.
unfoldable pub is_odd : ℕ → Bool
is_odd b = count_ones b % 2 == 1

-- The character code of a text byte: its lower seven bits.
abbrev pub character_code : ℕ → ℕ
character_code b = b % 0x80

-- The byte of odd parity with this 7-bit code.
abbrev pub odd_parity_byte : ℕ → ℕ
odd_parity_byte code = if is_odd code then code else code + 0x80
