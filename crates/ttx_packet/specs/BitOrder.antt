-- The order of bits in a byte. Teletext sends bit 1 of a byte first; a DVB data unit carries it as
-- bit 8 (EN 300 472, data field syntax).
use Rattle.std.specs.Prelude.{ℕ, ◌+◌, ◌*◌, ◌/◌, ◌%◌}

-- The byte with its eight bits in reverse order: bit 1 becomes bit 8, and so on.
unfoldable pub mirror : ℕ → ℕ
mirror b =
    0x80 * (b % 2)
    + 0x40 * (b / 2 % 2)
    + 0x20 * (b / 4 % 2)
    + 0x10 * (b / 8 % 2)
    + 8 * (b / 0x10 % 2)
    + 4 * (b / 0x20 % 2)
    + 2 * (b / 0x40 % 2)
    + b / 0x80 % 2
