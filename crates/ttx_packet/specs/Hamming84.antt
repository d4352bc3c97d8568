-- Hamming 8/4 (EN 300 706, 8.2): a byte of four data bits and four protection bits.
--
--   bit     1   2   3   4   5   6   7   8      bit 1 is the least significant, and is sent first
--   name    P1  D1  P2  D2  P3  D3  P4  D4     the number is D1 + 2 * D2 + 4 * D3 + 8 * D4
use Rattle.std.specs.Prelude.{◌≡◌, ℕ, ◌<◌, List, [], ◌∷◌, Option, slice_index}
use Rattle.ttx_packet.specs.OneBit.{IsNear, first_below, is_near}

-- The Hamming 8/4 code words of the numbers 0 to 15. Any two code words differ in at least four
-- bits.
abbrev pub code_words : List ℕ
code_words =
    0x15 ∷ 0x02 ∷ 0x49 ∷ 0x5E ∷ 0x64 ∷ 0x73 ∷ 0x38 ∷ 0x2F
    ∷ 0xD0 ∷ 0xC7 ∷ 0x8C ∷ 0x9B ∷ 0xA1 ∷ 0xB6 ∷ 0xFD ∷ 0xEA
    ∷ []

-- The Hamming 8/4 code word of the number n, which is less than 16.
abbrev pub code_word : ℕ → ℕ
code_word n = slice_index code_words n

-- The byte is one of the 16 Hamming 8/4 code words.
abbrev pub IsCodeWord : ℕ → Type 0
IsCodeWord b = (n : ℕ) × (n < 16) × (b ≡ code_word n)

-- The byte b decodes to the number n: b differs from the code word of n in at most one bit (EN 300
-- 706, 8.2).
abbrev pub Decodes : ℕ → ℕ → Type 0
Decodes b n = (n < 16) × IsNear (code_word n) b

-- The number to which a byte decodes. `None` for the 112 bytes that differ in two bits from the
-- nearest code words (EN 300 706, 8.2).
unfoldable pub decoded_nibble : ℕ → Option ℕ
decoded_nibble b = first_below 16 (λ n. is_near (code_word n) b)
