-- The character sets that `survey` reports (EN 300 706, packets X/28 and M/29).
use Rattle.std.specs.Prelude.{ℕ, ◌+◌, ◌-◌, ◌*◌, ◌/◌, ◌%◌, ◌^◌, ◌==◌, ◌&&◌, ◌||◌, not, nat_lt}
use Rattle.std.specs.Prelude.{Bool, if◌then◌else◌, List, bit_and, bit_xor}
use Rattle.std.specs.Prelude.{count_ones, slice_index, Option, Some, None}
use Rattle.ttx_packet.specs.Hamming84.{decoded_nibble}

-- The number of a character set: its seven bits, or 128 for a set that cannot be read.
abbrev pub character_set_number : Option ℕ → ℕ
character_set_number None = 128
character_set_number (Some set) = set % 128

-- The index of the line of a character set, by the packet number 28 or 29, the designation 0 or 4,
-- and the set. Each line is reported at most once.
abbrev pub set_line_index : ℕ → ℕ → Option ℕ → ℕ
set_line_index number designation set =
    (if number == 28 then 0 else 512) + (if designation == 0 then 0 else 256) + character_set_number
    set

-- ---- Hamming 24/18 (EN 300 706, 8.3): 24 bits, counted from 1, the lowest of the first byte

-- The digit of a Hamming 24/18 test: 0 if the number of ones among the tested bits is odd, so that
-- the test passes. If the test fails, the place of a single wrong bit has this digit.
abbrev pub digit_of_failed_test : ℕ → ℕ → ℕ → ℕ
digit_of_failed_test word bits digit = if count_ones (bit_and word bits) % 2 == 1 then 0 else digit

-- The place of the wrong bit, from the Hamming 24/18 tests A to E of the bits up to 23 whose place
-- has the digit 1, 2, 4, 8 or 16. If one bit is wrong, the sum of the digits is its place, or 0 for
-- bit 24.
abbrev pub wrong_bit_position : ℕ → ℕ
wrong_bit_position word =
    digit_of_failed_test word 0x55_5555 1 + digit_of_failed_test word 0x66_6666 2
    + digit_of_failed_test word 0x78_7878 4 + digit_of_failed_test word 0x00_7F80 8
    + digit_of_failed_test word 0x7F_8000 16

-- The word with the bit at a place flipped. Place 0 leaves the word unchanged.
abbrev pub with_bit_flipped : ℕ → ℕ → ℕ
with_bit_flipped word place = if place == 0 then word else bit_xor word (2 ^ (place - 1))

-- The 18 data bits of a Hamming 24/18 word, at the places 3, 5 to 7, 9 to 15 and 17 to 23.
abbrev pub data_bits : ℕ → ℕ
data_bits word =
    word / 4 % 2 + word / 0x10 % 8 * 2 + word / 0x100 % 0x80 * 0x10
    + word / 0x1_0000 % 0x80 * 0x800

-- The data bits of a Hamming 24/18 word, with a single wrong bit corrected. Test F, of all bits,
-- passes if no bit is wrong or two bits are. `None` if test F passes but another test fails, as
-- with two wrong bits, or if test F fails and the other tests give a place above 23.
abbrev pub corrected_data_bits : ℕ → Option ℕ
corrected_data_bits word =
    if count_ones word % 2 == 1
    then (if wrong_bit_position word == 0 then Some (data_bits word) else None)
    else (if nat_lt 23 (wrong_bit_position word) then None
    else Some (data_bits (with_bit_flipped word (wrong_bit_position word))))

-- The data bits of the three bytes of a Hamming 24/18 word, with one wrong bit corrected. `None` if
-- the word cannot be corrected.
abbrev pub triplet : ℕ → ℕ → ℕ → Option ℕ
triplet first second third = corrected_data_bits (first + second * 0x100 + third * 0x1_0000)

-- ---- the contents of a packet (EN 300 706, X/28 and M/29, designations 0 and 4, triplet 1)

-- The character set in bits 8 to 14 of triplet 1; `Some None` if the triplet cannot be decoded. A
-- packet X/28 has a set only if bits 1 to 4, the page function, have the value for a page that is
-- shown.
abbrev pub set_from_triplet : ℕ → Option ℕ → Option (Option ℕ)
set_from_triplet number None = Some None
set_from_triplet number (Some bits) =
    if (number == 28) && not (bits % 0x10 == 0) then None else Some (Some (bits / 0x80 % 0x80))

-- The character set together with its designation.
abbrev pub pair_with_designation : ℕ → Option (Option ℕ) → Option (ℕ × Option ℕ)
pair_with_designation designation None = None
pair_with_designation designation (Some set) = Some (designation, set)

-- The designation of a packet and the character set that `set_from_triplet` gives, if the
-- designation byte can be decoded and is 0 or 4, and if `set_from_triplet` is not `None`.
abbrev pub set_with_designation : Option ℕ → ℕ → List ℕ → Option (ℕ × Option ℕ)
set_with_designation None number p = None
set_with_designation (Some designation) number p =
    if (designation == 0) || (designation == 4)
    then pair_with_designation designation
    (set_from_triplet number (triplet (slice_index p 3) (slice_index p 4) (slice_index p 5)))
    else None

-- The designation and the character set of a packet X/28 or M/29 of the page's magazine, if it has
-- them. A packet X/28 counts only if the last decoded header of the magazine is one of the page.
abbrev pub set_of_packet : ℕ → Bool → List ℕ → Option (ℕ × Option ℕ)
set_of_packet number is_requested_page p =
    if (number == 29) || ((number == 28) && is_requested_page) then set_with_designation
    (decoded_nibble (slice_index p 2)) number p
    else None
