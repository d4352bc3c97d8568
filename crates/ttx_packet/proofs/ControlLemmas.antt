-- A number below 2048 is determined by its eleven control bits.
use Rattle.std.proofs.Common.{◌≡◌, ℕ, ◌+◌, ◌*◌, ◌<◌, Bool, true, ◌==◌, arith, refl, eqb-true}
use Rattle.std.proofs.lemmas.Bool.Decides.{nat_tests}
use Rattle.std.specs.Prelude.{bit_and}
use Rattle.std.proofs.lemmas.Bool.{agree_below_at}
use Rattle.ttx_packet.specs.PageHeader.{bit, nibble}

pub bit_is_below_two : (b : Bool) → bit b < 2
bit_is_below_two b = grind (arith, nat_tests)

pub nibble_is_below_16 : (a b c d : Bool) → nibble a b c d < 16
nibble_is_below_16 a b c d = grind (arith, nat_tests, bit_is_below_two)

abbrev is_bit_set_in : ℕ → ℕ → Bool
is_bit_set_in n flag = bit_and n flag == flag

-- `join_bits` takes the eleven control bits of a number and adds them up again.
abbrev pub join_bits : ℕ → ℕ
join_bits n =
    bit (is_bit_set_in n 1)
    + 2 * (bit (is_bit_set_in n 2) + 2 * bit (is_bit_set_in n 4))
    + 8 * nibble (is_bit_set_in n 8) (is_bit_set_in n 0x10) (is_bit_set_in n 0x20)
    (is_bit_set_in n 0x40)
    + 0x80 * nibble (is_bit_set_in n 0x80) (is_bit_set_in n 0x100) (is_bit_set_in n 0x200)
    (is_bit_set_in n 0x400)

-- Each number below 2048 equals the sum of the values of its eleven bits, checked by computation.
pub joined_bits_restore_control : (n : ℕ) → n < 0x800 → join_bits n ≡ n
joined_bits_restore_control n small =
    eqb-true _ _ (agree_below_at (λ n. join_bits n == n) (λ n. true) 0x800 n refl small)
