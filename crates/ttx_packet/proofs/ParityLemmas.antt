-- A byte of odd parity with one changed bit has even parity.
use Rattle.std.proofs.Common.{◌≡◌, ◌≢◌, ℕ, zero, suc, ◌+◌, ◌*◌, ◌/◌, ◌%◌, ◌^◌, ◌<◌, inl, inr, true}
use Rattle.std.proofs.Common.{bit_xor, refl, arith, IsTrue, IsFalse, div-add-mod', pow-suc}
use Rattle.std.specs.Int.RustNames.{count_ones}
use Rattle.std.proofs.lemmas.Bool.{agree_below_at}
use Rattle.std.proofs.lemmas.Bool.Decides.{nat_tests}
use Rattle.std.proofs.lemmas.Nat.{xor_block, ones_cat, ones_le_self}
use lib.Count.{ones_step, ones_in}
use lib.Bits.{xor_zero_r}
use Rattle.ttx_packet.specs.OneBit.{IsNear}
use Rattle.ttx_packet.specs.Parity.{is_odd, character_code, odd_parity_byte}

one_has_one_bit : count_ones 1 ≡ 1
one_has_one_bit = let step = ones_step 1 in let none = ones_le_self 0 in omega arith

lowest_flip_changes_parity : (q r : ℕ) → r < 2
    → (count_ones (bit_xor (q * 2 ^ 1 + r) (0 * 2 ^ 1 + 1)) + count_ones (q * 2 ^ 1 + r)) % 2 ≡ 1
lowest_flip_changes_parity q zero l =
    let split = xor_block 1 q 0 0 1 (omega arith) (omega arith) in
    let ones_of = ones_cat 1 q 0 (omega arith) in
    let ones_new = ones_cat 1 q 1 (omega arith) in
    let same = xor_zero_r q in
    let none = ones_le_self 0 in
    let one = one_has_one_bit in
    rw split (rw same (omega arith))
lowest_flip_changes_parity q (suc zero) l =
    let split = xor_block 1 q 0 1 1 (omega arith) (omega arith) in
    let ones_of = ones_cat 1 q 1 (omega arith) in
    let ones_new = ones_cat 1 q 0 (omega arith) in
    let same = xor_zero_r q in
    let none = ones_le_self 0 in
    let one = one_has_one_bit in
    rw split (rw same (omega arith))
lowest_flip_changes_parity q (suc (suc r)) l = absurd (omega arith)

higher_flip_changes_parity : (q r m : ℕ) → r < 2 → (count_ones (bit_xor q m) + count_ones q) % 2 ≡ 1
    → (count_ones (bit_xor (q * 2 ^ 1 + r) (m * 2 ^ 1 + 0)) + count_ones (q * 2 ^ 1 + r)) % 2 ≡ 1
higher_flip_changes_parity q r m l h =
    let split = xor_block 1 q m r 0 l (omega arith) in
    let same = xor_zero_r r in
    let ones_of = ones_cat 1 q r l in
    let ones_new = ones_cat 1 (bit_xor q m) r l in
    rw split (rw same (omega arith))

-- Changing one bit of a number changes its number of ones by one, so the two numbers of ones have
-- an odd sum.
pub flip_changes_parity : (k b : ℕ) → (count_ones (bit_xor b (2 ^ k)) + count_ones b) % 2 ≡ 1
flip_changes_parity zero b = grind (arith, nat_tests, div-add-mod' b 2, lowest_flip_changes_parity)
flip_changes_parity (suc k) b =
    let P : ℕ → ℕ → Type 0 = λ n m. (count_ones (bit_xor n m) + count_ones n) % 2 ≡ 1 in
    let h : P (b / 2 * 2 ^ 1 + b % 2) (2 ^ k * 2 ^ 1 + 0) =
    higher_flip_changes_parity (b / 2) (b % 2) (2 ^ k) (omega arith) (flip_changes_parity k (b / 2))
    in
    grind (
      arith,
      nat_tests,
      pow-suc,
      higher_flip_changes_parity,
      div-add-mod',
      flip_changes_parity
          k (b / 2),
    )

pub single_error_breaks_parity : (sent got : ℕ) → IsTrue (is_odd sent) → IsNear sent got → got ≢
    sent
    → IsFalse (is_odd got)
unfolding is_odd
single_error_breaks_parity sent got odd (inl same) other = absurd (other same)
single_error_breaks_parity sent got odd (inr (bit, below, changed)) other =
    let both = flip_changes_parity bit sent in rw changed (grind (arith, nat_tests))

pub parity_byte_is_odd : (c : ℕ) → c < 128 → is_odd (odd_parity_byte c) ≡ true
unfolding is_odd count_ones ones_in
parity_byte_is_odd c l = agree_below_at (λ c. is_odd (odd_parity_byte c)) (λ c. true) 128 c refl l

pub parity_byte_keeps_code : (c : ℕ) → c < 128 → character_code (odd_parity_byte c) ≡ c
parity_byte_keeps_code c l = grind (arith, nat_tests)
