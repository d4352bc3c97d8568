-- Hamming 8/4: decoding by table agrees with the definition, and one wrong bit does not change the
-- decoded number.
use Rattle.std.proofs.Common.{rules, ◌≡◌, ℕ, ◌^◌, ◌<◌, inl, inr, Bool, true, false, not, cond, ◌==◌}
use Rattle.std.proofs.Common.{◌||◌, Option, Some, None, bit_xor, ◌∙◌, ◌%◌, refl, sym, get_or, arith}
use Rattle.std.proofs.Common.{nat_eq, nat_lt}
use Rattle.std.proofs.lemmas.Bool.{agree_below, agree_below_at, ltb-true}
use Rattle.std.proofs.lemmas.Bool.Decides.{nat_tests}
use Rattle.ttx_packet.specs.OneBit.{IsNear, is_near}
use Rattle.ttx_packet.specs.Hamming84.{IsCodeWord, Decodes, code_word, decoded_nibble}
use Rattle.ttx_packet.specs.declared.hamming.TheConstants.{DECODED}
use Rattle.ttx_packet.proofs.OneBitLemmas.{first_below_satisfies_test, is_near_implies_near}

abbrev is_decoded_number : Option ℕ → ℕ → Bool
is_decoded_number None n = false
is_decoded_number (Some m) n = m == n

decoded_number_is_some : (o : Option ℕ) (n : ℕ) → is_decoded_number o n ≡ true → o ≡ Some n
decoded_number_is_some o n e = grind (arith, nat_tests)

-- The code word of each number decodes to that number, checked for all 16 numbers.
pub decoded_nibble-code_word : (n : ℕ) → n < 16 → decoded_nibble (code_word n) ≡ Some n
unfolding decoded_nibble is_near
decoded_nibble-code_word n l = search (rules, decoded_number_is_some, agree_below_at)

-- Each code word with one changed bit decodes to its number, checked for all 16 * 8 cases.
single_bit_errors_decode : agree_below
    (λ n. agree_below (λ bit. is_decoded_number (decoded_nibble (bit_xor (code_word n) (2 ^ bit)))
    n)
    (λ bit. true) 8) (λ n. true) 16 ≡ true
unfolding decoded_nibble is_near
single_bit_errors_decode = refl

-- A byte that differs from a code word in at most one bit decodes to the word's number.
pub decodes_implies_decoded : (g n : ℕ) → Decodes g n → decoded_nibble g ≡ Some n
decodes_implies_decoded g n (l, inl same) = rw same (decoded_nibble-code_word n l)
decodes_implies_decoded g n (l, inr changed) =
    let row =
    agree_below_at
    (λ n. agree_below (λ bit. is_decoded_number (decoded_nibble (bit_xor (code_word n) (2 ^ bit)))
    n)
    (λ bit. true) 8) (λ n. true) 16 n single_bit_errors_decode l in
    rw changed.2
    (decoded_number_is_some _ n
    (agree_below_at (λ bit. is_decoded_number (decoded_nibble (bit_xor (code_word n) (2 ^ bit))) n)
    (λ bit. true)
    8 changed.0 row changed.1))

-- A byte that decodes to a number differs from the number's code word in at most one bit.
pub decoded_implies_decodes : (g n : ℕ) → decoded_nibble g ≡ Some n → Decodes g n
unfolding decoded_nibble
decoded_implies_decodes g n e = let r = first_below_satisfies_test 16 (λ n. is_near (code_word n) g)
    n e in
    (r.0, is_near_implies_near (code_word n) g r.1)

pub decoded_nibble-near : (sent got : ℕ) → IsCodeWord sent → IsNear sent got → decoded_nibble got ≡
    decoded_nibble sent
decoded_nibble-near sent got (n, l, is) near =
    decodes_implies_decoded got n (l, rw is at near) ∙ sym (decodes_implies_decoded sent n
    (l, inl is))

pub code_word_is_exact : (n : ℕ) → n < 16 → IsCodeWord (code_word n)
code_word_is_exact n l = (n, l, refl)

abbrev entry : ℕ → Option ℕ
entry b = cond (nat_eq (get_or DECODED b 0) 255) None (Some (get_or DECODED b 0 % 16))

abbrev is_same_result : Option ℕ → Option ℕ → Bool
is_same_result None None = true
is_same_result None (Some y) = false
is_same_result (Some x) None = false
is_same_result (Some x) (Some y) = nat_eq x y

is_same_result-true : (a b : Option ℕ) → is_same_result a b ≡ true → a ≡ b
is_same_result-true a b e = grind (arith, nat_tests)

-- The decoding table agrees with the definition of decoding, checked for all 256 bytes.
pub decoded_nibble-by_table : (b : ℕ) → b < 0x100 → decoded_nibble b ≡ entry b
unfolding decoded_nibble is_near
decoded_nibble-by_table b l =
    is_same_result-true _ _
    (agree_below_at (λ b. is_same_result (decoded_nibble b) (entry b)) (λ b. true) 0x100 b refl l)

-- If the entry of a byte in the decoding table is below 16, the byte is a code word; checked for
-- all 256 bytes.
pub small_entry_is_code_word : (b : ℕ) → b < 0x100 → get_or DECODED b 0 < 16 → IsCodeWord b
small_entry_is_code_word b l small =
    let test : ℕ → Bool = λ b. not (nat_lt (get_or DECODED b 0) 16)
    || nat_eq b (code_word (get_or DECODED b 0)) in
    let passes = agree_below_at test (λ b. true) 0x100 b refl l in
    (get_or DECODED b 0, small, grind (arith, nat_tests))

-- The entry of each code word in the decoding table is below 16; checked for all 16 code words.
pub code_word_entry_is_small : (b : ℕ) → IsCodeWord b → get_or DECODED b 0 < 16
code_word_entry_is_small b (n, l, is) =
    rw is
    (ltb-true _ _
    (agree_below_at (λ n. nat_lt (get_or DECODED (code_word n) 0) 16) (λ n. true) 16 n refl l))
