-- Packets without coding errors are equal if they have the same address and the same codes.
use Rattle.std.proofs.lemmas.Bool.Decides.{nat_tests}
use Rattle.std.proofs.Common.{◌≡◌, ℕ, zero, suc, ◌+◌, ◌*◌, ◌/◌, ◌%◌, ◌<◌, true, not, List}
use Rattle.std.proofs.Common.{[], ◌∷◌, get_or, slice_index, drop, map, Some, sym, ◌∙◌}
use Rattle.std.proofs.Common.{subst, arith, refl}
use Rattle.std.proofs.lemmas.Bool.{agree_below_at, true≢false}
use Rattle.std.proofs.lemmas.List.{same_lists, get_or-drop, get_or_default}
use Rattle.std.proofs.lemmas.Option.{same_Some}
use Rattle.std.specs.Int.RustNames.{count_ones}
use lib.Count.{ones_in}
use Rattle.ttx_packet.specs.Hamming84.{code_word}
use Rattle.ttx_packet.specs.Parity.{is_odd, character_code}
use Rattle.ttx_packet.specs.PacketAddress.{address, HasExactAddress, IsPacket}
use Rattle.ttx_packet.specs.RowPacket.{HasOddParityText}
use Rattle.ttx_packet.proofs.Hamming84Lemmas.{decoded_nibble-code_word}
use Rattle.sub_rules.specs.PacketRules.{codes_of}

high_bit_flips_parity : (code : ℕ) → code < 128 → is_odd (code + 128) ≡ not (is_odd code)
unfolding is_odd count_ones ones_in
high_bit_flips_parity code l =
    agree_below_at (λ k. is_odd (k + 128)) (λ k. not (is_odd k)) 128 code refl l

one_of_pair_is_even : (b c : ℕ) → b < 128 → c ≡ b + 128 → is_odd b ≡ true → is_odd c ≡ true → ⊥
one_of_pair_is_even b c l s ob oc = grind (arith, nat_tests, true≢false, high_bit_flips_parity)

odd_same :
    (b c : ℕ)
    → b < 256
    → c < 256
    → is_odd b ≡ true
    → is_odd c ≡ true
    → b % 128 ≡ c % 128
    → b ≡ c
odd_same b c lb lc ob oc e = grind (arith, one_of_pair_is_even)

address_eq :
    (p : List ℕ) (m n : ℕ)
    → m < 16
    → n < 16
    → slice_index p 0 ≡ code_word m
    → slice_index p 1 ≡ code_word n
    → address p
    ≡ Some (record { magazine = (m + 0x10 * n) % 8; packet_number = (m + 0x10 * n) / 8 })
unfolding address
address_eq p m n lm ln e f = grind (arith, decoded_nibble-code_word)

same_address :
    (p q : List ℕ)
    → HasExactAddress p
    → HasExactAddress q
    → address p ≡ address q
    → (slice_index p 0 ≡ slice_index q 0) × (slice_index p 1 ≡ slice_index q 1)
same_address p q x y e =
    let a = x 0 (omega arith) in
    let b = x 1 (omega arith) in
    let c = y 0 (omega arith) in
    let d = y 1 (omega arith) in
    let f =
    same_Some _ _
    (sym (address_eq p a.0 b.0 a.1 b.1 a.2 b.2) ∙ e ∙ address_eq q c.0 d.0 c.1 d.1 c.2 d.2) in
    grind (arith, nat_tests)

pub code_of_commutes_with_get : (bytes : List ℕ) (k : ℕ)
    → get_or (map character_code bytes) k 0 ≡ character_code (get_or bytes k 0)
code_of_commutes_with_get [] k = refl
code_of_commutes_with_get (b ∷ bytes) zero = refl
code_of_commutes_with_get (b ∷ bytes) (suc k) = code_of_commutes_with_get bytes k

pub code_of_column :
    (p : List ℕ) (k : ℕ) → get_or (codes_of p) k 0 ≡ character_code (get_or p (k + 2) 0)
code_of_column p k = grind (arith, nat_tests, code_of_commutes_with_get, get_or-drop)

-- Rows with correct addresses and odd parity are equal if they have the same address and the same
-- codes. So a checker need only store the codes of a row.
pub same_packet :
    (p q : List ℕ)
    → IsPacket p
    → IsPacket q
    → HasExactAddress p
    → HasExactAddress q
    → address p ≡ address q
    → HasOddParityText p
    → HasOddParityText q
    → map character_code (drop 2 p) ≡ map character_code (drop 2 q)
    → p ≡ q
same_packet p q wp wq xp xq a op oq codes =
    same_lists p q (wp.size ∙ sym wq.size)
    (λ k d l.
    let lk : k < 42 = omega (arith, wp.size) in
    get_or_default p k d 0 l ∙ at k lk ∙ get_or_default q k 0 d (omega (arith, wq.size)))
  where
    two : (slice_index p 0 ≡ slice_index q 0) × (slice_index p 1 ≡ slice_index q 1)
    two = same_address p q xp xq a

    later : (j : ℕ) → j < 40 → get_or p (j + 2) 0 ≡ get_or q (j + 2) 0
    later j l =
        odd_same (get_or p (j + 2) 0) (get_or q (j + 2) 0) (wp.bytes (j + 2)) (wq.bytes (j + 2))
        (op j l) (oq j l)
        (grind (arith, nat_tests, code_of_column p j, code_of_column q j))

    at : (k : ℕ) → k < 42 → get_or p k 0 ≡ get_or q k 0
    at zero l = two.0
    at (suc zero) l = two.1
    at (suc (suc j)) l =
        let s : j + 2 ≡ suc (suc j) = omega arith in
        subst (λ n. get_or p n 0 ≡ get_or q n 0) s (later j (omega arith))
