-- The vector code computes for each byte what the definitions for one byte state.
use Rattle.std.proofs.Common.{◌≡◌, ℕ, suc, ◌*◌, ◌/◌, ◌%◌, ◌^◌, ◌-◌, ◌<◌, true, cond, List, [], ◌∷◌}
use Rattle.std.proofs.Common.{map, length, get_or, replicate, refl, sym, ap, ap₂, ◌∙◌, arith, w8}
use Rattle.std.proofs.Common.{Fits, nat_eq, eqb-true}
use Rattle.std.proofs.lemmas.Bool.Decides.{nat_tests}
use Rattle.std.proofs.lemmas.List.{map-id, length-map}
use Rattle.std.specs.Prelude.{bit_xor, bit_and, bit_or}
use Rattle.std.specs.Int.RustNames.{count_ones}
use Rattle.std.proofs.lemmas.Bool.{agree_below_at}
use Rattle.std.proofs.lemmas.Simd.{zip2_splat, zip2_of_maps, bitmask_splat, map-map}
use lib.Lanes.{zip2, mask_l, top, Each1}
use lib.Count.{ones_in}
use Rattle.ttx_packet.specs.BitOrder.{mirror}
use Rattle.ttx_packet.specs.Lanes.{swapped_bits, folded_bits, has_even_parity, even_parity_flags}
use Rattle.ttx_packet.specs.Parity.{is_odd, odd_parity_byte}

abbrev pub shift_right_by : ℕ → ℕ → ℕ
shift_right_by a b = a / 2 ^ b

abbrev pub up : ℕ → ℕ → ℕ
up a b = a * 2 ^ b % 2 ^ 8

pub lane_is_byte : (v : List ℕ) → Each1 (Fits w8) v → (i : ℕ) → get_or v i 0 < 0x100
lane_is_byte [] h i = omega arith
lane_is_byte (x ∷ xs) h i = grind (arith, nat_tests, lane_is_byte xs h.1)

equal_functions_map_equally : {X : Type 0} (f g : ℕ → X) (v : List ℕ) (n : ℕ)
    → ((x : ℕ) → x < n → f x ≡ g x)
    → ((i : ℕ) → get_or v i 0 < n)
    → map f v ≡ map g v
equal_functions_map_equally f g [] n same below = refl
equal_functions_map_equally f g (x ∷ xs) n same below =
    ap₂ (λ y ys. y ∷ ys) (same x (below 0)) (equal_functions_map_equally f g xs n same
    (λ i. below (suc i)))

pub lanes_swap_bits : (v : List ℕ) (n k m : ℕ) → length v ≡ n
    → zip2 bit_or (zip2 bit_and (zip2 shift_right_by v (replicate n k)) (replicate n m))
    (zip2 up (zip2 bit_and v (replicate n m)) (replicate n k)) ≡ map (swapped_bits k m) v
lanes_swap_bits v n k m long =
    let high : zip2 bit_and (zip2 shift_right_by v (replicate n k)) (replicate n m)
    ≡ map (λ x. bit_and (x / 2 ^ k) m) v =
    ap (λ l. zip2 bit_and l (replicate n m)) (zip2_splat shift_right_by v n k long)
    ∙ zip2_splat bit_and (map (λ x. shift_right_by x k) v) n m
    (length-map v (λ x. shift_right_by x k) ∙ long)
    ∙ map-map (λ x. bit_and x m) (λ x. shift_right_by x k) v
    in
    let low : zip2 up (zip2 bit_and v (replicate n m)) (replicate n k)
    ≡ map (λ x. bit_and x m * 2 ^ k % 2 ^ 8) v =
    ap (λ l. zip2 up l (replicate n k)) (zip2_splat bit_and v n m long)
    ∙ zip2_splat up (map (λ x. bit_and x m) v) n k (length-map v (λ x. bit_and x m) ∙ long)
    ∙ map-map (λ x. up x k) (λ x. bit_and x m) v
    in
    zip2_of_maps bit_or (λ x. bit_and (x / 2 ^ k) m) (λ x. bit_and x m * 2 ^ k % 2 ^ 8) v high low

abbrev mirror_by_swaps : ℕ → ℕ
mirror_by_swaps x = swapped_bits 1 0x55 (swapped_bits 2 0x33 (swapped_bits 4 0x0F x))

-- The three swapping steps reverse the bits of a byte, checked for all 256 bytes.
mirror_by_swaps_is_correct : (x : ℕ) → x < 0x100 → mirror_by_swaps x ≡ mirror x
unfolding mirror
mirror_by_swaps_is_correct x l =
    eqb-true _ _ (agree_below_at (λ x. nat_eq (mirror_by_swaps x) (mirror x)) (λ x. true) 0x100 x
    refl l)

pub swaps_mirror_lanes : (v a b c : List ℕ)
    → ((i : ℕ) → get_or v i 0 < 0x100)
    → a ≡ map (swapped_bits 4 0x0F) v
    → b ≡ map (swapped_bits 2 0x33) a
    → c ≡ map (swapped_bits 1 0x55) b
    → c ≡ map mirror v
swaps_mirror_lanes v a b c fits ea eb ec =
    rw (ec, eb, ea, map-map, map-map) (equal_functions_map_equally mirror_by_swaps mirror v 0x100
    mirror_by_swaps_is_correct fits)

pub lanes_fold_bits : (v : List ℕ) (n k : ℕ) → length v ≡ n
    → zip2 bit_xor v (zip2 shift_right_by v (replicate n k)) ≡ map (folded_bits k) v
lanes_fold_bits v n k long =
    zip2_of_maps bit_xor (λ x. x) (λ x. shift_right_by x k) v (sym (map-id v))
    (zip2_splat shift_right_by v n k long)

abbrev pub fold_all_bits : ℕ → ℕ
fold_all_bits x = folded_bits 1 (folded_bits 2 (folded_bits 4 x))

pub folding_applies_per_lane : (v a b c : List ℕ)
    → a ≡ map (folded_bits 4) v
    → b ≡ map (folded_bits 2) a
    → c ≡ map (folded_bits 1) b
    → c ≡ map fold_all_bits v
folding_applies_per_lane v a b c ea eb ec = rw (ec, eb, ea, map-map, map-map)

abbrev folded_parity_bit : ℕ → ℕ
folded_parity_bit x = bit_and (fold_all_bits x) 1

-- After the three folding steps the lowest bit is 0 exactly for bytes with an even number of ones,
-- checked for all 256 bytes.
folded_bit_tests_parity : (x : ℕ) → x < 0x100 → nat_eq (folded_parity_bit x) 0 ≡ has_even_parity x
unfolding is_odd count_ones ones_in
folded_bit_tests_parity x l = agree_below_at (λ x. nat_eq (folded_parity_bit x) 0) has_even_parity
    0x100 x refl l

pub even_parity_mask_is_correct : (v a b c : List ℕ)
    → length v ≡ 16
    → ((i : ℕ) → get_or v i 0 < 0x100)
    → a ≡ map (folded_bits 4) v
    → b ≡ map (folded_bits 2) a
    → c ≡ map (folded_bits 1) b
    → mask_l (map (top 7) (zip2 (λ x y. cond (nat_eq x y) (2 ^ 8 - 1) 0)
    (zip2 bit_and c (replicate 16 1)) (replicate 16 0))) % 2 ^ 64 ≡ even_parity_flags v
even_parity_mask_is_correct v a b c long fits ea eb ec =
    let whole = folding_applies_per_lane v a b c ea eb ec in
    let size : length c ≡ 16 = ap length whole ∙ length-map v fold_all_bits ∙ long in
    let bits : zip2 bit_and c (replicate 16 1) ≡ map folded_parity_bit v =
    zip2_splat bit_and c 16 1 size
    ∙ ap (map (λ x. bit_and x 1)) whole
    ∙ map-map (λ x. bit_and x 1) fold_all_bits v
    in
    bitmask_splat w8 nat_eq (zip2 bit_and c (replicate 16 1)) 16 0
    (ap length bits ∙ length-map v folded_parity_bit ∙ long) (omega arith)
    ∙ ap mask_l
    (ap (map (λ x. nat_eq x 0)) bits
    ∙ map-map (λ x. nat_eq x 0) folded_parity_bit v
    ∙ equal_functions_map_equally (λ x. nat_eq (folded_parity_bit x) 0) has_even_parity v 0x100
    folded_bit_tests_parity fits)

abbrev code_with_parity : ℕ → ℕ
code_with_parity x = bit_or x (bit_xor (fold_all_bits x) 1 * 2 ^ 7 % 2 ^ 8)

-- Setting bit 8 by the folded bits gives each code its byte of odd parity, checked for all 128
-- codes.
code_with_parity_is_odd : (x : ℕ) → x < 0x80 → code_with_parity x ≡ odd_parity_byte x
unfolding is_odd count_ones ones_in
code_with_parity_is_odd x l =
    eqb-true _ _ (agree_below_at (λ x. nat_eq (code_with_parity x) (odd_parity_byte x)) (λ x. true)
    0x80 x refl l)

pub lanes_add_odd_parity : (v a b c : List ℕ)
    → length v ≡ 16
    → ((i : ℕ) → get_or v i 0 < 0x80)
    → a ≡ map (folded_bits 4) v
    → b ≡ map (folded_bits 2) a
    → c ≡ map (folded_bits 1) b
    → zip2 bit_or v (zip2 up (zip2 bit_xor c (replicate 16 1)) (replicate 16 7)) ≡ map
    odd_parity_byte v
lanes_add_odd_parity v a b c long codes ea eb ec =
    let whole = folding_applies_per_lane v a b c ea eb ec in
    let size : length c ≡ 16 = ap length whole ∙ length-map v fold_all_bits ∙ long in
    let turned : ℕ → ℕ = λ x. bit_xor (fold_all_bits x) 1 in
    let bits : zip2 bit_xor c (replicate 16 1) ≡ map turned v =
    zip2_splat bit_xor c 16 1 size
    ∙ ap (map (λ x. bit_xor x 1)) whole
    ∙ map-map (λ x. bit_xor x 1) fold_all_bits v
    in
    let tops : zip2 up (zip2 bit_xor c (replicate 16 1)) (replicate 16 7)
    ≡ map (λ x. up (turned x) 7) v =
    ap (λ l. zip2 up l (replicate 16 7)) bits
    ∙ zip2_splat up (map turned v) 16 7 (length-map v turned ∙ long)
    ∙ map-map (λ x. up x 7) turned v
    in
    zip2_of_maps bit_or (λ x. x) (λ x. up (turned x) 7) v (sym (map-id v)) tops
    ∙ equal_functions_map_equally code_with_parity odd_parity_byte v 0x80 code_with_parity_is_odd
    codes
