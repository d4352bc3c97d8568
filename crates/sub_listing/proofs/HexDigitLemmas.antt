-- Looking up hexadecimal digits in a table and interleaving them, 16 bytes at a time, gives the two
-- digits of each byte in order.
use Rattle.std.proofs.Common.{◌≡◌, ℕ, zero, suc, ◌+◌, ◌*◌, ◌/◌, ◌%◌, ◌^◌, ◌<◌, ◌≤◌, List, [], ◌∷◌}
use Rattle.std.proofs.Common.{◌++◌, map, length, get_or, drop, replicate, bit_and, refl, sym, ap}
use Rattle.std.proofs.Common.{◌∙◌, subst, arith, w8, Fits, take, ap₂, take_all, length-drop}
use Rattle.std.proofs.lemmas.List.{get_or-map, length-map, ext_get_or, drop-drop, append_assoc}
use Rattle.std.proofs.lemmas.List.{take-append-drop}
use Rattle.std.proofs.Math.Seq.{drop-nil}
use Rattle.std.proofs.lemmas.Nat.{and_le_r}
use Rattle.std.proofs.lemmas.Simd.{Each1-all, Each1-weaker, Each1-zip2, Each2-splat, length-zip2}
use Rattle.std.proofs.lemmas.Simd.{below_from_Fits, swz_l, SwzOk, SwzOk-from_below, length-swz_l}
use Rattle.std.proofs.lemmas.Simd.{get_or-swz_l_below, pick_l_whole}
use lib.Lanes.{zip2, pick_l, Each1}
use Rattle.hex.specs.Hex.{encode_with}
use Rattle.hex.proofs.HexLemmas.{length-encode_with}

abbrev pub shift_right_value : ℕ → ℕ → ℕ
shift_right_value a b = a / 2 ^ b

pub upper_digits_are_valid_indices : (v : List ℕ) → length v ≡ 16 → Each1 (Fits w8) v
    → SwzOk w8 16 16 0 (zip2 shift_right_value v (replicate 16 4))
upper_digits_are_valid_indices v long fits =
    let small =
    Each1-weaker (λ a. a < 256) (λ a. a / 16 < 16) (λ a h. omega arith) v
    (below_from_Fits w8 v fits)
    in
    SwzOk-from_below w8 16 1 16 0 (zip2 shift_right_value v (replicate 16 4)) refl
    (omega (arith, length-zip2 shift_right_value v (replicate 16 4) long))
    (Each1-zip2 shift_right_value (λ j. j < 16) v (replicate 16 4)
    (Each2-splat (λ a b. shift_right_value a b < 16) v 16 4 small))

pub lower_digits_are_valid_indices : (v : List ℕ) → length v ≡ 16
    → SwzOk w8 16 16 0 (zip2 bit_and v (replicate 16 15))
lower_digits_are_valid_indices v long =
    let small = Each1-all (λ a. bit_and a 15 < 16) (λ a. omega (arith, and_le_r a 15)) v in
    SwzOk-from_below w8 16 1 16 0 (zip2 bit_and v (replicate 16 15)) refl
    (omega (arith, length-zip2 bit_and v (replicate 16 15) long))
    (Each1-zip2 bit_and (λ j. j < 16) v (replicate 16 15)
    (Each2-splat (λ a b. bit_and a b < 16) v 16 15 small))

pub swizzle_looks_up_digits : (t : List ℕ) (g : ℕ → ℕ) (v js : List ℕ)
    → length v ≡ 16
    → Each1 (Fits w8) v
    → js ≡ map g v
    → ((x : ℕ) → x < 256 → g x < 16)
    → swz_l w8 16 t 0 js ≡ map (λ x. get_or t (g x) 0) v
swizzle_looks_up_digits t g v js long fits e small =
    let size : length js ≡ 16 = ap length e ∙ length-map v g ∙ long in
    ext_get_or 0 _ _
    (length-swz_l w8 16 t 0 js ∙ size ∙ sym (length-map v (λ x. get_or t (g x) 0) ∙ long)) (λ i h.
    let lt : i < 16 = omega (arith, length-swz_l w8 16 t 0 js) in
    let within : i < length v = omega (arith, long) in
    let is : get_or js i 0 ≡ g (get_or v i 0) =
    ap (λ l. get_or l i 0) e ∙ get_or-map g v i 0 0 within in
    let below : get_or js i 0 < 16 = omega
    (arith, small (get_or v i 0) (lane_value_is_byte v i fits)) in
    let place : 16 * ((0 + i) / 16) + get_or js i 0 ≡ g (get_or v i 0) = omega arith in
    get_or-swz_l_below w8 16 t 0 js i (omega arith) below
    ∙ ap (λ k. get_or t k 0) place
    ∙ sym (get_or-map (λ x. get_or t (g x) 0) v i 0 0 within))
  where
    lane_value_is_byte : (v : List ℕ) (i : ℕ) → Each1 (Fits w8) v → get_or v i 0 < 256
    lane_value_is_byte [] i h = omega arith
    lane_value_is_byte (x ∷ xs) zero h = h.0.fits
    lane_value_is_byte (x ∷ xs) (suc i) h = lane_value_is_byte xs i h.1

abbrev interleaved_digits : List ℕ → List ℕ → List ℕ
interleaved_digits firsts seconds =
    pick_l 0 (firsts ++ seconds)
    (0 ∷ 16 ∷ 1 ∷ 17 ∷ 2 ∷ 18 ∷ 3 ∷ 19 ∷ 4 ∷ 20 ∷ 5 ∷ 21 ∷ 6 ∷ 22 ∷ 7 ∷ 23 ∷ [])
    ++ pick_l 0 (firsts ++ seconds)
    (8 ∷ 24 ∷ 9 ∷ 25 ∷ 10 ∷ 26 ∷ 11 ∷ 27 ∷ 12 ∷ 28 ∷ 13 ∷ 29 ∷ 14 ∷ 30 ∷ 15 ∷ 31 ∷ [])

pub interleaving_encodes_hex : (t v : List ℕ) → length v ≡ 16
    → interleaved_digits (map (λ b. get_or t (b / 16) 0) v) (map (λ b. get_or t (b % 16) 0) v)
    ≡ encode_with t v
unfolding encode_with
interleaving_encodes_hex t v long =
    subst (λ l. interleaved_digits (map (λ b. get_or t (b / 16) 0) l)
    (map (λ b. get_or t (b % 16) 0) l)
    ≡ encode_with t l)
    (pick_l_whole 0 v 16 long) refl

pub encode_with-append : (t xs ys : List ℕ)
    → encode_with t (xs ++ ys) ≡ encode_with t xs ++ encode_with t ys
unfolding encode_with
encode_with-append t [] ys = refl
encode_with-append t (b ∷ xs) ys =
    ap (λ l. get_or t (b / 16) 0 ∷ get_or t (b % 16) 0 ∷ l) (encode_with-append t xs ys)

pub drop-encode_with : (t xs : List ℕ) (n : ℕ)
    → drop (2 * n) (encode_with t xs) ≡ encode_with t (drop n xs)
unfolding encode_with
drop-encode_with t xs zero = refl
drop-encode_with t [] (suc n) = drop-nil (2 * suc n) ∙ ap (encode_with t) (sym (drop-nil (suc n)))
drop-encode_with t (b ∷ xs) (suc n) =
    let e : 2 * suc n ≡ suc (suc (2 * n)) = omega arith in
    ap (λ m. drop m (encode_with t (b ∷ xs))) e ∙ drop-encode_with t xs n

pub blocks_encode_all_digits : (t xs line one two three : List ℕ)
    → length xs ≡ 42
    → one ≡ line ++ encode_with t (take 16 xs)
    → two ≡ one ++ encode_with t (take 16 (drop 16 xs))
    → three ≡ two ++ take 20 (drop 12 (encode_with t (drop 26 xs)))
    → three ≡ line ++ encode_with t xs
blocks_encode_all_digits t xs line one two three long e1 e2 e3 =
    let first = encode_with t (take 16 xs) in
    let second = encode_with t (take 16 (drop 16 xs)) in
    let last = encode_with t (drop 32 xs) in
    let size : length last ≤ 20 =
    omega (arith, length-encode_with t (drop 32 xs), length-drop 32 xs) in
    let ends : take 20 (drop 12 (encode_with t (drop 26 xs))) ≡ last =
    ap (take 20) (drop-encode_with t (drop 26 xs) 6 ∙ ap (encode_with t) (drop-drop 6 26 xs))
    ∙ take_all 20 last size in
    let after : drop 16 xs ≡ take 16 (drop 16 xs) ++ drop 32 xs =
    sym (take-append-drop 16 (drop 16 xs))
    ∙ ap (λ l. take 16 (drop 16 xs) ++ l) (drop-drop 16 16 xs) in
    let whole : encode_with t xs ≡ first ++ (second ++ last) =
    ap (encode_with t) (sym (take-append-drop 16 xs))
    ∙ encode_with-append t (take 16 xs) (drop 16 xs)
    ∙ ap (λ l. first ++ l) (ap (encode_with t) after
    ∙ encode_with-append t (take 16 (drop 16 xs)) (drop 32 xs)) in
    e3
    ∙ ap₂ (λ x y. x ++ y) (e2 ∙ ap (λ l. l ++ second) e1) ends
    ∙ append_assoc (line ++ first) second last
    ∙ append_assoc line first (second ++ last)
    ∙ ap (λ l. line ++ l) (sym whole)
