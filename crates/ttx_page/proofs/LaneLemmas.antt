-- Comparing two rows in blocks gives the first differing column; counting the ones of the masks
-- gives the number of differing cells.
use Rattle.std.proofs.Common.{◌≡◌, ◌≢◌, ℕ, zero, suc, ◌+◌, ◌-◌, ◌^◌, ◌%◌, ◌<◌, ◌≤◌, cond, false}
use Rattle.std.proofs.Common.{List, map, length, get_or, take, take_all, sym, ap, ap₂, ◌∙◌, arith}
use Rattle.std.proofs.Common.{add-one, w8}
use Rattle.std.proofs.lemmas.Bool.Decides.{nat_tests}
use Rattle.std.proofs.lemmas.List.{map-id, ext_get_or}
use Rattle.std.proofs.lemmas.List.Sums.{sum_by_more}
use Rattle.std.proofs.lemmas.Simd.{length-zip2, get_or-zip2, length-chunk, get_or-chunk, mask_l-mod}
use Rattle.std.proofs.lemmas.Simd.{tops_compared, ones-mask_l}
use Rattle.std.specs.List.{count_by}
use Rattle.std.specs.Int.RustNames.{count_ones}
use lib.Lanes.{zip2, mask_l, top, chunk}
use Rattle.ttx_packet.proofs.BlockLemmas.{IsFirstMatch}
use Rattle.ttx_page.specs.Lanes.{differ, differing_mask}
use Rattle.ttx_page.specs.Differing.{differing_column_count}
use Rattle.ttx_page.proofs.DifferingLemmas.{no_columns_no_difference, next_column_adds_difference}

pub compare_mask_is_correct : (a b : List ℕ) (n : ℕ)
    → length a ≡ n
    → length b ≡ n
    → n ≤ 64
    → mask_l (map (top 7) (zip2 (λ x y. cond (differ x y) (2 ^ 8 - 1) 0) a b)) % 2 ^ 64
    ≡ differing_mask a b
compare_mask_is_correct a b n p q l =
    let size : length (zip2 differ a b) ≤ 64 = grind (arith, nat_tests, length-zip2) in
    ap (λ m. mask_l m % 2 ^ 64) (tops_compared w8 differ a b) ∙ mask_l-mod _ 64 size

compare_tests_count_columns : (a b : List ℕ) (k : ℕ)
    → k ≤ length a
    → length a ≡ length b
    → count_by (λ x. x) (take k (zip2 differ a b)) ≡ differing_column_count k a b
compare_tests_count_columns a b zero l e = sym (no_columns_no_difference a b)
compare_tests_count_columns a b (suc k) l e =
    let before = compare_tests_count_columns a b k (omega arith) e in
    let within : k < length (zip2 differ a b) = omega (arith, length-zip2 differ a b e) in
    let test = get_or-zip2 differ a b k 0 0 false (omega arith) (omega arith) in
    let counted = sum_by_more (λ x. cond x 1 0) (zip2 differ a b) k false within in
    let more = next_column_adds_difference k a b in
    rw (← add-one) (grind (arith, nat_tests))

pub mask_ones_count_columns : (a b : List ℕ) (n : ℕ)
    → length a ≡ n
    → length b ≡ n
    → n ≤ 64
    → count_ones
    (mask_l (map (top 7) (zip2 (λ x y. cond (differ x y) (2 ^ 8 - 1) 0) a b)) % 2 ^ 64)
    ≡ differing_column_count n a b
mask_ones_count_columns a b n p q l =
    let ms = zip2 differ a b in
    let size : length ms ≡ n = length-zip2 differ a b (p ∙ sym q) ∙ p in
    ap count_ones (compare_mask_is_correct a b n p q l ∙ ap mask_l (sym (map-id ms)))
    ∙ ones-mask_l (λ x. x) ms
    ∙ ap (count_by (λ x. x)) (sym (take_all n ms (omega (arith, size))))
    ∙ compare_tests_count_columns a b n (omega (arith, p)) (p ∙ sym q)

pub chunk_adds_differing_columns : (xs ys : List ℕ) (a n k : ℕ)
    → k ≤ n
    → differing_column_count (a + k) xs ys
    ≡ differing_column_count a xs ys + differing_column_count k (chunk a n xs) (chunk a n ys)
chunk_adds_differing_columns xs ys a n zero l =
    let none = no_columns_no_difference (chunk a n xs) (chunk a n ys) in grind arith
chunk_adds_differing_columns xs ys a n (suc k) l =
    let before = chunk_adds_differing_columns xs ys a n k (omega arith) in
    let whole = next_column_adds_difference (a + k) xs ys in
    let part = next_column_adds_difference k (chunk a n xs) (chunk a n ys) in
    let first = get_or-chunk a n xs k 0 (omega arith) in
    let second = get_or-chunk a n ys k 0 (omega arith) in
    let next : a + suc k ≡ a + k + 1 = omega arith in
    rw (next, ← add-one) (grind (arith, nat_tests))

block_tests_are_chunk : (xs ys : List ℕ) (a : ℕ)
    → length xs ≡ length ys
    → a + 16 ≤ length xs
    → zip2 differ (chunk a 16 xs) (chunk a 16 ys) ≡ chunk a 16 (zip2 differ xs ys)
block_tests_are_chunk xs ys a same room =
    let first = length-chunk a 16 xs room in
    let second = length-chunk a 16 ys (omega arith) in
    let tests = length-zip2 differ xs ys same in
    let whole = length-chunk a 16 (zip2 differ xs ys) (omega arith) in
    let size = length-zip2 differ (chunk a 16 xs) (chunk a 16 ys) (first ∙ sym second) in
    ext_get_or false _ _ (size ∙ first ∙ sym whole)
    (λ k l.
    get_or-zip2 differ (chunk a 16 xs) (chunk a 16 ys) k 0 0 false (omega (arith, size))
    (omega (arith, size))
    ∙ ap₂ differ (get_or-chunk a 16 xs k 0 (omega (arith, size)))
    (get_or-chunk a 16 ys k 0 (omega (arith, size)))
    ∙ sym
    (get_or-chunk a 16 (zip2 differ xs ys) k false (omega (arith, size))
    ∙ get_or-zip2 differ xs ys (a + k) 0 0 false (omega (arith, size)) (omega (arith, size))))

pub block_mask_is_correct : (xs ys : List ℕ) (a : ℕ)
    → length xs ≡ length ys
    → a + 16 ≤ length xs
    → differing_mask (chunk a 16 xs) (chunk a 16 ys)
    ≡ mask_l (map (λ x. x) (chunk a 16 (zip2 differ xs ys)))
block_mask_is_correct xs ys a same room = ap mask_l (block_tests_are_chunk xs ys a same room ∙ sym
    (map-id _))

pub first_test_gives_column : (xs ys : List ℕ) (column : ℕ)
    → length xs ≡ 40
    → length ys ≡ 40
    → column < 40
    → IsFirstMatch (λ x. x) (zip2 differ xs ys) column false
    → (column < 40)
    × (get_or xs column 0 ≢ get_or ys column 0)
    × ((k : ℕ) → k < column → get_or xs k 0 ≡ get_or ys k 0)
first_test_gives_column xs ys column long long-2 within first =
    let test = λ (k : ℕ). get_or-zip2 differ xs ys k 0 0 false in
    grind (arith, nat_tests, get_or-zip2)

pub equal_tests_give_equal_rows : (xs ys : List ℕ)
    → length xs ≡ length ys
    → ((k : ℕ) → k < length xs → get_or (zip2 differ xs ys) k false ≡ false)
    → xs ≡ ys
equal_tests_give_equal_rows xs ys same none =
    ext_get_or 0 xs ys same
    (λ k l.
    let there = get_or-zip2 differ xs ys k 0 0 false l (omega arith) in
    let fails = none k l in
    grind (arith, nat_tests))
