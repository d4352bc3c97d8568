-- If a list is processed in blocks of 16 items, the masks of the blocks give the first item that
-- passes a test.
use Rattle.std.proofs.Common.{◌≡◌, ℕ, zero, suc, ◌+◌, ◌*◌, ◌/◌, ◌^◌, ◌<◌, ◌≤◌, Bool, true, false}
use Rattle.std.proofs.Common.{not, List, [], ◌++◌, map, length, get_or, take, drop, sym, ap, ap₂}
use Rattle.std.proofs.Common.{◌∙◌, take_all, arith, w16}
use Rattle.std.proofs.lemmas.Bool.Decides.{nat_tests}
use Rattle.std.proofs.lemmas.List.{map-append, drop-drop, get_or_past, length-map, length-drop}
use Rattle.std.proofs.lemmas.Nat.Bits.{bit_at-trailing_zeros}
use Rattle.std.proofs.lemmas.Simd.{length-chunk, get_or-chunk, mask_l-lt, trailing_mask_l}
use Rattle.std.proofs.lemmas.Simd.{none_from_empty_mask, run_in_chunk_stops, run_in_chunk_fails}
use Rattle.std.proofs.lemmas.Slice.{take-put_mid}
use Rattle.std.specs.List.{prefix_len}
use Rattle.std.specs.Simd.{first_chunks}
use borrow.Rule.Slice.PartMut.{mid_of, put_mid, same_len_mid}
use lib.Count.{count_trailing_zeros}
use lib.Seq.{take-add}
use lib.Lanes.{chunk, mask_l}

pub chunk_at_index : (n k : ℕ) (xs : List ℕ) (i : ℕ) → i < k
    → get_or (first_chunks n k xs) i [] ≡ chunk (n * i) n xs
chunk_at_index n zero xs i l = absurd (omega arith)
chunk_at_index n (suc k) xs zero l = let e : 0 ≡ n * 0 = omega arith in ap (λ m. take n (drop m xs))
    e
chunk_at_index n (suc k) xs (suc i) l =
    let e : n + n * i ≡ n * suc i = omega arith in
    chunk_at_index n k (drop n xs) i (omega arith)
    ∙ ap (take n) (drop-drop (n * i) n xs ∙ ap (λ m. drop m xs) e)

pub block_is_chunk : (blocks : List (List ℕ)) (n : ℕ) (xs : List ℕ) (i : ℕ)
    → blocks ≡ first_chunks n (length xs / n) xs
    → i < length xs / n
    → get_or blocks i [] ≡ chunk (n * i) n xs
block_is_chunk blocks n xs i e l = rw e (chunk_at_index n (length xs / n) xs i l)

pub suffix_is_last_chunk : (a n : ℕ) (xs ys : List ℕ)
    → length xs ≡ a + n
    → ys ≡ drop a xs
    → ys ≡ chunk a n xs
suffix_is_last_chunk a n xs ys size e = grind (arith, nat_tests, take_all, length-drop)

pub chunk_keeps_upper_bound : (b a n : ℕ) (xs : List ℕ)
    → a + n ≤ length xs
    → ((k : ℕ) → get_or xs k 0 < b)
    → (k : ℕ)
    → get_or (chunk a n xs) k 0 < b
chunk_keeps_upper_bound b a n xs room below k =
    let here = below (a + k) in grind (arith, nat_tests, get_or-chunk, get_or_past, length-chunk)

-- The list `out` has n elements, and its first `to` elements are the results of f for those of
-- `xs`.
pub record IsMappedPrefix (f : ℕ → ℕ) (xs : List ℕ) (n to : ℕ) (out : List ℕ) : Type 0 where
  pub size : length out ≡ n
  pub done : take to out ≡ map f (take to xs)

pub mapping_block_extends_prefix : (f : ℕ → ℕ) (xs out ys : List ℕ) (n a w k m : ℕ)
    → m ≡ a + w
    → k ≡ w
    → length xs ≡ n
    → m ≤ n
    → ys ≡ map f (chunk a w xs)
    → IsMappedPrefix f xs n a out
    → IsMappedPrefix f xs n m (put_mid a k out ys)
mapping_block_extends_prefix f xs out ys n a w k m e width size room block to =
    let long : length ys ≡ w =
    ap length block ∙ length-map (chunk a w xs) f ∙ length-chunk a w xs (omega arith) in
    let middle : length (mid_of a k out) ≡ k = length-chunk a k out (omega (arith, to.size)) in
    record {
      size = same_len_mid a k out ys (long ∙ sym (middle ∙ width)) ∙ to.size;
      done = take-put_mid a k out ys m (e ∙ ap (λ n. a + n) (sym long)) (omega (arith, to.size))
          ∙ ap₂ (λ x y. x ++ y) to.done block
          ∙ sym (map-append f (take a xs) (chunk a w xs))
          ∙ ap (map f) (sym (take-add a w xs) ∙ ap (λ n. take n xs) (sym e));
    }

pub full_prefix_is_mapped : (f : ℕ → ℕ) (xs out : List ℕ) (n : ℕ)
    → length xs ≡ n
    → IsMappedPrefix f xs n n out
    → out ≡ map f xs
full_prefix_is_mapped f xs out n size to = grind (arith, nat_tests, take_all)

-- If the mask of a block is zero and no item before the block passes the test, no item up to the
-- end of the block passes.
pub zero_mask_extends_search : {X : Type 0} (p : X → Bool) (xs : List X) (a m : ℕ) (d : X)
    → a + 16 ≤ length xs
    → m ≡ mask_l (map p (chunk a 16 xs))
    → m ≡ 0
    → ((k : ℕ) → k < a → p (get_or xs k d) ≡ false)
    → (k : ℕ)
    → k < a + 16
    → p (get_or xs k d) ≡ false
zero_mask_extends_search p xs a m d room e zeroes before k l =
    grind (arith, nat_tests, none_from_empty_mask p xs a 16 d room (sym e ∙ zeroes) k)

-- The item at `place` is the first item of the list that passes the test.
pub record IsFirstMatch {X : Type 0} (p : X → Bool) (xs : List X) (place : ℕ) (d : X) : Type 0 where
  pub passes : p (get_or xs place d) ≡ true
  pub before : (k : ℕ) → k < place → p (get_or xs k d) ≡ false

-- If the mask of a block is not zero and no item before the block passes the test, its lowest set
-- bit gives the first item that passes.
pub nonzero_mask_gives_first : {X : Type 0} (p : X → Bool) (xs : List X) (a m : ℕ) (d : X)
    → a + 16 ≤ length xs
    → m ≡ mask_l (map p (chunk a 16 xs))
    → (m ≡ 0 → ⊥)
    → ((k : ℕ) → k < a → p (get_or xs k d) ≡ false)
    → (count_trailing_zeros 64 m < 16) × IsFirstMatch p xs (a + count_trailing_zeros 64 m) d
nonzero_mask_gives_first p xs a m d room e some before =
    let block = chunk a 16 xs in
    let size : length (map p block) ≡ 16 = length-map block p ∙ length-chunk a 16 xs room in
    let mask = mask_l (map p block) in
    let positive : 0 < mask = omega (arith, some, e) in
    let short : length block ≤ 16 = omega (arith, length-chunk a 16 xs room) in
    let counted : count_trailing_zeros 64 m ≡ prefix_len (λ x. not (p x)) block =
    ap (count_trailing_zeros 64) e ∙ trailing_mask_l p 64 block (omega arith) positive in
    let narrow = trailing_mask_l p 16 block short positive in
    let small : mask < 2 ^ 16 = rw size at (mask_l-lt (map p block)) in
    let lowest = (bit_at-trailing_zeros w16 mask positive small).0 in
    let within : count_trailing_zeros 64 m < 16 = omega (arith, lowest, narrow, counted) in (
      within,
      record {
        passes = run_in_chunk_stops p xs a 16 (count_trailing_zeros 64 m) d room counted within;
        before = λ k l.
            let earlier = before k in
            let here = run_in_chunk_fails p xs a 16 (count_trailing_zeros 64 m) d room counted k in
            grind arith;
      },
    )
