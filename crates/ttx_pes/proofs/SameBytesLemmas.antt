-- Two slices are equal exactly if all their blocks are equal.
use Rattle.std.proofs.Common.{◌≡◌, ◌↔◌, ℕ, ◌+◌, ◌*◌, ◌≤◌, ◌^◌, ◌%◌, ◌-◌, Bool, true, List, []}
use Rattle.std.proofs.Common.{◌∷◌, ◌++◌, map, length, take, drop, cond, nat_eq, refl, sym, ap}
use Rattle.std.proofs.Common.{ap₂, ◌∙◌, ◌/◌, ◌<◌, ◌&&◌, arith, not, w8, eqb-true, eq-eqb}
use Rattle.std.proofs.Common.{take-append-drop, take_all, get_or}
use Rattle.std.proofs.lemmas.Bool.Decides.{nat_tests}
use Rattle.std.proofs.lemmas.List.{take-take}
use Rattle.std.specs.Simd.{first_chunks}
use Rattle.std.proofs.lemmas.Simd.{length-zip2, mask_l-mod, tops_compared}
use lib.Lanes.{zip2, mask_l, top, chunk}
use lib.Seq.{take-add}
use Rattle.ttx_packet.proofs.BlockLemmas.{chunk_at_index, block_is_chunk}

abbrev pub differ : ℕ → ℕ → Bool
differ x y = not (nat_eq x y)

equal_blocks_have_zero_mask : (a : List ℕ) → mask_l (zip2 differ a a) ≡ 0
equal_blocks_have_zero_mask [] = refl
equal_blocks_have_zero_mask (x ∷ a) = grind (arith, nat_tests, equal_blocks_have_zero_mask a)

zero_mask_means_equal : (a b : List ℕ) → length a ≡ length b → mask_l (zip2 differ a b) ≡ 0 → a ≡ b
zero_mask_means_equal [] [] l e = refl
zero_mask_means_equal [] (y ∷ b) l e = absurd (omega arith)
zero_mask_means_equal (x ∷ a) b l e = grind (arith, nat_tests, zero_mask_means_equal a)

pub block_comparison_is_correct : (n : ℕ) (a b : List ℕ)
    → n ≤ 64
    → length a ≡ n
    → length b ≡ n
    → (nat_eq
    (mask_l (map (top 7) (zip2 (λ x y. cond (differ x y) (2 ^ 8 - 1) 0) a b)) % 2 ^ 64) 0 ≡ true)
    ↔ (a ≡ b)
block_comparison_is_correct n a b few la lb =
    let size : length (zip2 differ a b) ≤ 64 = grind (arith, nat_tests, length-zip2) in
    let plain : mask_l (map (top 7) (zip2 (λ x y. cond (differ x y) (2 ^ 8 - 1) 0) a b)) % 2 ^ 64
    ≡ mask_l (zip2 differ a b) =
    ap (λ m. mask_l m % 2 ^ 64) (tops_compared w8 differ a b) ∙ mask_l-mod _ 64 size in
    grind (arith, nat_tests, zero_mask_means_equal, eqb-true, eq-eqb, equal_blocks_have_zero_mask)

more : (n at : ℕ) (a b : List ℕ)
    → take at a ≡ take at b
    → chunk at n a ≡ chunk at n b
    → take (at + n) a ≡ take (at + n) b
more n at a b prefix block = grind (arith, nat_tests, take-add at n a, take-add at n b)

pub equal_prefix_grows_by_256 : (a b : List ℕ) (i : ℕ)
    → take (256 * i) a ≡ take (256 * i) b
    → chunk (256 * i) 256 a ≡ chunk (256 * i) 256 b
    → take (256 * (i + 1)) a ≡ take (256 * (i + 1)) b
equal_prefix_grows_by_256 a b i prefix block =
    let e : 256 * i + 256 ≡ 256 * (i + 1) = omega arith in
    rw (← e) (more 256 (256 * i) a b prefix block)

pub equal_prefix_and_suffix : (a b : List ℕ) (m n : ℕ)
    → m ≤ n
    → take n a ≡ take n b
    → drop m a ≡ drop m b
    → a ≡ b
equal_prefix_and_suffix a b m n le prefix back =
    let first : take m a ≡ take m b =
    sym (take-take m n a le) ∙ ap (take m) prefix ∙ take-take m n b le in
    sym (take-append-drop m a) ∙ ap₂ (λ (x y : List ℕ). x ++ y) first back ∙ take-append-drop m b

four_equal_blocks_are_equal : (a b : List ℕ)
    → length a ≡ 256
    → length b ≡ 256
    → chunk (64 * 0) 64 a ≡ chunk (64 * 0) 64 b
    → chunk (64 * 1) 64 a ≡ chunk (64 * 1) 64 b
    → chunk (64 * 2) 64 a ≡ chunk (64 * 2) 64 b
    → chunk (64 * 3) 64 a ≡ chunk (64 * 3) 64 b
    → a ≡ b
four_equal_blocks_are_equal a b la lb c0 c1 c2 c3 =
    let whole = more 64 192 a b (more 64 128 a b (more 64 64 a b (more 64 0 a b refl c0) c1) c2) c3
    in sym (take_all 256 a (omega (arith, la))) ∙ whole ∙ take_all 256 b (omega (arith, lb))

both : (x y : Bool) → (x && y) ≡ true → (x ≡ true) × (y ≡ true)
both x y h1 = grind (arith, nat_tests)

pub four_block_tests_are_correct : (a b : List ℕ) (xs ys : List (List ℕ)) (p q r s : Bool)
    → length a ≡ 256
    → length b ≡ 256
    → xs ≡ first_chunks 64 (length a / 64) a
    → ys ≡ first_chunks 64 (length b / 64) b
    → ((p ≡ true) ↔ (get_or xs 0 [] ≡ get_or ys 0 []))
    → ((q ≡ true) ↔ (get_or xs 1 [] ≡ get_or ys 1 []))
    → ((r ≡ true) ↔ (get_or xs 2 [] ≡ get_or ys 2 []))
    → ((s ≡ true) ↔ (get_or xs 3 [] ≡ get_or ys 3 []))
    → ((((p && q) && r) && s) ≡ true) ↔ (a ≡ b)
four_block_tests_are_correct a b xs ys p q r s la lb of_a of_b is_p is_q is_r is_s = (
  λ all.
      let pqr = both ((p && q) && r) s all in
      let pq = both (p && q) r pqr.0 in
      let one = both p q pq.0 in
      let block : (i : ℕ) → i < 4 → get_or xs i [] ≡ get_or ys i []
      → chunk (64 * i) 64 a ≡ chunk (64 * i) 64 b =
      λ i l e. sym (block_is_chunk xs 64 a i of_a (rw la l)) ∙ e
      ∙ block_is_chunk ys 64 b i of_b (rw lb l) in
      four_equal_blocks_are_equal a b la lb
      (block 0 (omega arith) (is_p.0 one.0)) (block 1 (omega arith) (is_q.0 one.1))
      (block 2 (omega arith) (is_r.0 pq.1)) (block 3 (omega arith) (is_s.0 pqr.1)),
  λ e.
      let blocks : xs ≡ ys =
      of_a ∙ ap (λ (l : List ℕ). first_chunks 64 (length l / 64) l) e ∙ sym of_b in
      let each : (i : ℕ) → get_or xs i [] ≡ get_or ys i [] = λ i. ap (λ l. get_or l i []) blocks in
      rw (is_p.1 (each 0), is_q.1 (each 1), is_r.1 (each 2), is_s.1 (each 3)) refl,
)

pub payload_comparison_is_correct : (a b : List ℕ) (xs ys : List (List ℕ))
    → length a ≡ 139
    → length b ≡ 139
    → xs ≡ first_chunks 64 (length a / 64) a
    → ys ≡ first_chunks 64 (length b / 64) b
    → get_or xs 0 [] ≡ get_or ys 0 []
    → get_or xs 1 [] ≡ get_or ys 1 []
    → drop 123 a ≡ drop 123 b
    → a ≡ b
payload_comparison_is_correct a b xs ys la lb of_a of_b first second last =
    let block : (i : ℕ) → i < 2 → get_or xs i [] ≡ get_or ys i []
    → chunk (64 * i) 64 a ≡ chunk (64 * i) 64 b =
    λ i l e. sym (block_is_chunk xs 64 a i of_a (rw la l)) ∙ e ∙ block_is_chunk ys 64 b i of_b
    (rw lb l) in
    let prefix = more 64 64 a b (more 64 0 a b refl (block 0 (omega arith) first))
    (block 1 (omega arith) second) in
    equal_prefix_and_suffix a b 123 128 (omega arith) prefix last

pub ruleset same_blocks = (chunk_at_index, equal_prefix_grows_by_256, equal_prefix_and_suffix)
