-- The text of a block ends before the first unused space (8F) of its text field.
use Rattle.std.proofs.Common.{◌≡◌, ℕ, true, List, [], ◌∷◌, ◌++◌, length, refl, append_assoc, arith}
use Rattle.std.proofs.Common.{take, drop, zero, suc, ◌+◌, ◌<◌, ◌≤◌, get_or, replicate}
use Rattle.std.specs.List.{flat_map}
use Rattle.std.proofs.lemmas.List.{append-nil, length-drop, drop_all, drop_more, take_all}
use Rattle.std.proofs.lemmas.List.{take_more}
use Rattle.std.proofs.lemmas.Bool.{ne_eqb}
use Rattle.std.proofs.lemmas.Bool.Decides.{nat_tests}
use Rattle.stl_file.specs.Tti.{text_of_block, unused_space, tf, bytes_before_unused_space}
use Rattle.stl_file.specs.Subtitle.{has_no_unused_space}

pub used_text_grows : (xs : List ℕ) (i : ℕ)
    → i < length xs
    → (get_or xs i 0 ≡ unused_space → ⊥)
    → take (i + 1) xs ++ bytes_before_unused_space (drop (i + 1) xs) ≡ take i xs ++
    bytes_before_unused_space (drop i xs)
used_text_grows xs i lt ne =
    rw (take_more xs i 0 lt, append_assoc, drop_more xs i 0 lt, ne_eqb _ unused_space ne) refl

pub used_text_ends_at_unused : (xs : List ℕ) (i : ℕ)
    → i < length xs
    → get_or xs i 0 ≡ unused_space
    → take i xs ++ bytes_before_unused_space (drop i xs) ≡ take i xs
used_text_ends_at_unused xs i lt e = rw (drop_more xs i 0 lt, e) (append-nil (take i xs))

pub used_text_ends_with_field : (xs : List ℕ) (i : ℕ)
    → length xs ≤ i
    → take i xs ++ bytes_before_unused_space (drop i xs) ≡ take (length xs) xs
used_text_ends_with_field xs i le = grind (arith, nat_tests, drop_all, take_all, append-nil)

pub ruleset used = (used_text_grows, used_text_ends_at_unused, used_text_ends_with_field)

pub has_no_unused_space-append : (xs ys : List ℕ)
    → has_no_unused_space xs ≡ true
    → has_no_unused_space ys ≡ true
    → has_no_unused_space (xs ++ ys) ≡ true
has_no_unused_space-append [] ys h k = k
has_no_unused_space-append (x ∷ xs) ys h k = grind (
  arith,
  nat_tests,
  has_no_unused_space-append xs
      ys,
)

pub has_no_unused_space-bytes_before_unused_space : (xs : List ℕ) → has_no_unused_space
    (bytes_before_unused_space xs) ≡ true
has_no_unused_space-bytes_before_unused_space [] = refl
has_no_unused_space-bytes_before_unused_space (x ∷ xs) = grind
    (arith, nat_tests, has_no_unused_space-bytes_before_unused_space xs)

pub ruleset cleaned = (has_no_unused_space-append, has_no_unused_space-bytes_before_unused_space)

pub has_no_unused_space-texts : (g : List (List ℕ)) → has_no_unused_space (flat_map text_of_block g)
    ≡ true
has_no_unused_space-texts [] = refl
has_no_unused_space-texts (b ∷ g) =
    has_no_unused_space-append (text_of_block b) (flat_map text_of_block g)
    (has_no_unused_space-bytes_before_unused_space (tf b))
    (has_no_unused_space-texts g)

pub prefix_has_no_unused_space : (n : ℕ) (xs : List ℕ)
    → has_no_unused_space xs ≡ true
    → has_no_unused_space (take n xs) ≡ true
prefix_has_no_unused_space zero xs h = refl
prefix_has_no_unused_space (suc n) xs h = grind (arith, nat_tests, prefix_has_no_unused_space n)

pub suffix_has_no_unused_space : (n : ℕ) (xs : List ℕ)
    → has_no_unused_space xs ≡ true
    → has_no_unused_space (drop n xs) ≡ true
suffix_has_no_unused_space zero xs h = h
suffix_has_no_unused_space (suc n) xs h = grind (arith, nat_tests, suffix_has_no_unused_space n)

-- If a text without unused space is padded with unused space, the bytes before the first unused
-- space are the text.
pub padding_is_unused_space : (xs : List ℕ) (k : ℕ)
    → has_no_unused_space xs ≡ true
    → bytes_before_unused_space (xs ++ replicate k unused_space) ≡ xs
padding_is_unused_space [] zero h = refl
padding_is_unused_space [] (suc k) h = refl
padding_is_unused_space (x ∷ xs) k h = grind (arith, nat_tests, padding_is_unused_space xs k)

used_text_is_no_longer : (xs : List ℕ) → length (bytes_before_unused_space xs) ≤ length xs
used_text_is_no_longer [] = omega arith
used_text_is_no_longer (x ∷ xs) = grind (arith, nat_tests, used_text_is_no_longer xs)

pub block_text_fits_in_field : (b : List ℕ) → length b ≡ 128 → length (text_of_block b) ≤ 112
block_text_fits_in_field b size = omega (arith, used_text_is_no_longer (tf b), length-drop 16 b)
