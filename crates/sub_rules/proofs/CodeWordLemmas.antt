-- The tests for Hamming 8/4 code words decide whether the coded bytes of a packet are code words.
use Rattle.std.proofs.lemmas.Bool.Decides.{Decides-below_and, Decides-below_or}
use Rattle.std.proofs.lemmas.Bool.Decides.{Decides-eqb, Decides-like}
use Rattle.std.proofs.Common.{◌≡◌, ℕ, ◌+◌, ◌-◌, ◌<◌, ◌==◌, List, slice_index, refl, arith, subst}
use Rattle.std.specs.Bool.{Decides}
use Rattle.ttx_packet.specs.Hamming84.{IsCodeWord, code_word}
use Rattle.ttx_packet.specs.PacketAddress.{HasExactAddress}
use Rattle.ttx_packet.specs.PageHeader.{HasExactHeader}
use Rattle.sub_rules.specs.PacketTests.{are_code_words, is_word_below}

code_word_test_is_exact : (b : ℕ) → Decides (is_word_below b 16) (IsCodeWord b)
unfolding is_word_below
code_word_test_is_exact b =
    Decides-below_or (λ n. b == code_word n) (λ n. b ≡ code_word n) (is_word_below b)
    (λ n. Decides-eqb b (code_word n)) refl (λ _. refl) 16

code_words_decided :
    (from n : ℕ) (p : List ℕ)
    → Decides (are_code_words from n p) ((k : ℕ) → k < n → IsCodeWord (slice_index p (from + k)))
unfolding are_code_words
code_words_decided from n p =
    Decides-below_and (λ k. is_word_below (slice_index p (from + k)) 16)
    (λ k. IsCodeWord (slice_index p (from + k))) (λ m. are_code_words from m p)
    (λ k. code_word_test_is_exact (slice_index p (from + k))) refl (λ _. refl) n

pub address_test_is_exact : (p : List ℕ) → Decides (are_code_words 0 2 p) (HasExactAddress p)
address_test_is_exact p =
    Decides-like (are_code_words 0 2 p)
    (λ h k l.
    let here : 0 + k ≡ k = omega arith in subst (λ n. IsCodeWord (slice_index p n)) here (h k l))
    (λ h k l. h (0 + k) (omega arith))
    (code_words_decided 0 2 p)

pub header_test_is_exact : (p : List ℕ) → Decides (are_code_words 2 8 p) (HasExactHeader p)
header_test_is_exact p =
    Decides-like (are_code_words 2 8 p)
    (λ h k low high.
    let here : 2 + (k - 2) ≡ k = omega arith in
    subst (λ n. IsCodeWord (slice_index p n)) here (h (k - 2) (omega arith)))
    (λ h k l. h (2 + k) (omega arith) (omega arith))
    (code_words_decided 2 8 p)
