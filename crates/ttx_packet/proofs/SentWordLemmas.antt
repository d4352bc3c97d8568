-- The table of code words in DVB bit order agrees with the definition of code words.
use Rattle.std.proofs.Common.{◌≡◌, ℕ, ◌<◌, Bool, ◌||◌, ◌&&◌, true, nat_eq, nat_le, nat_lt}
use Rattle.std.proofs.Common.{◌≤◌, get_or}
use Rattle.std.proofs.Common.{Some}
use Rattle.std.proofs.Common.{◌+◌, ◌*◌, ◌/◌, ◌%◌, inl, inr, zero, suc, List, map, length}
use Rattle.std.proofs.Common.{slice_index, refl, sym, ap, ◌∙◌, arith, eqb-true}
use Rattle.std.proofs.lemmas.List.{get_or-map}
use Rattle.std.proofs.lemmas.Bool.{agree_below_at, cases_eq, cases_lt}
use Rattle.std.proofs.lemmas.Bool.Decides.{nat_tests}
use Rattle.ttx_packet.specs.BitOrder.{mirror}
use Rattle.ttx_packet.specs.Hamming84.{IsCodeWord, code_word, decoded_nibble}
use Rattle.ttx_packet.specs.PacketAddress.{HasExactAddress, address, decoded_at}
use Rattle.ttx_packet.specs.PageHeader.{HasExactHeader, decoded_header, decoded_page}
use Rattle.ttx_packet.specs.declared.header.Header.{Header}
use Rattle.ttx_packet.specs.declared.sent_packet.TheConstants.{SENT_WORDS}
use Rattle.ttx_packet.proofs.BitOrderLemmas.{mirror-mirror}
use Rattle.ttx_packet.proofs.Hamming84Lemmas.{decoded_nibble-code_word}

pub sent_entry_is_bounded : (b : ℕ) → b < 0x100 → get_or SENT_WORDS b 0 ≤ 256
sent_entry_is_bounded b l =
    let passes = agree_below_at (λ b. nat_le (get_or SENT_WORDS b 0) 256) (λ b. true) 0x100 b refl l
    in
    grind (arith, nat_tests)

-- If the table entry of a byte is not 256, the byte with its bits reversed is the code word of the
-- entry; checked for all 256 bytes.
sent_entry_gives_code_word : (b : ℕ) → b < 0x100 → (get_or SENT_WORDS b 0 ≡ 256 → ⊥)
    → (get_or SENT_WORDS b 0 < 16) × (mirror b ≡ code_word (get_or SENT_WORDS b 0))
unfolding mirror
sent_entry_gives_code_word b l some =
    let test : ℕ → Bool = λ b. nat_eq (get_or SENT_WORDS b 0) 256
    || (nat_lt (get_or SENT_WORDS b 0) 16 && nat_eq (mirror b) (code_word (get_or SENT_WORDS b 0)))
    in
    let passes = agree_below_at test (λ b. true) 0x100 b refl l in
    grind (arith, nat_tests)

pub sent_code_word_decodes : (b : ℕ) → b < 0x100
    → (get_or SENT_WORDS b 0 ≡ 256 → ⊥)
    → (get_or SENT_WORDS b 0 < 16) × IsCodeWord (mirror b)
    × (decoded_nibble (mirror b) ≡ Some (get_or SENT_WORDS b 0))
sent_code_word_decodes b l some =
    let word = sent_entry_gives_code_word b l some in (
      word.0,
      (get_or SENT_WORDS b 0, word.0, word.1),
      rw word.1 (decoded_nibble-code_word (get_or SENT_WORDS b 0) word.0),
    )

-- If the table entry of a byte is 256, the byte with its bits reversed is no code word.
pub missing_entry_no_code_word : (b : ℕ) → b < 0x100 → get_or SENT_WORDS b 0 ≡ 256
    → IsCodeWord (mirror b) → ⊥
unfolding mirror
missing_entry_no_code_word b l none (n, small, is) =
    let entry =
    agree_below_at (λ n. nat_eq (get_or SENT_WORDS (mirror (code_word n)) 0) n) (λ n. true) 16 n
    refl small in
    let back : mirror (code_word n) ≡ b = ap mirror (sym is) ∙ mirror-mirror b l in
    let number : get_or SENT_WORDS b 0 ≡ n = rw (← back) (eqb-true _ _ entry) in
    omega (arith, none, number, small)

module _ (packet bytes : List ℕ) (is : map mirror bytes ≡ packet) (long : length bytes ≡ 42) where
  pub sent_byte_is_mirrored : (k : ℕ) → k < 42 → mirror (slice_index bytes k) ≡ slice_index packet k
  sent_byte_is_mirrored k l = rw (← is, get_or-map mirror bytes k 0 0 (omega arith)) refl

  pub byte_is_no_code_word : (k : ℕ) → k < 42 → (IsCodeWord (mirror (slice_index bytes k)) → ⊥)
      → IsCodeWord (slice_index packet k) → ⊥
  byte_is_no_code_word k l none word = none (rw (sent_byte_is_mirrored k l) word)

  pub byte_is_code_word : (k n : ℕ) → k < 42
      → (n < 16) × IsCodeWord (mirror (slice_index bytes k))
      × (decoded_nibble (mirror (slice_index bytes k)) ≡ Some n)
      → IsCodeWord (slice_index packet k) × (decoded_at packet k ≡ Some n)
  byte_is_code_word k n l word = rw (← sent_byte_is_mirrored k l) (word.1, word.2)

pub two_code_words_give_address : (packet : List ℕ) → IsCodeWord (slice_index packet 0)
    → IsCodeWord (slice_index packet 1) → HasExactAddress packet
two_code_words_give_address packet first second zero l = first
two_code_words_give_address packet first second (suc zero) l = second
two_code_words_give_address packet first second (suc (suc k)) l = absurd (omega arith)

pub eight_code_words_give_header : (p : List ℕ) → IsCodeWord (slice_index p 2) → IsCodeWord
    (slice_index p 3)
    → IsCodeWord (slice_index p 4) → IsCodeWord (slice_index p 5) → IsCodeWord (slice_index p 6)
    → IsCodeWord (slice_index p 7) → IsCodeWord (slice_index p 8) → IsCodeWord (slice_index p 9)
    → HasExactHeader p
eight_code_words_give_header p b2 b3 b4 b5 b6 b7 b8 b9 k low high =
    elim (cases_lt k 6) [
      | inl l ↦ grind (arith, cases_eq k 2, cases_eq k 3, cases_eq k 4, cases_eq k 5)
      | inr l ↦ grind (arith, cases_eq k 6, cases_eq k 7, cases_eq k 8, cases_eq k 9)
    ]

pub address_from_two_nibbles : (p : List ℕ) (low high : ℕ)
    → decoded_at p 0 ≡ Some low
    → decoded_at p 1 ≡ Some high
    → address p
    ≡ Some (record {
      magazine = (low + 0x10 * high) % 8;
      packet_number = (low + 0x10 * high) / 8;
    })
unfolding address
address_from_two_nibbles p low high first second = rw (first, second) refl

pub header_from_eight_nibbles : (p : List ℕ) (units tens s1 s2_c4 s3 s4_c6 c7_c10 c11_c14 : ℕ)
    (h : Header)
    → decoded_at p 2 ≡ Some units → decoded_at p 3 ≡ Some tens → decoded_at p 4 ≡ Some s1
    → decoded_at p 5 ≡ Some s2_c4 → decoded_at p 6 ≡ Some s3 → decoded_at p 7 ≡ Some s4_c6
    → decoded_at p 8 ≡ Some c7_c10 → decoded_at p 9 ≡ Some c11_c14
    → h.page ≡ units + 0x10 * tens
    → h.subcode ≡ s1 + 0x10 * (s2_c4 % 8) + 0x100 * s3 + 0x1000 * (s4_c6 % 4)
    → h.control.0 ≡ s2_c4 / 8 + 2 * (s4_c6 / 4) + 8 * c7_c10 + 0x80 * c11_c14
    → decoded_header p ≡ Some h
unfolding decoded_header
header_from_eight_nibbles p units tens s1 s2_c4 s3 s4_c6 c7_c10 c11_c14 h
    a b c d e f g i page subcode control =
    rw (a, b, c, d, e, f, g, i, ← page, ← subcode, ← control) refl

pub page_from_two_nibbles : (p : List ℕ) (units tens : ℕ)
    → decoded_at p 2 ≡ Some units
    → decoded_at p 3 ≡ Some tens
    → decoded_page p ≡ Some (units + 0x10 * tens)
unfolding decoded_page
page_from_two_nibbles p units tens first second = rw (first, second) refl
