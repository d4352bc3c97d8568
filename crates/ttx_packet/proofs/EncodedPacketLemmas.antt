-- Decoding a created packet returns the contents that it encodes.
use Rattle.std.proofs.Common.{rules, ◌≡◌, ℕ, [], zero, suc, ◌+◌, ◌*◌, ◌/◌, ◌%◌, ◌<◌, ◌≤◌, Bool}
use Rattle.std.proofs.Common.{true, ◌==◌, List, ◌∷◌, ◌++◌, map, replicate, Some, slice_index, refl}
use Rattle.std.proofs.Common.{sym, ap, ◌∙◌, subst, arith, ◌-◌, ◌^◌, bit_and, div-add-mod', All}
use Rattle.std.specs.Int.{bit_at}
use Rattle.std.specs.Int.RustNames.{count_ones}
use lib.Count.{ones_in}
use Rattle.std.proofs.lemmas.Bool.Decides.{nat_tests}
use Rattle.std.proofs.lemmas.Nat.Bits.{and_pow, bit_at_cat_low}
use Rattle.std.proofs.lemmas.List.{append-nil, get_or-drop, get_or-map, get_or-replicate}
use Rattle.std.proofs.lemmas.List.{length-map, get_or_append_left}
use Rattle.std.proofs.lemmas.List.Elements.{All-from_recursion}
use Rattle.ttx_packet.specs.declared.header.Header.{Header}
use Rattle.ttx_packet.specs.Hamming84.{IsCodeWord, code_word}
use Rattle.ttx_packet.specs.Parity.{is_odd, odd_parity_byte}
use Rattle.ttx_packet.specs.PacketAddress.{address, address_code_words}
use Rattle.ttx_packet.specs.PageHeader.{bit, nibble, decoded_header, header, header_numbers}
use Rattle.ttx_packet.specs.PageHeader.{header_packet, IsEncodableHeader, c4, c5, c6, c7, c8, c9}
use Rattle.ttx_packet.specs.PageHeader.{c10, c11, c12, c13, c14, encodable_header}
use Rattle.ttx_packet.specs.PageHeader.{HasOddParityHeaderText}
use Rattle.ttx_packet.specs.RowPacket.{row_packet}
use Rattle.ttx_packet.specs.Laws.{IsEncodedHeader, LawOfHeaderPacket, LawOfRowPacket}
use Rattle.ttx_packet.proofs.Hamming84Lemmas.{decoded_nibble-code_word, code_word_is_exact}
use Rattle.ttx_packet.proofs.ParityLemmas.{parity_byte_is_odd, parity_byte_keeps_code}
use Rattle.ttx_packet.proofs.ControlLemmas.{bit_is_below_two, nibble_is_below_16}
use Rattle.ttx_packet.proofs.ControlLemmas.{joined_bits_restore_control}

header_numbers_are_nibbles : (h : Header) → IsEncodableHeader h
    → All (λ n. n < 16) (header_numbers h)
header_numbers_are_nibbles h is = search (
  rules,
  nibble_is_below_16,
  bit_is_below_two,
  All-from_recursion,
)

subcode_parts_restore_subcode : (n : ℕ) (b c d : Bool) → n < 0x4000 → n / 128 % 2 ≡ 0
    → n % 16 + 16 * ((n / 16 % 8 + 8 * bit b) % 8) + 256 * (n / 256 % 16) + 4096 *
    ((n / 4096 % 4 + 4 * bit c + 8 * bit d) % 4) ≡ n
subcode_parts_restore_subcode n b c d l gap = grind (arith, nat_tests)

control_bits_are_joined : (n s2 s4 : ℕ) (c4 c5 c6 : Bool) → s2 < 8 → s4 < 4
    → (s2 + 8 * bit c4) / 8 + 2 * ((s4 + 4 * bit c5 + 8 * bit c6) / 4) ≡ bit c4 + 2 *
    (bit c5 + 2 * bit c6)
control_bits_are_joined n s2 s4 c4 c5 c6 l m = omega (
  arith,
  bit_is_below_two c4,
  bit_is_below_two
      c5,
  bit_is_below_two c6,
)

encoded_header_decodes : (magazine : ℕ) (h : Header) → IsEncodableHeader h
    → decoded_header (header_packet magazine h) ≡ Some h
unfolding decoded_header header_packet
encoded_header_decodes magazine h is =
    let small = λ (k : ℕ). header_numbers_are_nibbles h is k 0 in
    let e2 = decoded_nibble-code_word _ (small 0 (omega arith)) in
    let e3 = decoded_nibble-code_word _ (small 1 (omega arith)) in
    let e4 = decoded_nibble-code_word _ (small 2 (omega arith)) in
    let e5 = decoded_nibble-code_word _ (small 3 (omega arith)) in
    let e6 = decoded_nibble-code_word _ (small 4 (omega arith)) in
    let e7 = decoded_nibble-code_word _ (small 5 (omega arith)) in
    let e8 = decoded_nibble-code_word _ (small 6 (omega arith)) in
    let e9 = decoded_nibble-code_word _ (small 7 (omega arith)) in
    let page : h.page % 16 + 16 * (h.page / 16) ≡ h.page = omega arith in
    let subcode = subcode_parts_restore_subcode h.subcode (c4 h) (c5 h) (c6 h) is.subcode
    is.subcode_bit_8_is_zero in
    let low =
    control_bits_are_joined h.control.0 (h.subcode / 16 % 8) (h.subcode / 4096 % 4) (c4 h) (c5 h)
    (c6 h)
    (omega arith) (omega arith) in
    let control = joined_bits_restore_control h.control.0 is.control in
    rw (e2, e3, e4, e5, e6, e7, e8, e9, page, subcode, low, control) refl

encoded_header_has_code_words : (magazine : ℕ) (h : Header) → IsEncodableHeader h → (k : ℕ) → 2 ≤ k
    → k < 10
    → IsCodeWord (slice_index (header_packet magazine h) k)
unfolding header_packet
encoded_header_has_code_words magazine h is zero a b = absurd (omega arith)
encoded_header_has_code_words magazine h is (suc zero) a b = absurd (omega arith)
encoded_header_has_code_words magazine h is (suc (suc k)) a b =
    let words = map code_word (header_numbers h) in
    rw (get_or_append_left words (replicate 32 0x20) 0 k (omega arith))
    (rw (get_or-map code_word (header_numbers h) k 0 0 (omega arith))
    (code_word_is_exact _ (header_numbers_are_nibbles h is k 0 (omega arith))))

pub encoded_address_decodes : (magazine y : ℕ) (rest : List ℕ) → magazine < 8 → y < 32
    → address (address_code_words magazine y ++ rest) ≡ Some
    (record { magazine = magazine; packet_number = y })
unfolding address
encoded_address_decodes magazine y rest m l =
    let low = decoded_nibble-code_word ((magazine + 8 * y) % 16) (omega arith) in
    grind (arith, nat_tests, decoded_nibble-code_word)

encoded_address_has_code_words : (magazine y : ℕ) (rest : List ℕ) → magazine < 8 → y < 32 → (k : ℕ)
    → k < 2
    → IsCodeWord (slice_index (address_code_words magazine y ++ rest) k)
encoded_address_has_code_words magazine y rest m l zero b =
    code_word_is_exact ((magazine + 8 * y) % 16) (omega arith)
encoded_address_has_code_words magazine y rest m l (suc zero) b = search (rules, code_word_is_exact)
encoded_address_has_code_words magazine y rest m l (suc (suc k)) b = absurd (omega arith)

space_has_odd_parity : is_odd 0x20 ≡ true
unfolding is_odd count_ones ones_in
space_has_odd_parity = refl

header_text_has_odd_parity : (magazine : ℕ) (h : Header) → HasOddParityHeaderText
    (header_packet magazine h)
unfolding header_packet
header_text_has_odd_parity magazine h place from below =
    let ten : place ≡ 10 + (place - 10) = omega arith in
    let at : slice_index (header_packet magazine h) place ≡ 0x20 =
    ap (slice_index (header_packet magazine h)) ten
    ∙ sym (get_or-drop 10 (header_packet magazine h) (place - 10) 0)
    ∙ get_or-replicate 32 (place - 10) 0x20 0 (omega arith) in
    rw at space_has_odd_parity

pub law_of_header_packet : LawOfHeaderPacket
unfolding header_packet header
law_of_header_packet magazine h m is =
    search (
      rules,
      encoded_address_decodes,
      encoded_header_decodes,
      encoded_address_has_code_words,
      encoded_header_has_code_words,
      header_text_has_odd_parity,
    )

truncation_keeps_control_bits : (n k : ℕ)
    → k < 11
    → (bit_and (n % 0x800) (2 ^ k) == 2 ^ k) ≡ (bit_and n (2 ^ k) == 2 ^ k)
truncation_keeps_control_bits n k l =
    let same : bit_at (n % 0x800) k ≡ bit_at n k =
    sym (bit_at_cat_low (n / 0x800) 11 (n % 0x800) k l)
    ∙ ap (λ m. bit_at m k) (div-add-mod' n 0x800) in
    grind (arith, nat_tests, and_pow)

-- Bits that a page header cannot carry are in no byte of the packet, so dropping them first does
-- not change the packet.
header_packet-encodable_header :
    (magazine : ℕ) (h : Header) → header_packet magazine (encodable_header h) ≡ header_packet
    magazine h
unfolding header_packet
header_packet-encodable_header magazine h =
    let n = h.subcode in
    let m = n % 0x80 + 0x100 * (n / 0x100 % 0x40) in
    let s1 : m % 0x10 ≡ n % 0x10 = omega arith in
    let s2 : m / 0x10 % 8 ≡ n / 0x10 % 8 = omega arith in
    let s3 : m / 0x100 % 0x10 ≡ n / 0x100 % 0x10 = omega arith in
    let s4 : m / 0x1000 % 4 ≡ n / 0x1000 % 4 = omega arith in
    let at : (k : ℕ) → k < 11 → (bit_and (h.control.0 % 0x800) (2 ^ k) == 2 ^ k)
    ≡ (bit_and h.control.0 (2 ^ k) == 2 ^ k) = truncation_keeps_control_bits h.control.0 in
    rw (s1, s2, s3, s4, at 0 (omega arith), at 1 (omega arith), at 2 (omega arith))
    (rw (at 3 (omega arith), at 4 (omega arith), at 5 (omega arith), at 6 (omega arith))
    (rw (at 7 (omega arith), at 8 (omega arith), at 9 (omega arith), at 10 (omega arith)) refl))

pub header_reads_back : (magazine : ℕ) (h : Header) → magazine < 8 → h.page < 0x100
    → IsEncodedHeader magazine (encodable_header h) (header_packet magazine h)
header_reads_back magazine h m page =
    subst (IsEncodedHeader magazine (encodable_header h)) (header_packet-encodable_header magazine
    h)
    (law_of_header_packet magazine (encodable_header h) m
    (record {
      page = page;
      subcode = omega arith;
      subcode_bit_8_is_zero = omega arith;
      control = omega arith;
    }))

pub law_of_row_packet : LawOfRowPacket
unfolding row_packet header
law_of_row_packet magazine y codes m one small forty all =
    let text = map odd_parity_byte codes in
    let at = encoded_address_decodes magazine y text m small in
    let byte : (column : ℕ) → column < 40
    → slice_index (row_packet magazine y codes) (column + 2) ≡ odd_parity_byte
    (slice_index codes column) = λ column l.
    let two : column + 2 ≡ suc (suc column) = omega arith in
    rw two (get_or-map odd_parity_byte codes column 0 0 (omega (arith, forty))) in
    let code : (column : ℕ) → column < 40
    → slice_index codes column < 128 = λ column l. all column 0 (omega (arith, forty)) in
    record {
      whole = simp length-map (omega (arith, forty));
      address = at;
      header = rw at (grind (arith, nat_tests));
      exact = (encoded_address_has_code_words magazine y text m small, λ a e z. grind arith);
      text = λ column l. rw (byte column l) (parity_byte_keeps_code _ (code column l));
      odd = λ column l. rw (byte column l) (parity_byte_is_odd _ (code column l));
    }

pub header_packet-from_words : (magazine : ℕ) (h : Header) (b0 b1 b2 b3 b4 b5 b6 b7 b8 b9 : ℕ)
    → magazine < 8
    → b0 ≡ code_word magazine
    → b1 ≡ code_word 0
    → b2 ≡ code_word (h.page % 0x10)
    → b3 ≡ code_word (h.page / 0x10)
    → b4 ≡ code_word (h.subcode % 0x10)
    → b5 ≡ code_word (h.subcode / 0x10 % 8 + 8 * bit (c4 h))
    → b6 ≡ code_word (h.subcode / 0x100 % 0x10)
    → b7 ≡ code_word (h.subcode / 0x1000 % 4 + 4 * bit (c5 h) + 8 * bit (c6 h))
    → b8 ≡ code_word (nibble (c7 h) (c8 h) (c9 h) (c10 h))
    → b9 ≡ code_word (nibble (c11 h) (c12 h) (c13 h) (c14 h))
    → b0 ∷ b1 ∷ b2 ∷ b3 ∷ b4 ∷ b5 ∷ b6 ∷ b7 ∷ b8 ∷ b9 ∷ replicate 32 0x20 ≡ header_packet magazine h
unfolding header_packet
header_packet-from_words magazine h b0 b1 b2 b3 b4 b5 b6 b7 b8 b9 l e0 e1 e2 e3 e4 e5 e6 e7 e8 e9 =
    grind (arith, nat_tests)

pub row_packet-from_text : (magazine y low high : ℕ) (codes text : List ℕ)
    → low ≡ code_word ((magazine + 8 * y) % 16)
    → high ≡ code_word ((magazine + 8 * y) / 16)
    → text ≡ map odd_parity_byte codes
    → low ∷ high ∷ (text ++ []) ≡ row_packet magazine y codes
unfolding row_packet
row_packet-from_text magazine y low high codes text l h t = grind (arith, nat_tests, append-nil)
